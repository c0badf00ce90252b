use Rattle.std.proofs.Common.{◌≡◌, ℕ, ◌+◌, List, [], ◌∷◌, Ok, Err, true, false, ap, subst, sym, ◌∙◌, rules}
use Rattle.std.proofs.lemmas.Result.{err_from_is_err_and}
use Rattle.model_play.specs.Play.{is_done, send}
use Rattle.mc_card.specs.Parts.{card_in, session_state_in, due}
use Rattle.mc_script.specs.Runs.{sent_to}
use Rattle.mc_script.specs.StepCounts.{first_search, instructions}
use Rattle.mc_machine.specs.Turns.{outcome_value}
use Rattle.mc_script.proofs.SendLemmas.{Sends, elsewhere, managed_turns, sends_on, sends_end, sends_stop, sends_none}
use Rattle.mc_script.proofs.StepLemmas.{send_instructions}
use Rattle.mc_script.proofs.StepRunLemmas.{SearchesLeft, left_on, left_end, left_none}
use Rattle.mc_script.proofs.loading.send.Goals as goal

pub returns-in_err-run-clause-done : goal.returns-in_err-run-clause-done
returns-in_err-run-clause-done g c =
    let b = c.as_slice.result.now in
    let is : c.loop-bytes.commands ≡ b ∷ c.next.new.self = c.next.ensures.command c.loop-bytes-test.true ∙ ap (λ (t : List ℕ). t ∷ c.next.new.self) (sym c.as_slice.ensures.value) in
    let sends = subst (λ (left : List (List ℕ)). Sends g.N.Nvm.state g.N.Nvm.wrote g.met.N.Nvm.obeys (g.R.Runner.reported (sent_to g.N.Nvm.state c.args.card.now [] c.args.budget)) (g.met.R.Runner.silent (sent_to g.N.Nvm.state c.args.card.now [] c.args.budget)) (g.met.R.Runner.onward (sent_to g.N.Nvm.state c.args.card.now [] c.args.budget) (sent_to g.N.Nvm.state c.args.card.now [] c.args.budget)) c.args.card.now c.args.budget c.args.commands.now c.args.runner.now left c.loop-bytes.card c.loop-bytes.runner) is c.loop-bytes.invariant.sends in
    let p = err_from_is_err_and c.from_residual.result c.from_residual.ensures.1 in
    rw (p.1, p.2)
    (sends_stop g.N.Nvm.state g.N.Nvm.wrote g.met.N.Nvm.obeys (g.R.Runner.reported (sent_to g.N.Nvm.state c.args.card.now [] c.args.budget)) (g.met.R.Runner.silent (sent_to g.N.Nvm.state c.args.card.now [] c.args.budget)) (g.met.R.Runner.onward (sent_to g.N.Nvm.state c.args.card.now [] c.args.budget) (sent_to g.N.Nvm.state c.args.card.now [] c.args.budget)) c.args.card.now c.loop-bytes.card c.run.new.card c.args.budget c.args.commands.now c.args.runner.now c.loop-bytes.runner c.run.new.self b c.next.new.self c.in_err-run.field-0.0 sends (elsewhere g.N.Nvm.state g.N.Nvm.wrote (g.R.Runner.reported (sent_to g.N.Nvm.state c.loop-bytes.card b c.args.budget)) (g.R.Runner.reported (sent_to g.N.Nvm.state c.args.card.now [] c.args.budget)) (λ q r h. g.met.R.Runner.onward (sent_to g.N.Nvm.state c.args.card.now [] c.args.budget) (sent_to g.N.Nvm.state c.loop-bytes.card b c.args.budget) q q r (g.met.R.Runner.silent (sent_to g.N.Nvm.state c.args.card.now [] c.args.budget) q) h) (Err c.in_err-run.field-0.0) c.loop-bytes.card c.run.new.card (due g.N.Nvm.state c.loop-bytes.card b c.args.budget) c.loop-bytes.runner c.run.new.self (managed_turns (card_in g.N.Nvm.state c.loop-bytes.card) (session_state_in g.N.Nvm.state c.loop-bytes.card) b c.args.budget sends.managed.0) c.in_err-run.ensures.done))

pub returns-then-not-is_done-clause-done : goal.returns-then-not-is_done-clause-done
returns-then-not-is_done-clause-done g c =
    let b = c.as_slice.result.now in
    let is : c.loop-bytes.commands ≡ b ∷ c.next.new.self = c.next.ensures.command c.loop-bytes-test.true ∙ ap (λ (t : List ℕ). t ∷ c.next.new.self) (sym c.as_slice.ensures.value) in
    let sends = subst (λ (left : List (List ℕ)). Sends g.N.Nvm.state g.N.Nvm.wrote g.met.N.Nvm.obeys (g.R.Runner.reported (sent_to g.N.Nvm.state c.args.card.now [] c.args.budget)) (g.met.R.Runner.silent (sent_to g.N.Nvm.state c.args.card.now [] c.args.budget)) (g.met.R.Runner.onward (sent_to g.N.Nvm.state c.args.card.now [] c.args.budget) (sent_to g.N.Nvm.state c.args.card.now [] c.args.budget)) c.args.card.now c.args.budget c.args.commands.now c.args.runner.now left c.loop-bytes.card c.loop-bytes.runner) is c.loop-bytes.invariant.sends in
    let bad : is_done (outcome_value c.run.new.into) ≡ false = search rules in
    sends_end g.N.Nvm.state g.N.Nvm.wrote g.met.N.Nvm.obeys (g.R.Runner.reported (sent_to g.N.Nvm.state c.args.card.now [] c.args.budget)) (g.met.R.Runner.silent (sent_to g.N.Nvm.state c.args.card.now [] c.args.budget)) (g.met.R.Runner.onward (sent_to g.N.Nvm.state c.args.card.now [] c.args.budget) (sent_to g.N.Nvm.state c.args.card.now [] c.args.budget)) c.args.card.now c.loop-bytes.card c.run.new.card c.args.budget c.args.commands.now c.args.runner.now c.loop-bytes.runner c.run.new.self b c.next.new.self c.run.new.into sends (elsewhere g.N.Nvm.state g.N.Nvm.wrote (g.R.Runner.reported (sent_to g.N.Nvm.state c.loop-bytes.card b c.args.budget)) (g.R.Runner.reported (sent_to g.N.Nvm.state c.args.card.now [] c.args.budget)) (λ q r h. g.met.R.Runner.onward (sent_to g.N.Nvm.state c.args.card.now [] c.args.budget) (sent_to g.N.Nvm.state c.loop-bytes.card b c.args.budget) q q r (g.met.R.Runner.silent (sent_to g.N.Nvm.state c.args.card.now [] c.args.budget) q) h) (Ok c.run.new.into) c.loop-bytes.card c.run.new.card (due g.N.Nvm.state c.loop-bytes.card b c.args.budget) c.loop-bytes.runner c.run.new.self (managed_turns (card_in g.N.Nvm.state c.loop-bytes.card) (session_state_in g.N.Nvm.state c.loop-bytes.card) b c.args.budget sends.managed.0) c.in_ok-run.ensures.done) bad

pub loop-bytes-preserved : goal.loop-bytes-preserved
loop-bytes-preserved g c =
    let b = c.as_slice.result.now in
    let is : c.loop-bytes.commands ≡ b ∷ c.next.new.self = c.next.ensures.command c.loop-bytes-test.true ∙ ap (λ (t : List ℕ). t ∷ c.next.new.self) (sym c.as_slice.ensures.value) in
    let sends = subst (λ (left : List (List ℕ)). Sends g.N.Nvm.state g.N.Nvm.wrote g.met.N.Nvm.obeys (g.R.Runner.reported (sent_to g.N.Nvm.state c.args.card.now [] c.args.budget)) (g.met.R.Runner.silent (sent_to g.N.Nvm.state c.args.card.now [] c.args.budget)) (g.met.R.Runner.onward (sent_to g.N.Nvm.state c.args.card.now [] c.args.budget) (sent_to g.N.Nvm.state c.args.card.now [] c.args.budget)) c.args.card.now c.args.budget c.args.commands.now c.args.runner.now left c.loop-bytes.card c.loop-bytes.runner) is c.loop-bytes.invariant.sends in
    let good : is_done (outcome_value c.run.new.into) ≡ true = search rules in
    record {
      sends = sends_on g.N.Nvm.state g.N.Nvm.wrote g.met.N.Nvm.obeys (g.R.Runner.reported (sent_to g.N.Nvm.state c.args.card.now [] c.args.budget)) (g.met.R.Runner.silent (sent_to g.N.Nvm.state c.args.card.now [] c.args.budget)) (g.met.R.Runner.onward (sent_to g.N.Nvm.state c.args.card.now [] c.args.budget) (sent_to g.N.Nvm.state c.args.card.now [] c.args.budget)) c.args.card.now c.loop-bytes.card c.run.new.card c.args.budget c.args.commands.now c.args.runner.now c.loop-bytes.runner c.run.new.self b c.next.new.self c.run.new.into sends (elsewhere g.N.Nvm.state g.N.Nvm.wrote (g.R.Runner.reported (sent_to g.N.Nvm.state c.loop-bytes.card b c.args.budget)) (g.R.Runner.reported (sent_to g.N.Nvm.state c.args.card.now [] c.args.budget)) (λ q r h. g.met.R.Runner.onward (sent_to g.N.Nvm.state c.args.card.now [] c.args.budget) (sent_to g.N.Nvm.state c.loop-bytes.card b c.args.budget) q q r (g.met.R.Runner.silent (sent_to g.N.Nvm.state c.args.card.now [] c.args.budget) q) h) (Ok c.run.new.into) c.loop-bytes.card c.run.new.card (due g.N.Nvm.state c.loop-bytes.card b c.args.budget) c.loop-bytes.runner c.run.new.self (managed_turns (card_in g.N.Nvm.state c.loop-bytes.card) (session_state_in g.N.Nvm.state c.loop-bytes.card) b c.args.budget sends.managed.0) c.in_ok-run.ensures.done) good;
      steps = left_on (card_in g.N.Nvm.state c.loop-bytes.card) (card_in g.N.Nvm.state c.run.new.card) b c.next.new.self (instructions (due g.N.Nvm.state c.loop-bytes.card b c.args.budget).turns) c.args.steps.now c.loop-bytes.steps c.run.new.steps (c.args.steps.now + first_search (card_in g.N.Nvm.state c.args.card.now) c.args.commands.now)
          (subst (λ (left : List (List ℕ)). SearchesLeft (card_in g.N.Nvm.state c.loop-bytes.card) left c.args.steps.now c.loop-bytes.steps (c.args.steps.now + first_search (card_in g.N.Nvm.state c.args.card.now) c.args.commands.now)) is c.loop-bytes.invariant.steps) (ap instructions (managed_turns (card_in g.N.Nvm.state c.loop-bytes.card) (session_state_in g.N.Nvm.state c.loop-bytes.card) b c.args.budget sends.managed.0)) c.in_ok-run.ensures.steps;
      keeps_device = g.met.N.Nvm.onward _ _ _ c.loop-bytes.invariant.keeps_device c.run.ensures.keeps_device;
    }

pub returns-clause-done : goal.returns-clause-done
returns-clause-done g c =
    let sends = subst (λ (left : List (List ℕ)). Sends g.N.Nvm.state g.N.Nvm.wrote g.met.N.Nvm.obeys (g.R.Runner.reported (sent_to g.N.Nvm.state c.args.card.now [] c.args.budget)) (g.met.R.Runner.silent (sent_to g.N.Nvm.state c.args.card.now [] c.args.budget)) (g.met.R.Runner.onward (sent_to g.N.Nvm.state c.args.card.now [] c.args.budget) (sent_to g.N.Nvm.state c.args.card.now [] c.args.budget)) c.args.card.now c.args.budget c.args.commands.now c.args.runner.now left c.loop-bytes.card c.loop-bytes.runner) (c.next.ensures.none c.loop-bytes-test.false) c.loop-bytes.invariant.sends in
    sends_none g.N.Nvm.state g.N.Nvm.wrote g.met.N.Nvm.obeys (g.R.Runner.reported (sent_to g.N.Nvm.state c.args.card.now [] c.args.budget)) (g.met.R.Runner.silent (sent_to g.N.Nvm.state c.args.card.now [] c.args.budget)) (g.met.R.Runner.onward (sent_to g.N.Nvm.state c.args.card.now [] c.args.budget) (sent_to g.N.Nvm.state c.args.card.now [] c.args.budget)) c.args.card.now c.loop-bytes.card c.args.budget c.args.commands.now c.args.runner.now c.loop-bytes.runner c.put_done.new.self sends c.put_done.ensures.value

pub returns-in_err-run-clause-steps : goal.returns-in_err-run-clause-steps
returns-in_err-run-clause-steps g c =
    let b = c.as_slice.result.now in
    let is : c.loop-bytes.commands ≡ b ∷ c.next.new.self = c.next.ensures.command c.loop-bytes-test.true ∙ ap (λ (t : List ℕ). t ∷ c.next.new.self) (sym c.as_slice.ensures.value) in
    let sends = subst (λ (left : List (List ℕ)). Sends g.N.Nvm.state g.N.Nvm.wrote g.met.N.Nvm.obeys (g.R.Runner.reported (sent_to g.N.Nvm.state c.args.card.now [] c.args.budget)) (g.met.R.Runner.silent (sent_to g.N.Nvm.state c.args.card.now [] c.args.budget)) (g.met.R.Runner.onward (sent_to g.N.Nvm.state c.args.card.now [] c.args.budget) (sent_to g.N.Nvm.state c.args.card.now [] c.args.budget)) c.args.card.now c.args.budget c.args.commands.now c.args.runner.now left c.loop-bytes.card c.loop-bytes.runner) is c.loop-bytes.invariant.sends in
    let p = err_from_is_err_and c.from_residual.result c.from_residual.ensures.1 in
    rw p.1
    (left_end (card_in g.N.Nvm.state c.loop-bytes.card) b c.next.new.self (instructions (due g.N.Nvm.state c.loop-bytes.card b c.args.budget).turns) (instructions (send (card_in g.N.Nvm.state c.args.card.now) (session_state_in g.N.Nvm.state c.args.card.now) c.args.budget c.args.commands.now).turns) (first_search (card_in g.N.Nvm.state c.args.card.now) c.args.commands.now) c.args.steps.now c.loop-bytes.steps c.run.new.steps true
    (subst (λ (left : List (List ℕ)). SearchesLeft (card_in g.N.Nvm.state c.loop-bytes.card) left c.args.steps.now c.loop-bytes.steps (c.args.steps.now + first_search (card_in g.N.Nvm.state c.args.card.now) c.args.commands.now)) is c.loop-bytes.invariant.steps) (ap instructions (managed_turns (card_in g.N.Nvm.state c.loop-bytes.card) (session_state_in g.N.Nvm.state c.loop-bytes.card) b c.args.budget sends.managed.0)) (send_instructions (card_in g.N.Nvm.state c.args.card.now) (session_state_in g.N.Nvm.state c.args.card.now) c.args.budget c.args.commands.now c.requires.managed) c.in_err-run.ensures.steps)

pub returns-then-not-is_done-clause-steps : goal.returns-then-not-is_done-clause-steps
returns-then-not-is_done-clause-steps g c =
    let b = c.as_slice.result.now in
    let is : c.loop-bytes.commands ≡ b ∷ c.next.new.self = c.next.ensures.command c.loop-bytes-test.true ∙ ap (λ (t : List ℕ). t ∷ c.next.new.self) (sym c.as_slice.ensures.value) in
    let sends = subst (λ (left : List (List ℕ)). Sends g.N.Nvm.state g.N.Nvm.wrote g.met.N.Nvm.obeys (g.R.Runner.reported (sent_to g.N.Nvm.state c.args.card.now [] c.args.budget)) (g.met.R.Runner.silent (sent_to g.N.Nvm.state c.args.card.now [] c.args.budget)) (g.met.R.Runner.onward (sent_to g.N.Nvm.state c.args.card.now [] c.args.budget) (sent_to g.N.Nvm.state c.args.card.now [] c.args.budget)) c.args.card.now c.args.budget c.args.commands.now c.args.runner.now left c.loop-bytes.card c.loop-bytes.runner) is c.loop-bytes.invariant.sends in
    left_end (card_in g.N.Nvm.state c.loop-bytes.card) b c.next.new.self (instructions (due g.N.Nvm.state c.loop-bytes.card b c.args.budget).turns) (instructions (send (card_in g.N.Nvm.state c.args.card.now) (session_state_in g.N.Nvm.state c.args.card.now) c.args.budget c.args.commands.now).turns) (first_search (card_in g.N.Nvm.state c.args.card.now) c.args.commands.now) c.args.steps.now c.loop-bytes.steps c.run.new.steps false
    (subst (λ (left : List (List ℕ)). SearchesLeft (card_in g.N.Nvm.state c.loop-bytes.card) left c.args.steps.now c.loop-bytes.steps (c.args.steps.now + first_search (card_in g.N.Nvm.state c.args.card.now) c.args.commands.now)) is c.loop-bytes.invariant.steps) (ap instructions (managed_turns (card_in g.N.Nvm.state c.loop-bytes.card) (session_state_in g.N.Nvm.state c.loop-bytes.card) b c.args.budget sends.managed.0)) (send_instructions (card_in g.N.Nvm.state c.args.card.now) (session_state_in g.N.Nvm.state c.args.card.now) c.args.budget c.args.commands.now c.requires.managed) c.in_ok-run.ensures.steps

pub returns-clause-steps : goal.returns-clause-steps
returns-clause-steps g c =
    let steps = subst (λ (left : List (List ℕ)). SearchesLeft (card_in g.N.Nvm.state c.loop-bytes.card) left c.args.steps.now c.loop-bytes.steps (c.args.steps.now + first_search (card_in g.N.Nvm.state c.args.card.now) c.args.commands.now)) (c.next.ensures.none c.loop-bytes-test.false) c.loop-bytes.invariant.steps in
    left_none (card_in g.N.Nvm.state c.loop-bytes.card) (instructions (send (card_in g.N.Nvm.state c.args.card.now) (session_state_in g.N.Nvm.state c.args.card.now) c.args.budget c.args.commands.now).turns) (first_search (card_in g.N.Nvm.state c.args.card.now) c.args.commands.now) c.args.steps.now c.loop-bytes.steps false steps (send_instructions (card_in g.N.Nvm.state c.args.card.now) (session_state_in g.N.Nvm.state c.args.card.now) c.args.budget c.args.commands.now c.requires.managed)
