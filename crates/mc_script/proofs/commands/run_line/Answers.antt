use Rattle.std.proofs.Common.{subst, sym, ◌∙◌, List, [], ℕ}
use Rattle.std.specs.Prelude.{is_err}
use Rattle.model_play.specs.Play.{send, line_command}
use Rattle.mc_card.specs.Parts.{card_in, session_state_in, due}
use Rattle.mc_card.specs.Ends.{outcome_or_stop}
use Rattle.mc_script.specs.declared.commands.CardLine.{CardLine}
use Rattle.mc_script.specs.Commands.{deck_line_of}
use Rattle.mc_script.specs.Runs.{RanAndReported, line_bytes, sent_to}
use Rattle.mc_script.specs.StepCounts.{instructions, first_search, line_search, StepsOf}
use Rattle.mc_script.proofs.commands.run_line.Goals as goal

pub returns-in-Load-clause-done : goal.returns-in-Load-clause-done
returns-in-Load-clause-done g c =
    let state = g.N.Nvm.state in
    let card = card_in state c.args.card.now in
    let session_state = session_state_in state c.args.card.now in
    subst (λ (x : CardLine). RanAndReported state g.N.Nvm.wrote (g.R.Runner.reported (sent_to state c.args.card.now (line_bytes (deck_line_of x)) c.args.budget)) c.args.card.now (line_command card session_state c.args.budget (deck_line_of x)) (outcome_or_stop c.send.result c.send.new.into) c.send.new.card c.args.runner.now c.send.new.runner) (sym c.in-Load.is)
    (subst (λ (x : List (List ℕ)). RanAndReported state g.N.Nvm.wrote (g.R.Runner.reported (sent_to state c.args.card.now [] c.args.budget)) c.args.card.now (send card session_state c.args.budget x) (outcome_or_stop c.send.result c.send.new.into) c.send.new.card c.args.runner.now c.send.new.runner) c.new-commands.ensures.commands c.send.ensures.done)

pub returns-in-Load-clause-steps : goal.returns-in-Load-clause-steps
returns-in-Load-clause-steps g c =
    let state = g.N.Nvm.state in
    let card = card_in state c.args.card.now in
    let session_state = session_state_in state c.args.card.now in
    subst (λ (x : CardLine). StepsOf (instructions (line_command card session_state c.args.budget (deck_line_of x)).turns) (line_search card (deck_line_of x)) (is_err c.send.result) c.args.steps.now c.send.new.steps) (sym c.in-Load.is)
    (subst (λ (x : List (List ℕ)). StepsOf (instructions (send card session_state c.args.budget x).turns) (first_search card x) (is_err c.send.result) c.args.steps.now c.send.new.steps) c.new-commands.ensures.commands c.send.ensures.steps)

pub returns-in-Select-clause-done : goal.returns-in-Select-clause-done
returns-in-Select-clause-done g c =
    let state = g.N.Nvm.state in
    let card = card_in state c.args.card.now in
    let session_state = session_state_in state c.args.card.now in
    subst (λ (x : CardLine). RanAndReported state g.N.Nvm.wrote (g.R.Runner.reported (sent_to state c.args.card.now (line_bytes (deck_line_of x)) c.args.budget)) c.args.card.now (line_command card session_state c.args.budget (deck_line_of x)) (outcome_or_stop c.run.result c.run.new.into) c.run.new.card c.args.runner.now c.run.new.self) (sym c.in-Select.is)
    (subst (λ (b : List ℕ). RanAndReported state g.N.Nvm.wrote (g.R.Runner.reported (sent_to state c.args.card.now b c.args.budget)) c.args.card.now (due state c.args.card.now b c.args.budget) (outcome_or_stop c.run.result c.run.new.into) c.run.new.card c.args.runner.now c.run.new.self) (c.as_slice.ensures.value ∙ c.with_name.ensures) c.run.ensures.done)

pub returns-in-Delete-clause-done : goal.returns-in-Delete-clause-done
returns-in-Delete-clause-done g c =
    let state = g.N.Nvm.state in
    let card = card_in state c.args.card.now in
    let session_state = session_state_in state c.args.card.now in
    subst (λ (x : CardLine). RanAndReported state g.N.Nvm.wrote (g.R.Runner.reported (sent_to state c.args.card.now (line_bytes (deck_line_of x)) c.args.budget)) c.args.card.now (line_command card session_state c.args.budget (deck_line_of x)) (outcome_or_stop c.run-in-Delete.result c.run-in-Delete.new.into) c.run-in-Delete.new.card c.args.runner.now c.run-in-Delete.new.self) (sym c.in-Delete.is)
    (subst (λ (b : List ℕ). RanAndReported state g.N.Nvm.wrote (g.R.Runner.reported (sent_to state c.args.card.now b c.args.budget)) c.args.card.now (due state c.args.card.now b c.args.budget) (outcome_or_stop c.run-in-Delete.result c.run-in-Delete.new.into) c.run-in-Delete.new.card c.args.runner.now c.run-in-Delete.new.self) (c.as_slice-in-Delete.ensures.value ∙ c.with_name-in-Delete.ensures) c.run-in-Delete.ensures.done)

pub returns-in-Apdu-clause-done : goal.returns-in-Apdu-clause-done
returns-in-Apdu-clause-done g c =
    let state = g.N.Nvm.state in
    let card = card_in state c.args.card.now in
    let session_state = session_state_in state c.args.card.now in
    subst (λ (x : CardLine). RanAndReported state g.N.Nvm.wrote (g.R.Runner.reported (sent_to state c.args.card.now (line_bytes (deck_line_of x)) c.args.budget)) c.args.card.now (line_command card session_state c.args.budget (deck_line_of x)) (outcome_or_stop c.run-in-Apdu.result c.run-in-Apdu.new.into) c.run-in-Apdu.new.card c.args.runner.now c.run-in-Apdu.new.self) (sym c.in-Apdu.is)
    c.run-in-Apdu.ensures.done
