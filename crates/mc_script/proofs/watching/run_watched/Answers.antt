use Rattle.std.proofs.Common.{false, Option, Ok, Err, arith, sym, ◌∙◌, ap, subst}
use Rattle.std.specs.Prelude.{is_err}
use Rattle.std.proofs.lemmas.Result.{err_from_is_err_and}
use Rattle.mc_machine.specs.declared.outcome.Outcome.{Outcome}
use Rattle.mc_machine.specs.Turns.{full_turn}
use Rattle.mc_machine.proofs.EndLemmas.{end_there, end_missing}
use Rattle.mc_card.specs.Ends.{Begun}
use Rattle.mc_card.specs.Parts.{card_in, session_state_in, due}
use Rattle.mc_script.specs.Runs.{sent_to}
use Rattle.mc_script.specs.StepCounts.{instructions, command_search}
use Rattle.mc_script.specs.Watching.{Watches}
use Rattle.mc_script.proofs.CommandLemmas.{answered_ran}
use Rattle.mc_script.proofs.StepLemmas.{answered_steps, exact, stopped_early}
use Rattle.mc_script.proofs.WatchLemmas.{leads_begin, leads_end, leads_on, leads_stop}
use Rattle.mc_script.proofs.watching.run_watched.Goals as goal

pub returns-in_err-outcome-clause-done : goal.returns-in_err-outcome-clause-done
returns-in_err-outcome-clause-done g c =
    let p = err_from_is_err_and c.from_residual.result c.from_residual.ensures.1 in
    rw (p.1, p.2)
    (answered_ran g.N.Nvm.state g.N.Nvm.wrote (Watches g.W.Watcher.seen g.W.Watcher.watched (sent_to g.N.Nvm.state c.args.card.now c.args.bytes.now c.args.budget)) g.met.W.Watcher.silent (Err c.in_err-outcome.field-0.0) c.args.card.now c.begin.new.self c.args.bytes.now c.args.budget c.args.watcher.now c.in_err-outcome.ensures.done)

pub returns-in_err-outcome-clause-steps : goal.returns-in_err-outcome-clause-steps
returns-in_err-outcome-clause-steps g c =
    answered_steps (card_in g.N.Nvm.state c.args.card.now) (session_state_in g.N.Nvm.state c.args.card.now) c.args.bytes.now c.args.budget c.args.steps.now c.begin.new.steps (is_err c.from_residual.result) c.in_err-outcome.ensures.done.stays c.begin.ensures.steps

pub returns-in-Some-clause-done : goal.returns-in-Some-clause-done
returns-in-Some-clause-done g c =
    let done = subst (λ (o : Option Outcome). Begun g.N.Nvm.state g.N.Nvm.wrote c.args.card.now c.args.bytes.now c.args.budget (Ok o) c.begin.new.self) c.in-Some.is c.in_ok-outcome.ensures.done in
    answered_ran g.N.Nvm.state g.N.Nvm.wrote (Watches g.W.Watcher.seen g.W.Watcher.watched (sent_to g.N.Nvm.state c.args.card.now c.args.bytes.now c.args.budget)) g.met.W.Watcher.silent (Ok c.in-Some.outcome) c.args.card.now c.begin.new.self c.args.bytes.now c.args.budget c.args.watcher.now done

pub returns-in-Some-clause-steps : goal.returns-in-Some-clause-steps
returns-in-Some-clause-steps g c =
    let done = subst (λ (o : Option Outcome). Begun g.N.Nvm.state g.N.Nvm.wrote c.args.card.now c.args.bytes.now c.args.budget (Ok o) c.begin.new.self) c.in-Some.is c.in_ok-outcome.ensures.done in
    answered_steps (card_in g.N.Nvm.state c.args.card.now) (session_state_in g.N.Nvm.state c.args.card.now) c.args.bytes.now c.args.budget c.args.steps.now c.begin.new.steps false done.stays c.begin.ensures.steps

pub turns-init : goal.turns-init
turns-init g c =
    let passed = subst (λ (o : Option Outcome). Begun g.N.Nvm.state g.N.Nvm.wrote c.args.card.now c.args.bytes.now c.args.budget (Ok o) c.begin.new.self) c.in_default.is c.in_ok-outcome.ensures.done in
    record {
      leads = leads_begin g.N.Nvm.state g.N.Nvm.wrote g.met.N.Nvm.obeys g.W.Watcher.seen g.W.Watcher.watched g.met.W.Watcher.onward c.args.card.now c.begin.new.self c.args.bytes.now c.args.budget c.args.watcher.now c.args.steps.now c.begin.new.steps passed c.begin.ensures.steps;
      keeps_device = c.begin.ensures.keeps_device;
    }

pub turn-requires : goal.turn-requires
turn-requires g c = let h = c.turns.invariant.leads in (h.chain, c.turns.left, h.runs)

pub returns-in_err-turn : goal.returns-in_err-turn
returns-in_err-turn g c =
    let p = err_from_is_err_and c.from_residual-in_err-turn.result c.from_residual-in_err-turn.ensures.1 in
    let l = c.turns in
    let e = c.in_err-turn.ensures in
    let stop = leads_stop g.N.Nvm.state g.N.Nvm.wrote g.met.N.Nvm.obeys g.W.Watcher.seen g.W.Watcher.watched g.met.W.Watcher.onward c.args.card.now l.card c.turn.new.card c.args.bytes.now c.args.budget c.args.watcher.now c.args.steps.now l.left l.watcher c.turn.new.self l.steps c.turn.new.steps c.in_err-turn.field-0.0 l.invariant.leads (record { done = e.done; watches = e.watches; steps = c.turn.ensures.steps }) in
    record {
      done = rw (p.1, p.2) stop.0;
      steps = stopped_early (instructions (due g.N.Nvm.state c.args.card.now c.args.bytes.now c.args.budget).turns) (command_search (card_in g.N.Nvm.state c.args.card.now) c.args.bytes.now) c.args.steps.now c.turn.new.steps (is_err c.from_residual-in_err-turn.result) (ap is_err p.1) stop.1;
      keeps_device = g.met.N.Nvm.onward _ _ _ l.invariant.keeps_device c.turn.ensures.keeps_device;
    }

pub returns-then-is_some : goal.returns-then-is_some
returns-then-is_some g c =
    let l = c.turns in
    let e = c.in_ok-turn.ensures in
    let end = end_there c.in_ok-turn.turn.end c.turn.new.into (sym c.is_some.ensures ∙ c.if-is_some.true) in
    let last = leads_end g.N.Nvm.state g.N.Nvm.wrote g.met.N.Nvm.obeys g.W.Watcher.seen g.W.Watcher.watched g.met.W.Watcher.onward c.args.card.now l.card c.turn.new.card c.args.bytes.now c.args.budget c.args.watcher.now c.args.steps.now l.left l.watcher c.turn.new.self l.steps c.turn.new.steps (full_turn c.in_ok-turn.turn c.turn.new.into) c.turn.new.into l.invariant.leads (record { done = e.done; watches = e.watches; steps = c.turn.ensures.steps }) end in
    record {
      done = last.0;
      steps = exact (instructions (due g.N.Nvm.state c.args.card.now c.args.bytes.now c.args.budget).turns) (command_search (card_in g.N.Nvm.state c.args.card.now) c.args.bytes.now) c.args.steps.now c.turn.new.steps false last.1;
      keeps_device = g.met.N.Nvm.onward _ _ _ l.invariant.keeps_device c.turn.ensures.keeps_device;
    }

pub overflow_sub-left : goal.overflow_sub-left
overflow_sub-left g c =
    let l = c.turns in
    let e = c.in_ok-turn.ensures in
    let on = leads_on g.N.Nvm.state g.N.Nvm.wrote g.met.N.Nvm.obeys g.W.Watcher.seen g.W.Watcher.watched g.met.W.Watcher.onward c.args.card.now l.card c.turn.new.card c.args.bytes.now c.args.budget c.args.watcher.now c.args.steps.now l.left l.watcher c.turn.new.self l.steps c.turn.new.steps (full_turn c.in_ok-turn.turn c.turn.new.into) l.invariant.leads (record { done = e.done; watches = e.watches; steps = c.turn.ensures.steps }) (end_missing c.in_ok-turn.turn.end c.turn.new.into (sym c.is_some.ensures ∙ c.if-is_some.false)) in
    on.0

pub turns-smaller : goal.turns-smaller
turns-smaller g c =
    let l = c.turns in
    let e = c.in_ok-turn.ensures in
    let on = leads_on g.N.Nvm.state g.N.Nvm.wrote g.met.N.Nvm.obeys g.W.Watcher.seen g.W.Watcher.watched g.met.W.Watcher.onward c.args.card.now l.card c.turn.new.card c.args.bytes.now c.args.budget c.args.watcher.now c.args.steps.now l.left l.watcher c.turn.new.self l.steps c.turn.new.steps (full_turn c.in_ok-turn.turn c.turn.new.into) l.invariant.leads (record { done = e.done; watches = e.watches; steps = c.turn.ensures.steps }) (end_missing c.in_ok-turn.turn.end c.turn.new.into (sym c.is_some.ensures ∙ c.if-is_some.false)) in
    let some = on.0 in
    omega (arith, some)

pub turns-preserved : goal.turns-preserved
turns-preserved g c =
    let l = c.turns in
    let e = c.in_ok-turn.ensures in
    let on = leads_on g.N.Nvm.state g.N.Nvm.wrote g.met.N.Nvm.obeys g.W.Watcher.seen g.W.Watcher.watched g.met.W.Watcher.onward c.args.card.now l.card c.turn.new.card c.args.bytes.now c.args.budget c.args.watcher.now c.args.steps.now l.left l.watcher c.turn.new.self l.steps c.turn.new.steps (full_turn c.in_ok-turn.turn c.turn.new.into) l.invariant.leads (record { done = e.done; watches = e.watches; steps = c.turn.ensures.steps }) (end_missing c.in_ok-turn.turn.end c.turn.new.into (sym c.is_some.ensures ∙ c.if-is_some.false)) in
    record { leads = on.1; keeps_device = g.met.N.Nvm.onward _ _ _ l.invariant.keeps_device c.turn.ensures.keeps_device }
