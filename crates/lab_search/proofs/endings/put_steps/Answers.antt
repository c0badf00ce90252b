use Rattle.std.proofs.Common.{Ok}
use Rattle.mc_text.specs.Texts.{sunk_in}
use Rattle.lab_search.proofs.EndingLemmas.{step_at, step_fails, step_then, steps_done}
use Rattle.lab_search.proofs.endings.put_steps.Goals as goal

pub returns-in_err-put_step : goal.returns-in_err-put_step
returns-in_err-put_step g c =
    λ ms ts h k.
    let t = step_at ms c.args.path.now ts c.loop-step.step-index _ k c.loop-step-test.true in
    c.loop-step.invariant ms ts h k c.from_residual.result _ (step_fails _ _ ts c.loop-step.step-index t.0 c.from_residual.result t.1 c.from_residual.ensures.0 (c.in_err-put_step.ensures ms t.0 h t.2))

pub loop-step-preserved : goal.loop-step-preserved
loop-step-preserved g c =
    λ ms ts h k r e p.
    let t = step_at ms c.args.path.now ts c.loop-step.step-index _ k c.loop-step-test.true in
    c.loop-step.invariant ms ts h k r e (step_then _ (sunk_in g.T.Sink.taken g.T.Sink.faults c.put_step.new.out) e ts c.loop-step.step-index t.0 r t.1 (c.in_ok-put_step.ensures ms t.0 h t.2) p)

pub returns : goal.returns
returns g c = λ ms ts h k. c.loop-step.invariant ms ts h k (Ok tt) _ (steps_done _ ms c.args.path.now ts c.loop-step.step-index k c.loop-step-test.false)
