use Rattle.std.proofs.Common.{◌≡◌, ◌≤◌, ◌-◌, suc, length, ap, arith, true, false}
use Rattle.std.specs.Prelude.{reverse, min}
use Rattle.prove_digits.specs.States.{states_one}
use Rattle.prove_digits.proofs.StepLemmas.{no_steps, no_pairs_left, steps_before, blank_values}
use Rattle.prove_digits.proofs.digits.walk_of.Goals as goal

pub loop-left-init : goal.loop-left-init
loop-left-init c =
    let m : min (length c.args.xs.now) (length c.args.ys.now) ≤ c.min-left.result = omega (arith, c.min-left.ensures) in
    record {
      first = omega (arith, c.min-left.ensures);
      second = omega (arith, c.min-left.ensures);
      steps = λ op h. no_steps op (states_one false true) c.one-states.result _ c.new-steps.result.items (ap reverse (no_pairs_left c.args.xs.now c.args.ys.now c.min-left.result m))
          c.new-steps.ensures.items c.one-states.ensures;
    }

pub loop-left-preserved : goal.loop-left-preserved
loop-left-preserved c =
    record {
      first = let i = c.loop-left.invariant.first in omega (arith, i);
      second = let i = c.loop-left.invariant.second in omega (arith, i);
      steps = λ op h.
          let q : suc (c.loop-left.left - 1) ≡ c.loop-left.left = omega arith in
          steps_before op c.loop-left.states c.after-states.result c.args.xs.now c.args.ys.now (c.loop-left.left - 1) c.loop-left.left blank_values blank_values
          c.loop-left.steps.items c.push.new.list.items c.step_of-step.result q c.loop-left.invariant.first c.loop-left.invariant.second (c.loop-left.invariant.steps op h)
          c.step_of-step.ensures.before (c.step_of-step.ensures.turns op h) c.in_ok-push.ensures c.after-states.ensures;
    }
