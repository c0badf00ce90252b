use Rattle.std.proofs.Common.{◌≡◌, ◌≤◌, length, drop, true, false}
use Rattle.std.specs.Prelude.{Some, reverse}
use Rattle.prove_facts.specs.model_prove.specs.Digits.{Operation}
use Rattle.prove_digits.specs.States.{states_one, AreSteps}
use Rattle.prove_digits.specs.Ways.{operation_of, value_pairs}
use Rattle.prove_digits.proofs.digits.walk_of.Given as goal

-- the steps are those of the bytes from the number on
abbrev pub invariant-loop-left : goal.invariant-loop-left
invariant-loop-left l =
    record {
      first : l.left ≤ length l.xs;
      second : l.left ≤ length l.ys;
      steps : (op : Operation) → operation_of l.digit ≡ Some op
          → AreSteps op (states_one false true) (reverse (drop l.left (value_pairs l.xs l.ys))) l.steps.items l.states;
    }

abbrev pub decreases-loop-left : goal.decreases-loop-left
decreases-loop-left l = l.left
