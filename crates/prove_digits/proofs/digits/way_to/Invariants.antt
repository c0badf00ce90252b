use Rattle.std.proofs.Common.{◌≡◌, ◌≤◌, length, drop}
use Rattle.std.specs.Prelude.{reverse}
use Rattle.prove_digits.specs.States.{states_one, back_states, back_digits}
use Rattle.prove_digits.specs.Ways.{digits_of}
use Rattle.prove_digits.proofs.digits.way_to.Given as goal

-- the bytes so far are those that the steps from the number on find
abbrev pub invariant-loop-left : goal.invariant-loop-left
invariant-loop-left l =
    record {
      bound : l.left ≤ length l.steps;
      after : l.after ≡ back_states (states_one l.c l.z) (drop l.left l.steps);
      digits : digits_of l.way.x.items l.way.y.items l.way.r.items ≡ reverse (back_digits (states_one l.c l.z) (drop l.left l.steps));
      second : length l.way.y.items ≡ length l.way.x.items;
      results : length l.way.r.items ≡ length l.way.x.items;
      carry : l.way.c ≡ l.c;
      zero : l.way.z ≡ l.z;
    }

abbrev pub decreases-loop-left : goal.decreases-loop-left
decreases-loop-left l = l.left
