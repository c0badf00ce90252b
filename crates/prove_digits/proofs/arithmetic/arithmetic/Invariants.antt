use Rattle.std.proofs.Common.{Bool, true}
use Rattle.prove_facts.specs.Sets.{set_of}
use Rattle.prove_digits.specs.Trios.{trio_value, trio_at, sum_of}
use Rattle.prove_digits.proofs.GrowLemmas.{AreBelow}
use Rattle.prove_digits.proofs.arithmetic.arithmetic.Given as goal

-- the turn has what the values of the second byte below the number do
abbrev pub invariant-loop-value : goal.invariant-loop-value
invariant-loop-value l =
    (c z : Bool) → AreBelow (sum_of l.subtracts) (set_of l.xs) (set_of l.ys) (record { c = l.carry; z = true }) (record { c = c; z = z }) l.value (trio_value (trio_at l.turn c z))
