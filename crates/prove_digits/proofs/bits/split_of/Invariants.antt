use Rattle.std.proofs.Common.{◌≡◌, Bool, true}
use Rattle.std.specs.Prelude.{Some}
use Rattle.prove_facts.specs.model_prove.specs.Digits.{Operation}
use Rattle.prove_facts.specs.Sets.{set_of}
use Rattle.prove_digits.specs.Trios.{trio_value, trio_in}
use Rattle.prove_digits.specs.Ways.{bitwise_of}
use Rattle.prove_digits.proofs.GrowLemmas.{AreBelow}
use Rattle.prove_digits.proofs.bits.split_of.Given as goal

-- the sets have what the values of the second byte below the number do
abbrev pub invariant-loop-value : goal.invariant-loop-value
invariant-loop-value l =
    (op : Operation) (c z : Bool) → bitwise_of l.how ≡ Some op
    → AreBelow op (set_of l.xs) (set_of l.ys) (record { c = c; z = true }) (record { c = c; z = z }) l.value (trio_value (trio_in l.split z))
