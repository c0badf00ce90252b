use Rattle.std.proofs.Common.{◌≡◌, Bool}
use Rattle.std.specs.Prelude.{Some}
use Rattle.prove_facts.specs.model_prove.specs.Digits.{Operation, digit}
use Rattle.prove_facts.specs.Sets.{set_of}
use Rattle.prove_digits.specs.Bits.{AreParts}
use Rattle.prove_digits.specs.Ways.{bitwise_of}
use Rattle.prove_digits.proofs.bits.parts_of.Given as goal

-- the parts have the values below the number
abbrev pub invariant-loop-value : goal.invariant-loop-value
invariant-loop-value l = (op : Operation) (c : Bool) → bitwise_of l.how ≡ Some op → AreParts l.value (λ x. (digit op x l.fn.y c).0) (set_of l.xs) l.parts
