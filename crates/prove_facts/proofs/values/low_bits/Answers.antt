use Rattle.std.proofs.lemmas.Nat.Bits.{ones_shr}
use Rattle.std.proofs.Common.{◌≡◌, ◌∙◌, ◌-◌, ◌^◌, ap, arith, ℕ}
use Rattle.std.specs.Prelude.{min}
use Rattle.prove_facts.proofs.values.low_bits.Goals as goal

pub returns-else-count-ge64 : goal.returns-else-count-ge64
returns-else-count-ge64 c =
    let e : 64 - (64 - c.args.count) ≡ min c.args.count 64 = omega arith in
    ones_shr 64 (64 - c.args.count) (omega arith) ∙ ap (λ (n : ℕ). 2 ^ n - 1) e
