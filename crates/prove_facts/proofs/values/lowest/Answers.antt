use Rattle.std.proofs.Common.{arith}
use Rattle.std.specs.Int.{w64}
use Rattle.std.proofs.lemmas.Nat.Bits.{bit_at-trailing_zeros}
use Rattle.prove_facts.proofs.values.lowest.Goals as goal

pub returns : goal.returns
returns c =
    let t = bit_at-trailing_zeros w64 c.args.word c.requires.some (omega arith) in
    omega (arith, t.0)
