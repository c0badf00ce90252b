use Rattle.std.proofs.Common.{arith}
use Rattle.prove_forms.proofs.NumberLemmas.{power_some}
use Rattle.prove_forms.proofs.numbers.is_multiple.Goals as goal

pub nonzero_rem-result : goal.nonzero_rem-result
nonzero_rem-result c = let h = power_some c.args.n in omega (arith, h, c.power.ensures)
