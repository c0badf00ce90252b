use Rattle.std.proofs.Common.{sym, arith}
use Rattle.prove_forms.proofs.NumberLemmas.{mask_long, power_some}
use Rattle.prove_forms.proofs.numbers.mask.Goals as goal

pub returns-then-n-ge-LONGEST : goal.returns-then-n-ge-LONGEST
returns-then-n-ge-LONGEST c = sym (mask_long c.args.n (omega arith))

pub overflow_sub-result : goal.overflow_sub-result
overflow_sub-result c = let h = power_some c.args.n in omega (arith, h, c.power.ensures)
