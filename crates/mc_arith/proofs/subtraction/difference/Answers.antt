use Rattle.std.proofs.Common.{arith}
use Rattle.law_rows.specs.Carry.{carry_of}
use Rattle.mc_arith.proofs.QuadLemmas.{difference_set}
use Rattle.mc_arith.proofs.subtraction.difference.Goals as goal

pub returns-in-len4 : goal.returns-in-len4
returns-in-len4 c = difference_set c.args.a.now c.args.b.now c.difference_of_four-borrow.result.0 (carry_of c.difference_of_four-borrow.result.1) (omega arith) (omega arith) (omega arith) c.difference_of_four-borrow.ensures
