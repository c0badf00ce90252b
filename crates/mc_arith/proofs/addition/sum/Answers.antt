use Rattle.std.proofs.Common.{arith}
use Rattle.law_rows.specs.Carry.{carry_of}
use Rattle.mc_arith.proofs.QuadLemmas.{sum_set}
use Rattle.mc_arith.proofs.addition.sum.Goals as goal

pub returns-in-len4 : goal.returns-in-len4
returns-in-len4 c = sum_set c.args.a.now c.args.b.now c.sum_of_four-carry.result.0 (carry_of c.sum_of_four-carry.result.1) (omega arith) (omega arith) (omega arith) c.sum_of_four-carry.ensures
