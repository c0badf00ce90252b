use Rattle.std.proofs.Common.{arith, rules}
use Rattle.law_rows.proofs.ResultLemmas.{sum_is}
use Rattle.law_rows.specs.model_device.proofs.ListLemmas.{all_bytes}
use Rattle.mc_arith.proofs.addition.add.Goals as goal

pub returns : goal.returns
returns c = sum_is c.args.a.now c.args.b.now c.sum-c.new.a c.sum-c.result c.zero-z.result (omega arith) (all_bytes c.sum-c.new.a (search rules)) c.sum-c.ensures c.zero-z.ensures
