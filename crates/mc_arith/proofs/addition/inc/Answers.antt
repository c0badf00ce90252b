use Rattle.std.proofs.Common.{arith, rules}
use Rattle.law_rows.proofs.ResultLemmas.{inc_is}
use Rattle.law_rows.specs.model_device.proofs.ListLemmas.{all_bytes}
use Rattle.mc_arith.proofs.addition.inc.Goals as goal

pub returns : goal.returns
returns c = inc_is c.args.a.now c.sum_with_one-wrapped.new.a c.sum_with_one-wrapped.result c.zero.result (omega arith) (all_bytes c.args.a.now (search rules)) (all_bytes c.sum_with_one-wrapped.new.a (search rules)) c.sum_with_one-wrapped.ensures c.zero.ensures
