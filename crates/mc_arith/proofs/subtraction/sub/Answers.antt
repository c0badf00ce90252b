use Rattle.std.proofs.Common.{arith, rules}
use Rattle.law_rows.proofs.ResultLemmas.{difference_is}
use Rattle.law_rows.specs.model_device.proofs.ListLemmas.{all_bytes}
use Rattle.mc_arith.proofs.subtraction.sub.Goals as goal

pub returns : goal.returns
returns c = difference_is c.args.a.now c.args.b.now c.difference-borrow.new.a c.difference-borrow.result c.zero.result (omega arith) (all_bytes c.difference-borrow.new.a (search rules)) c.difference-borrow.ensures c.zero.ensures
