use Rattle.std.proofs.Common.{arith, rules}
use Rattle.law_rows.proofs.ResultLemmas.{dec_is}
use Rattle.law_rows.specs.model_device.proofs.ListLemmas.{all_bytes}
use Rattle.mc_arith.proofs.subtraction.dec.Goals as goal

pub returns : goal.returns
returns c = dec_is c.args.a.now c.difference_with_one-wrapped.new.a c.difference_with_one-wrapped.result c.zero.result (omega arith) (all_bytes c.difference_with_one-wrapped.new.a (search rules)) c.difference_with_one-wrapped.ensures c.zero.ensures
