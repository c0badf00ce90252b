use Rattle.std.proofs.Common.{decimal}
use Rattle.mc_text.proofs.TextLemmas.{puts_then, puts_failed, fails_before}
use Rattle.lab_search.proofs.report.put_depth_word.Goals as goal

pub returns-in_err-put : goal.returns-in_err-put
returns-in_err-put g c = puts_failed c.from_residual.result c.from_residual.ensures.0 (fails_before (decimal c.args.depth) c.in_err-put.ensures)

pub returns : goal.returns
returns g c = puts_then _ (decimal c.args.depth) c.put_count.result c.in_ok-put.ensures c.put_count.ensures
