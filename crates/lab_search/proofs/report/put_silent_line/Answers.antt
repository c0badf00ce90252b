use Rattle.std.proofs.Common.{codes, decimal}
use Rattle.mc_text.proofs.TextLemmas.{puts_then, puts_failed, fails_then, fails_before, writes_then}
use Rattle.lab_search.proofs.report.put_silent_line.Goals as goal

pub returns-in_err-put : goal.returns-in_err-put
returns-in_err-put g c = puts_failed c.from_residual.result c.from_residual.ensures.0 (fails_before (codes "\n") (fails_before (decimal c.args.line) c.in_err-put.ensures))

pub returns-in_err-put_count : goal.returns-in_err-put_count
returns-in_err-put_count g c = puts_failed c.from_residual-in_err-put_count.result c.from_residual-in_err-put_count.ensures.0 (fails_before (codes "\n") (fails_then c.in_ok-put.ensures c.in_err-put_count.ensures))

pub returns : goal.returns
returns g c = puts_then _ (codes "\n") c.put-2.result (writes_then c.in_ok-put.ensures c.in_ok-put_count.ensures) c.put-2.ensures
