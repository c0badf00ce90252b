use Rattle.std.proofs.Common.{codes, decimal}
use Rattle.mc_text.proofs.TextLemmas.{puts_then, puts_failed, fails_then, fails_before, writes_then}
use Rattle.lab_search.proofs.report.put_broken.Goals as goal

pub returns-in_err-put : goal.returns-in_err-put
returns-in_err-put g c = puts_failed c.from_residual.result c.from_residual.ensures.0 (fails_before (codes " lines\n") (fails_before (decimal c.args.lines) (fails_before (codes " after ") (fails_before c.args.name.now c.in_err-put.ensures))))

pub returns-in_err-put-2 : goal.returns-in_err-put-2
returns-in_err-put-2 g c = puts_failed c.from_residual-in_err-put-2.result c.from_residual-in_err-put-2.ensures.0 (fails_before (codes " lines\n") (fails_before (decimal c.args.lines) (fails_before (codes " after ") (fails_then c.in_ok-put.ensures c.in_err-put-2.ensures))))

pub returns-in_err-put-3 : goal.returns-in_err-put-3
returns-in_err-put-3 g c = puts_failed c.from_residual-in_err-put-3.result c.from_residual-in_err-put-3.ensures.0 (fails_before (codes " lines\n") (fails_before (decimal c.args.lines) (fails_then (writes_then c.in_ok-put.ensures c.in_ok-put-2.ensures) c.in_err-put-3.ensures)))

pub returns-in_err-put_count : goal.returns-in_err-put_count
returns-in_err-put_count g c = puts_failed c.from_residual-in_err-put_count.result c.from_residual-in_err-put_count.ensures.0 (fails_before (codes " lines\n") (fails_then (writes_then (writes_then c.in_ok-put.ensures c.in_ok-put-2.ensures) c.in_ok-put-3.ensures) c.in_err-put_count.ensures))

pub returns : goal.returns
returns g c = puts_then _ (codes " lines\n") c.put-4.result (writes_then (writes_then (writes_then c.in_ok-put.ensures c.in_ok-put-2.ensures) c.in_ok-put-3.ensures) c.in_ok-put_count.ensures) c.put-4.ensures
