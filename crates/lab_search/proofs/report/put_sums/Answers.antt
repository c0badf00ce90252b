use Rattle.std.proofs.Common.{codes, decimal}
use Rattle.mc_text.proofs.TextLemmas.{puts_then, puts_failed, fails_then, fails_before, writes_then}
use Rattle.lab_search.specs.Reports.{how_text}
use Rattle.lab_search.proofs.report.put_sums.Goals as goal

pub returns-in_err-put : goal.returns-in_err-put
returns-in_err-put g c = puts_failed c.from_residual.result c.from_residual.ensures.0 (fails_before (codes "\n") (fails_before (how_text c.args.depth) (fails_before (decimal c.args.tries) (fails_before (codes " tries ") (fails_before (decimal c.args.states) c.in_err-put.ensures)))))

pub returns-in_err-put_count : goal.returns-in_err-put_count
returns-in_err-put_count g c = puts_failed c.from_residual-in_err-put_count.result c.from_residual-in_err-put_count.ensures.0 (fails_before (codes "\n") (fails_before (how_text c.args.depth) (fails_before (decimal c.args.tries) (fails_before (codes " tries ") (fails_then c.in_ok-put.ensures c.in_err-put_count.ensures)))))

pub returns-in_err-put-2 : goal.returns-in_err-put-2
returns-in_err-put-2 g c = puts_failed c.from_residual-in_err-put-2.result c.from_residual-in_err-put-2.ensures.0 (fails_before (codes "\n") (fails_before (how_text c.args.depth) (fails_before (decimal c.args.tries) (fails_then (writes_then c.in_ok-put.ensures c.in_ok-put_count.ensures) c.in_err-put-2.ensures))))

pub returns-in_err-put_count-2 : goal.returns-in_err-put_count-2
returns-in_err-put_count-2 g c = puts_failed c.from_residual-in_err-put_count-2.result c.from_residual-in_err-put_count-2.ensures.0 (fails_before (codes "\n") (fails_before (how_text c.args.depth) (fails_then (writes_then (writes_then c.in_ok-put.ensures c.in_ok-put_count.ensures) c.in_ok-put-2.ensures) c.in_err-put_count-2.ensures)))

pub returns-in_err-put_how : goal.returns-in_err-put_how
returns-in_err-put_how g c = puts_failed c.from_residual-in_err-put_how.result c.from_residual-in_err-put_how.ensures.0 (fails_before (codes "\n") (fails_then (writes_then (writes_then (writes_then c.in_ok-put.ensures c.in_ok-put_count.ensures) c.in_ok-put-2.ensures) c.in_ok-put_count-2.ensures) c.in_err-put_how.ensures))

pub returns : goal.returns
returns g c = puts_then _ (codes "\n") c.put-3.result (writes_then (writes_then (writes_then (writes_then c.in_ok-put.ensures c.in_ok-put_count.ensures) c.in_ok-put-2.ensures) c.in_ok-put_count-2.ensures) c.in_ok-put_how.ensures) c.put-3.ensures
