use Rattle.std.proofs.Common.{codes, decimal}
use Rattle.mc_text.proofs.TextLemmas.{puts_then, puts_failed, fails_then, fails_before, writes_then}
use Rattle.lab_search.proofs.report.put_depth.Goals as goal

pub returns-in_err-put : goal.returns-in_err-put
returns-in_err-put g c = puts_failed c.from_residual.result c.from_residual.ensures.0 (fails_before (codes "\n") (fails_before (decimal c.args.states) (fails_before (codes " states ") (fails_before (decimal c.args.depth) c.in_err-put.ensures))))

pub returns-in_err-put_count : goal.returns-in_err-put_count
returns-in_err-put_count g c = puts_failed c.from_residual-in_err-put_count.result c.from_residual-in_err-put_count.ensures.0 (fails_before (codes "\n") (fails_before (decimal c.args.states) (fails_before (codes " states ") (fails_then c.in_ok-put.ensures c.in_err-put_count.ensures))))

pub returns-in_err-put-2 : goal.returns-in_err-put-2
returns-in_err-put-2 g c = puts_failed c.from_residual-in_err-put-2.result c.from_residual-in_err-put-2.ensures.0 (fails_before (codes "\n") (fails_before (decimal c.args.states) (fails_then (writes_then c.in_ok-put.ensures c.in_ok-put_count.ensures) c.in_err-put-2.ensures)))

pub returns-in_err-put_count-2 : goal.returns-in_err-put_count-2
returns-in_err-put_count-2 g c = puts_failed c.from_residual-in_err-put_count-2.result c.from_residual-in_err-put_count-2.ensures.0 (fails_before (codes "\n") (fails_then (writes_then (writes_then c.in_ok-put.ensures c.in_ok-put_count.ensures) c.in_ok-put-2.ensures) c.in_err-put_count-2.ensures))

pub returns : goal.returns
returns g c = puts_then _ (codes "\n") c.put-3.result (writes_then (writes_then (writes_then c.in_ok-put.ensures c.in_ok-put_count.ensures) c.in_ok-put-2.ensures) c.in_ok-put_count-2.ensures) c.put-3.ensures
