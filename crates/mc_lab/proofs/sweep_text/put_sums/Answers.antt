use Rattle.std.proofs.Common.{codes, decimal}
use Rattle.mc_text.proofs.TextLemmas.{puts_then, puts_failed, fails_then, fails_before, writes_then}
use Rattle.mc_lab.proofs.sweep_text.put_sums.Goals as goal

pub returns-in_err-put : goal.returns-in_err-put
returns-in_err-put g c = puts_failed c.from_residual.result c.from_residual.ensures.0 (fails_before (codes "\n") (fails_before (decimal c.args.sums.now.plays) (fails_before (codes " plays ") (fails_before (decimal c.args.sums.now.writes) (fails_before (codes " writes ") (fails_before (decimal c.args.sums.now.lines) c.in_err-put.ensures))))))

pub returns-in_err-put_sum : goal.returns-in_err-put_sum
returns-in_err-put_sum g c = puts_failed c.from_residual-in_err-put_sum.result c.from_residual-in_err-put_sum.ensures.0 (fails_before (codes "\n") (fails_before (decimal c.args.sums.now.plays) (fails_before (codes " plays ") (fails_before (decimal c.args.sums.now.writes) (fails_before (codes " writes ") (fails_then c.in_ok-put.ensures c.in_err-put_sum.ensures))))))

pub returns-in_err-put-2 : goal.returns-in_err-put-2
returns-in_err-put-2 g c = puts_failed c.from_residual-in_err-put-2.result c.from_residual-in_err-put-2.ensures.0 (fails_before (codes "\n") (fails_before (decimal c.args.sums.now.plays) (fails_before (codes " plays ") (fails_before (decimal c.args.sums.now.writes) (fails_then (writes_then c.in_ok-put.ensures c.in_ok-put_sum.ensures) c.in_err-put-2.ensures)))))

pub returns-in_err-put_sum-2 : goal.returns-in_err-put_sum-2
returns-in_err-put_sum-2 g c = puts_failed c.from_residual-in_err-put_sum-2.result c.from_residual-in_err-put_sum-2.ensures.0 (fails_before (codes "\n") (fails_before (decimal c.args.sums.now.plays) (fails_before (codes " plays ") (fails_then (writes_then (writes_then c.in_ok-put.ensures c.in_ok-put_sum.ensures) c.in_ok-put-2.ensures) c.in_err-put_sum-2.ensures))))

pub returns-in_err-put-3 : goal.returns-in_err-put-3
returns-in_err-put-3 g c = puts_failed c.from_residual-in_err-put-3.result c.from_residual-in_err-put-3.ensures.0 (fails_before (codes "\n") (fails_before (decimal c.args.sums.now.plays) (fails_then (writes_then (writes_then (writes_then c.in_ok-put.ensures c.in_ok-put_sum.ensures) c.in_ok-put-2.ensures) c.in_ok-put_sum-2.ensures) c.in_err-put-3.ensures)))

pub returns-in_err-put_sum-3 : goal.returns-in_err-put_sum-3
returns-in_err-put_sum-3 g c = puts_failed c.from_residual-in_err-put_sum-3.result c.from_residual-in_err-put_sum-3.ensures.0 (fails_before (codes "\n") (fails_then (writes_then (writes_then (writes_then (writes_then c.in_ok-put.ensures c.in_ok-put_sum.ensures) c.in_ok-put-2.ensures) c.in_ok-put_sum-2.ensures) c.in_ok-put-3.ensures) c.in_err-put_sum-3.ensures))

pub returns : goal.returns
returns g c = puts_then _ (codes "\n") c.put-4.result (writes_then (writes_then (writes_then (writes_then (writes_then c.in_ok-put.ensures c.in_ok-put_sum.ensures) c.in_ok-put-2.ensures) c.in_ok-put_sum-2.ensures) c.in_ok-put-3.ensures) c.in_ok-put_sum-3.ensures) c.put-4.ensures
