use Rattle.std.proofs.Common.{codes, decimal, length}
use Rattle.mc_text.proofs.TextLemmas.{puts_then, puts_failed, fails_then, fails_before, writes_then}
use Rattle.mc_lab.specs.Sweeps.{line_end, runs, runs_text}
use Rattle.mc_lab.proofs.sweep_text.put_swept.Goals as goal

pub returns-in_err-put : goal.returns-in_err-put
returns-in_err-put g c = puts_failed c.from_residual.result c.from_residual.ensures.0 (fails_before (line_end c.args.broken) (fails_before (runs_text (runs 1 c.args.words.now)) (fails_before (codes ":") (fails_before (decimal (length c.args.words.now)) (fails_before (codes " writes ") (fails_before (decimal c.args.number) c.in_err-put.ensures))))))

pub returns-in_err-put_decimal : goal.returns-in_err-put_decimal
returns-in_err-put_decimal g c = puts_failed c.from_residual-in_err-put_decimal.result c.from_residual-in_err-put_decimal.ensures.0 (fails_before (line_end c.args.broken) (fails_before (runs_text (runs 1 c.args.words.now)) (fails_before (codes ":") (fails_before (decimal (length c.args.words.now)) (fails_before (codes " writes ") (fails_then c.in_ok-put.ensures c.in_err-put_decimal.ensures))))))

pub returns-in_err-put-2 : goal.returns-in_err-put-2
returns-in_err-put-2 g c = puts_failed c.from_residual-in_err-put-2.result c.from_residual-in_err-put-2.ensures.0 (fails_before (line_end c.args.broken) (fails_before (runs_text (runs 1 c.args.words.now)) (fails_before (codes ":") (fails_before (decimal (length c.args.words.now)) (fails_then (writes_then c.in_ok-put.ensures c.in_ok-put_decimal.ensures) c.in_err-put-2.ensures)))))

pub returns-in_err-put_decimal-2 : goal.returns-in_err-put_decimal-2
returns-in_err-put_decimal-2 g c = puts_failed c.from_residual-in_err-put_decimal-2.result c.from_residual-in_err-put_decimal-2.ensures.0 (fails_before (line_end c.args.broken) (fails_before (runs_text (runs 1 c.args.words.now)) (fails_before (codes ":") (fails_then (writes_then (writes_then c.in_ok-put.ensures c.in_ok-put_decimal.ensures) c.in_ok-put-2.ensures) c.in_err-put_decimal-2.ensures))))

pub returns-in_err-put-3 : goal.returns-in_err-put-3
returns-in_err-put-3 g c = puts_failed c.from_residual-in_err-put-3.result c.from_residual-in_err-put-3.ensures.0 (fails_before (line_end c.args.broken) (fails_before (runs_text (runs 1 c.args.words.now)) (fails_then (writes_then (writes_then (writes_then c.in_ok-put.ensures c.in_ok-put_decimal.ensures) c.in_ok-put-2.ensures) c.in_ok-put_decimal-2.ensures) c.in_err-put-3.ensures)))

pub returns-in_err-put_runs : goal.returns-in_err-put_runs
returns-in_err-put_runs g c = puts_failed c.from_residual-in_err-put_runs.result c.from_residual-in_err-put_runs.ensures.0 (fails_before (line_end c.args.broken) (fails_then (writes_then (writes_then (writes_then (writes_then c.in_ok-put.ensures c.in_ok-put_decimal.ensures) c.in_ok-put-2.ensures) c.in_ok-put_decimal-2.ensures) c.in_ok-put-3.ensures) c.in_err-put_runs.ensures))

pub returns : goal.returns
returns g c = puts_then _ (line_end c.args.broken) c.put_end.result (writes_then (writes_then (writes_then (writes_then (writes_then c.in_ok-put.ensures c.in_ok-put_decimal.ensures) c.in_ok-put-2.ensures) c.in_ok-put_decimal-2.ensures) c.in_ok-put-3.ensures) c.in_ok-put_runs.ensures) c.put_end.ensures
