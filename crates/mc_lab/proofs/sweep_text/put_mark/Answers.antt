use Rattle.std.proofs.Common.{codes, decimal}
use Rattle.mc_text.proofs.TextLemmas.{puts_then, puts_failed, fails_then, fails_before, writes_then}
use Rattle.mc_lab.proofs.sweep_text.put_mark.Goals as goal

pub returns-in_err-put : goal.returns-in_err-put
returns-in_err-put g c = puts_failed c.from_residual.result c.from_residual.ensures.0 (fails_before (codes " not swept\n") (fails_before (decimal c.args.number) c.in_err-put.ensures))

pub returns-in_err-put_decimal : goal.returns-in_err-put_decimal
returns-in_err-put_decimal g c = puts_failed c.from_residual-in_err-put_decimal.result c.from_residual-in_err-put_decimal.ensures.0 (fails_before (codes " not swept\n") (fails_then c.in_ok-put.ensures c.in_err-put_decimal.ensures))

pub returns : goal.returns
returns g c = puts_then _ (codes " not swept\n") c.put-2.result (writes_then c.in_ok-put.ensures c.in_ok-put_decimal.ensures) c.put-2.ensures
