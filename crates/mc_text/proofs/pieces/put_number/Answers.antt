use Rattle.mc_text.proofs.TextLemmas.{puts_then, puts_failed, fails_before}
use Rattle.mc_text.proofs.pieces.put_number.Goals as goal

pub returns-in_err-put : goal.returns-in_err-put
returns-in_err-put g c = puts_failed c.from_residual.result c.from_residual.ensures.0 (fails_before _ c.in_err-put.ensures)

pub returns : goal.returns
returns g c = puts_then _ _ c.put_decimal.result c.in_ok-put.ensures c.put_decimal.ensures
