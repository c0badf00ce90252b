use Rattle.mc_text.proofs.TextLemmas.{puts_then, puts_failed, fails_then, fails_before}
use Rattle.melreader.proofs.lines.put_unopened.Goals as goal

pub returns-in_err-put : goal.returns-in_err-put
returns-in_err-put g c = puts_failed c.from_residual.result c.from_residual.ensures.0 (fails_before _ c.in_err-put.ensures)

pub returns-in_err-put_str : goal.returns-in_err-put_str
returns-in_err-put_str g c =
    let r = c.from_residual-in_err-put_str in
    puts_failed r.result r.ensures.0 (fails_then c.in_ok-put.ensures (fails_before _ c.in_err-put_str.ensures))

pub returns : goal.returns
returns g c = puts_then _ _ c.put-2.result c.in_ok-put.ensures (puts_then _ _ c.put-2.result c.in_ok-put_str.ensures c.put-2.ensures)
