use Rattle.mc_text.proofs.TextLemmas.{puts_then, puts_failed, fails_then, fails_before}
use Rattle.melreader.proofs.lines.put_short.Goals as goal

pub returns-in_err-put : goal.returns-in_err-put
returns-in_err-put g c = puts_failed c.from_residual.result c.from_residual.ensures.0 (fails_before _ c.in_err-put.ensures)

pub returns-in_err-put_count : goal.returns-in_err-put_count
returns-in_err-put_count g c =
    let r = c.from_residual-in_err-put_count in
    puts_failed r.result r.ensures.0 (fails_then c.in_ok-put.ensures (fails_before _ c.in_err-put_count.ensures))

pub returns : goal.returns
returns g c = puts_then _ _ c.put-2.result c.in_ok-put.ensures (puts_then _ _ c.put-2.result c.in_ok-put_count.ensures c.put-2.ensures)
