use Rattle.std.proofs.Common.{codes}
use Rattle.mc_text.proofs.TextLemmas.{puts_then, puts_failed, fails_then, fails_before, writes_then}
use Rattle.mc_lab.proofs.judging.put_above.Goals as goal

pub returns-in_err-put_number : goal.returns-in_err-put_number
returns-in_err-put_number g c =
    let r = c.from_residual in
    puts_failed r.result r.ensures.0 (fails_before (codes ")\n") (fails_before c.args.statement.now.text.now (fails_before (codes " ") c.in_err-put_number.ensures)))

pub returns-in_err-put : goal.returns-in_err-put
returns-in_err-put g c =
    let r = c.from_residual-in_err-put in
    puts_failed r.result r.ensures.0 (fails_before (codes ")\n") (fails_before c.args.statement.now.text.now (fails_then c.in_ok-put_number.ensures c.in_err-put.ensures)))

pub returns-in_err-put-2 : goal.returns-in_err-put-2
returns-in_err-put-2 g c =
    let r = c.from_residual-in_err-put-2 in
    let before = writes_then c.in_ok-put_number.ensures c.in_ok-put.ensures in
    puts_failed r.result r.ensures.0 (fails_before (codes ")\n") (fails_then before c.in_err-put-2.ensures))

pub returns : goal.returns
returns g c =
    let before = writes_then (writes_then c.in_ok-put_number.ensures c.in_ok-put.ensures) c.in_ok-put-2.ensures in
    puts_then _ (codes ")\n") c.put-3.result before c.put-3.ensures
