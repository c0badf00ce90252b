use Rattle.std.proofs.Common.{codes, decimal}
use Rattle.mc_text.proofs.TextLemmas.{puts_then, puts_failed, fails_then, fails_before, writes_then}
use Rattle.mc_lab.proofs.judging.put_counts.Goals as goal

pub returns-in_err-put : goal.returns-in_err-put
returns-in_err-put g c =
    let r = c.from_residual in
    puts_failed r.result r.ensures.0 (fails_before (codes "\n") (fails_before (decimal c.args.failed) (fails_before (codes " failed ") (fails_before (decimal c.args.expected) c.in_err-put.ensures))))

pub returns-in_err-put_count : goal.returns-in_err-put_count
returns-in_err-put_count g c =
    let r = c.from_residual-in_err-put_count in
    puts_failed r.result r.ensures.0 (fails_before (codes "\n") (fails_before (decimal c.args.failed) (fails_before (codes " failed ") (fails_then c.in_ok-put.ensures c.in_err-put_count.ensures))))

pub returns-in_err-put-2 : goal.returns-in_err-put-2
returns-in_err-put-2 g c =
    let r = c.from_residual-in_err-put-2 in
    let before = writes_then c.in_ok-put.ensures c.in_ok-put_count.ensures in
    puts_failed r.result r.ensures.0 (fails_before (codes "\n") (fails_before (decimal c.args.failed) (fails_then before c.in_err-put-2.ensures)))

pub returns-in_err-put_count-2 : goal.returns-in_err-put_count-2
returns-in_err-put_count-2 g c =
    let r = c.from_residual-in_err-put_count-2 in
    let before = writes_then (writes_then c.in_ok-put.ensures c.in_ok-put_count.ensures) c.in_ok-put-2.ensures in
    puts_failed r.result r.ensures.0 (fails_before (codes "\n") (fails_then before c.in_err-put_count-2.ensures))

pub returns : goal.returns
returns g c =
    let before = writes_then (writes_then (writes_then c.in_ok-put.ensures c.in_ok-put_count.ensures) c.in_ok-put-2.ensures) c.in_ok-put_count-2.ensures in
    puts_then _ (codes "\n") c.put-3.result before c.put-3.ensures
