use Rattle.std.proofs.Common.{codes}
use Rattle.mc_text.proofs.TextLemmas.{puts_then, puts_failed, fails_then, fails_before, writes_then}
use Rattle.mc_lab.specs.Expectations.{above_text, laid_out}
use Rattle.mc_lab.specs.Remarked.{line_value}
use Rattle.mc_lab.proofs.judging.put_failed.Goals as goal

pub returns-in_err-put_number : goal.returns-in_err-put_number
returns-in_err-put_number g c =
    let r = c.from_residual in
    let e = c.args.expectation.now in
    puts_failed r.result r.ensures.0
    (fails_before (above_text (line_value e.above)) (fails_before (laid_out e.text.now c.args.text.now.items) (fails_before (codes " was ") (fails_before e.text.now (fails_before (codes " expected ") c.in_err-put_number.ensures)))))

pub returns-in_err-put : goal.returns-in_err-put
returns-in_err-put g c =
    let r = c.from_residual-in_err-put in
    let e = c.args.expectation.now in
    puts_failed r.result r.ensures.0
    (fails_before (above_text (line_value e.above)) (fails_before (laid_out e.text.now c.args.text.now.items) (fails_before (codes " was ") (fails_before e.text.now (fails_then c.in_ok-put_number.ensures c.in_err-put.ensures)))))

pub returns-in_err-put-2 : goal.returns-in_err-put-2
returns-in_err-put-2 g c =
    let r = c.from_residual-in_err-put-2 in
    let e = c.args.expectation.now in
    let before = writes_then c.in_ok-put_number.ensures c.in_ok-put.ensures in
    puts_failed r.result r.ensures.0
    (fails_before (above_text (line_value e.above)) (fails_before (laid_out e.text.now c.args.text.now.items) (fails_before (codes " was ") (fails_then before c.in_err-put-2.ensures))))

pub returns-in_err-put-3 : goal.returns-in_err-put-3
returns-in_err-put-3 g c =
    let r = c.from_residual-in_err-put-3 in
    let e = c.args.expectation.now in
    let before = writes_then (writes_then c.in_ok-put_number.ensures c.in_ok-put.ensures) c.in_ok-put-2.ensures in
    puts_failed r.result r.ensures.0 (fails_before (above_text (line_value e.above)) (fails_before (laid_out e.text.now c.args.text.now.items) (fails_then before c.in_err-put-3.ensures)))

pub returns-in_err-put_laid_out : goal.returns-in_err-put_laid_out
returns-in_err-put_laid_out g c =
    let r = c.from_residual-in_err-put_laid_out in
    let e = c.args.expectation.now in
    let before = writes_then (writes_then (writes_then c.in_ok-put_number.ensures c.in_ok-put.ensures) c.in_ok-put-2.ensures) c.in_ok-put-3.ensures in
    puts_failed r.result r.ensures.0 (fails_before (above_text (line_value e.above)) (fails_then before c.in_err-put_laid_out.ensures))

pub returns : goal.returns
returns g c =
    let before = writes_then (writes_then (writes_then (writes_then c.in_ok-put_number.ensures c.in_ok-put.ensures) c.in_ok-put-2.ensures) c.in_ok-put-3.ensures) c.in_ok-put_laid_out.ensures in
    puts_then _ (above_text (line_value c.args.expectation.now.above)) c.put_above.result before c.put_above.ensures
