use Rattle.std.proofs.lemmas.Result.{err_from_is_err_and}
use Rattle.desk_draft.proofs.PushLemmas.{line_faulty, line_pushed}
use Rattle.desk_draft.proofs.instruction.push_instruction.Goals as goal

pub returns-in_err-push_labelled : goal.returns-in_err-push_labelled
returns-in_err-push_labelled c = λ l h.
    let p = err_from_is_err_and c.from_residual.result c.from_residual.ensures.1 in
    rw (p.1, p.2) (line_faulty l c.args.line.now c.without_comment-code.result.now c.in_err-push_labelled.field-0.0 c.without_comment-code.ensures.value (c.in_err-push_labelled.ensures l h))

pub returns : goal.returns
returns c = λ l h. line_pushed l c.args.line.now c.without_comment-code.result.now c.after_front.result.now c.args.deck.now.items c.push_labelled.new.deck.items c.push.new.text.items c.without_comment-code.ensures.value c.after_front.ensures (c.in_ok-push_labelled.ensures l h) c.in_ok-push.ensures
