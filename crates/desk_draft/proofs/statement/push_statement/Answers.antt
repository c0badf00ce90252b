use Rattle.std.proofs.lemmas.Result.{err_from_is_err_and}
use Rattle.desk_draft.specs.Views.{part_value}
use Rattle.desk_draft.proofs.StatementLemmas.{statement_faulty, statement_pushed}
use Rattle.desk_draft.proofs.statement.push_statement.Goals as goal

pub returns-in_err-push_rest : goal.returns-in_err-push_rest
returns-in_err-push_rest c = λ l h.
    let p = err_from_is_err_and c.from_residual-in_err-push_rest.result c.from_residual-in_err-push_rest.ensures.1 in
    rw (p.1, p.2) (statement_faulty l c.args.line.now c.after_word.result.now (part_value c.part_in-part.result) c.in_err-push_rest.field-0.0 c.after_word.ensures.value c.part_in-part.ensures (c.in_err-push_rest.ensures l h))

pub returns : goal.returns
returns c = λ l h. statement_pushed l c.args.line.now c.after_word.result.now c.args.deck.now.items c.push.new.text.items c.push_rest.new.deck.items c.push-2.new.text.items (part_value c.part_in-part.result) c.after_word.ensures.value c.part_in-part.ensures c.in_ok-push.ensures (c.in_ok-push_rest.ensures l h) c.in_ok-push-2.ensures
