use Rattle.std.proofs.Common.{◌≡◌, ◌∙◌, Ok, ap, rules}
use Rattle.std.proofs.lemmas.Result.{err_from_is_err_and}
use Rattle.desk_draft.specs.Views.{text_of_operand}
use Rattle.desk_draft.proofs.RuleLemmas.{brace_pushed, brace_refused}
use Rattle.desk_draft.proofs.rule.push_brace.Goals as goal

pub returns-in_err-operand : goal.returns-in_err-operand
returns-in_err-operand c = λ l h.
    let p = err_from_is_err_and c.from_residual.result c.from_residual.ensures.1 in
    rw (p.1, p.2) (brace_refused l c.args.text.now c.in_err-operand.field-0.0 (c.in_err-operand.ensures l h))

pub returns : goal.returns
returns c = λ l h.
    let made : c.as_slice.result.now ≡ text_of_operand c.in_ok-operand.operand = search rules in
    brace_pushed l c.args.text.now c.as_slice.result.now c.args.deck.now.items c.push_made.new.deck.items c.push_made.result (ap Ok made ∙ c.in_ok-operand.ensures l h) c.push_made.ensures
