use Rattle.std.proofs.lemmas.Result.{err_from_is_err_and}
use Rattle.mc_text.specs.model_text.specs.Text.{fields}
use Rattle.prove_rules.proofs.AlwaysLemmas.{total_added, total_line_refused}
use Rattle.prove_rules.proofs.always.add_total.Goals as goal

pub returns-in_err-form-clause-refused : goal.returns-in_err-form-clause-refused
returns-in_err-form-clause-refused c =
    let p = err_from_is_err_and c.from_residual.result c.from_residual.ensures.1 in
    rw (p.1, p.2) (λ a block are inside. c.in_err-form.ensures.refused a c.args.line block inside)

pub returns-in_err-total-clause-refused : goal.returns-in_err-total-clause-refused
returns-in_err-total-clause-refused c =
    let p = err_from_is_err_and c.from_residual-in_err-total.result c.from_residual-in_err-total.ensures.1 in
    rw (p.1, p.2) (λ a block are inside. total_line_refused a c.args.line block c.args.range.now (fields c.args.text.now) c.in_ok-form.form c.in_err-total.field-0.0 inside c.in_ok-form.ensures.form (c.in_err-total.ensures.refused a c.args.line are))

pub returns-clause-added : goal.returns-clause-added
returns-clause-added c = λ a block are inside.
    total_added a c.args.rules.now c.args.line block c.args.range.now (fields c.args.text.now) c.in_ok-form.form c.in_ok-total.total c.push.new.list.items are inside c.in_ok-form.ensures.form c.in_ok-total.ensures.line c.in_ok-total.ensures.read
    c.in_ok-push.ensures
