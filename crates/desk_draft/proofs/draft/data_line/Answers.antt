use Rattle.std.proofs.Common.{◌≡◌, ◌∙◌, ap, rules}
use Rattle.std.proofs.lemmas.Result.{err_from_is_err_and}
use Rattle.mc_asm.specs.Items.{texts}
use Rattle.desk_draft.specs.Views.{scope_of}
use Rattle.desk_draft.proofs.DraftLemmas.{data_turned, data_faulty}
use Rattle.desk_draft.proofs.draft.data_line.Goals as goal

pub returns-in_err-take_data : goal.returns-in_err-take_data
returns-in_err-take_data c = λ l later h.
    let p = err_from_is_err_and c.from_residual.result c.from_residual.ensures.1 in
    let same : c.as_slice.result.now ≡ c.fields.result.items = search rules in
    rw (p.1, p.2) (data_faulty (scope_of c.args.scope.now l) c.args.line.now (texts c.as_slice.result.now) later c.in_err-take_data.field-0.0 (ap texts same ∙ c.fields.ensures.value) (c.in_err-take_data.ensures.takes l h))

pub returns : goal.returns
returns c = λ l later h.
    let same : c.as_slice.result.now ≡ c.fields.result.items = search rules in
    data_turned (scope_of c.args.scope.now l) c.args.line.now c.args.deck.now.items c.push.new.text.items (texts c.as_slice.result.now) later c.take_data.new.scope (ap texts same ∙ c.fields.ensures.value) (c.in_ok-take_data.ensures.takes l h) c.in_ok-push.ensures
