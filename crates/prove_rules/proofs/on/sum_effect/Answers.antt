use Rattle.std.proofs.Common.{List, Bool, Some, map, ap, refl, sym, ◌∙◌}
use Rattle.lab_app_rules.specs.declared.rules.Named.{Named}
use Rattle.lab_app_rules.specs.Rules.{allowance_of}
use Rattle.prove_rules.specs.Partials.{place_of}
use Rattle.std.proofs.lemmas.Result.{err_from_is_err_and}
use Rattle.mc_text.specs.model_text.specs.Text.{fields}
use Rattle.model_rule_text.specs.model_play.specs.declared.deck.DeckCause.TheVariants.{UnknownName}
use Rattle.prove_facts.specs.model_rules.specs.Rules.{AtTurn}
use Rattle.model_rule_text.specs.Reading.{with_deed, OnSum}
use Rattle.prove_rules.specs.Fields.{form_value}
use Rattle.prove_rules.proofs.OnLemmas.{amount_refused, form_refused, name_refused, no_sum, no_two_fields, read_refused, sum_line_of, sum_unnamed, sum_value}
use Rattle.prove_rules.proofs.RefusalLemmas.{deck_faulty}
use Rattle.prove_rules.proofs.on.sum_effect.Goals as goal

pub returns-in_err-field-clause-refused : goal.returns-in_err-field-clause-refused
returns-in_err-field-clause-refused c =
    let p = err_from_is_err_and c.from_residual.result c.from_residual.ensures.1 in
    rw (p.1, p.2, c.in_err-field.ensures.none.0) (λ a n pattern are. no_two_fields a n pattern c.args.adds (fields c.args.text.now) c.in_err-field.ensures.none.1)

pub returns-in_err-form-clause-refused : goal.returns-in_err-form-clause-refused
returns-in_err-form-clause-refused c =
    let p = err_from_is_err_and c.from_residual-in_err-form.result c.from_residual-in_err-form.ensures.1 in
    rw (p.1, p.2) (λ a n pattern are. form_refused a n pattern c.args.adds (fields c.args.text.now) c.in_ok-field.field.now c.in_ok-field.amount.now c.in_err-form.field-0.0 c.in_ok-field.ensures.parts c.in_err-form.ensures)

pub returns-in_err-name-clause-refused : goal.returns-in_err-name-clause-refused
returns-in_err-name-clause-refused c =
    let p = err_from_is_err_and c.from_residual-in_err-name.result c.from_residual-in_err-name.ensures.1 in
    rw (p.1, p.2) (λ a n pattern are. name_refused a n pattern c.args.adds (fields c.args.text.now) c.in_ok-field.field.now c.in_ok-field.amount.now (form_value c.in_ok-form.form) c.in_err-name.field-0.0 c.in_ok-field.ensures.parts c.in_ok-form.ensures c.in_err-name.ensures.value)

pub returns-in_err-read-clause-refused : goal.returns-in_err-read-clause-refused
returns-in_err-read-clause-refused c =
    let p = err_from_is_err_and c.from_residual-in_err-read.result c.from_residual-in_err-read.ensures.1 in
    rw (p.1, p.2) (λ a n pattern are. read_refused a n pattern c.args.adds (fields c.args.text.now) c.in_ok-field.field.now c.in_ok-field.amount.now (form_value c.in_ok-form.form) c.in_err-read.field-0.0 c.in_ok-field.ensures.parts c.in_ok-form.ensures
    (sum_value c.in_ok-field.field.now c.in_ok-name.name.now c.in_ok-name.ensures.value c.in_ok-name.ensures.same) c.in_err-read.ensures)

pub returns-in_err-_load-clause-refused : goal.returns-in_err-_load-clause-refused
returns-in_err-_load-clause-refused c =
    let p = err_from_is_err_and c.from_residual-in_err-_load.result c.from_residual-in_err-_load.ensures.1 in
    let s = sum_line_of (fields c.args.text.now) c.in_ok-field.field.now c.in_ok-name.name.now c.in_ok-field.amount.now c.in_ok-form.form c.in_ok-read.read c.in_ok-field.ensures.parts c.in_ok-form.ensures c.in_ok-name.ensures.value c.in_ok-name.ensures.same c.in_ok-read.ensures in
    rw (p.1, p.2, c.in_err-_load.ensures.refused.0) (λ a n pattern are. sum_unnamed a c.args.rules.now n pattern c.args.adds (fields c.args.text.now) c.in_ok-name.name.now s.0 are s.1 c.in_err-_load.ensures.refused.1)

pub returns-in_default-clause-refused : goal.returns-in_default-clause-refused
returns-in_default-clause-refused c =
    let s = sum_line_of (fields c.args.text.now) c.in_ok-field.field.now c.in_ok-name.name.now c.in_ok-field.amount.now c.in_ok-form.form c.in_ok-read.read c.in_ok-field.ensures.parts c.in_ok-form.ensures c.in_ok-name.ensures.value c.in_ok-name.ensures.same c.in_ok-read.ensures in
    λ a n pattern are.
    deck_faulty (with_deed a n (AtTurn pattern) (OnSum c.args.adds) (fields c.args.text.now)) c.refused.result UnknownName c.refused.ensures
    (no_sum a c.args.rules.now n pattern c.args.adds (fields c.args.text.now) c.in_ok-name.name.now s.0 (record { aid = c.in_ok-_load.ensures.load.0; load = c.in_ok-_load._load }) are s.1 c.in_ok-_load.ensures.load.1 (c.in_default.ensures ∙ ap (λ (l : List Named). place_of (map allowance_of l) c.in_ok-name.name.now) c.as_slice.ensures.value))

pub returns-in_err-amount-clause-refused : goal.returns-in_err-amount-clause-refused
returns-in_err-amount-clause-refused c =
    let p = err_from_is_err_and c.from_residual-in_err-amount.result c.from_residual-in_err-amount.ensures.1 in
    let s = sum_line_of (fields c.args.text.now) c.in_ok-field.field.now c.in_ok-name.name.now c.in_ok-field.amount.now c.in_ok-form.form c.in_ok-read.read c.in_ok-field.ensures.parts c.in_ok-form.ensures c.in_ok-name.ensures.value c.in_ok-name.ensures.same c.in_ok-read.ensures in
    rw (p.1, p.2) (λ a n pattern are. amount_refused a c.args.rules.now n pattern c.args.adds (fields c.args.text.now) c.in_ok-name.name.now s.0 (record { aid = c.in_ok-_load.ensures.load.0; load = c.in_ok-_load._load }) c.in-Some.place c.in_err-amount.field-0.0 are s.1 c.in_ok-_load.ensures.load.1 (sym (c.in-Some.ensures ∙ ap (λ (l : List Named). place_of (map allowance_of l) c.in_ok-name.name.now) c.as_slice.ensures.value))
    (c.in_err-amount.ensures s.0 s.2))

pub returns-then-adds-clause-effect : goal.returns-then-adds-clause-effect
returns-then-adds-clause-effect c =
    let s = sum_line_of (fields c.args.text.now) c.in_ok-field.field.now c.in_ok-name.name.now c.in_ok-field.amount.now c.in_ok-form.form c.in_ok-read.read c.in_ok-field.ensures.parts c.in_ok-form.ensures c.in_ok-name.ensures.value c.in_ok-name.ensures.same c.in_ok-read.ensures in
    record { name = c.in_ok-name.name.now; text = s.1.text; parts = s.1.parts; form = s.1.form; formed = s.1.formed; named = s.1.named; read = s.0; reads = s.1.reads; value = c.in_ok-amount.amount; is = c.in_ok-amount.ensures s.0 s.2; deed = refl; move = ap (λ (b : Bool). Some (b, c.in_ok-amount.amount)) (sym c.if-adds.true); place = sym (c.in-Some.ensures ∙ ap (λ (l : List Named). place_of (map allowance_of l) c.in_ok-name.name.now) c.as_slice.ensures.value); found = (record { aid = c.in_ok-_load.ensures.load.0; load = c.in_ok-_load._load }); loaded = c.in_ok-_load.ensures.load.1 }

pub returns-clause-effect : goal.returns-clause-effect
returns-clause-effect c =
    let s = sum_line_of (fields c.args.text.now) c.in_ok-field.field.now c.in_ok-name.name.now c.in_ok-field.amount.now c.in_ok-form.form c.in_ok-read.read c.in_ok-field.ensures.parts c.in_ok-form.ensures c.in_ok-name.ensures.value c.in_ok-name.ensures.same c.in_ok-read.ensures in
    record { name = c.in_ok-name.name.now; text = s.1.text; parts = s.1.parts; form = s.1.form; formed = s.1.formed; named = s.1.named; read = s.0; reads = s.1.reads; value = c.in_ok-amount.amount; is = c.in_ok-amount.ensures s.0 s.2; deed = refl; move = ap (λ (b : Bool). Some (b, c.in_ok-amount.amount)) (sym c.if-adds.false); place = sym (c.in-Some.ensures ∙ ap (λ (l : List Named). place_of (map allowance_of l) c.in_ok-name.name.now) c.as_slice.ensures.value); found = (record { aid = c.in_ok-_load.ensures.load.0; load = c.in_ok-_load._load }); loaded = c.in_ok-_load.ensures.load.1 }
