use Rattle.std.proofs.Common.{List, map, ap, ◌∙◌}
use Rattle.lab_app_rules.specs.declared.rules.Named.{Named}
use Rattle.lab_app_rules.specs.Rules.{allowance_of}
use Rattle.prove_rules.specs.Partials.{place_of}
use Rattle.std.proofs.lemmas.Result.{err_from_is_err_and}
use Rattle.mc_text.specs.model_text.specs.Text.{fields}
use Rattle.model_rule_text.specs.model_play.specs.declared.deck.DeckCause.TheVariants.{UnknownName}
use Rattle.model_rule_text.specs.Reading.{with_deed, OnAllowance}
use Rattle.prove_rules.specs.Parts.{action_value}
use Rattle.prove_rules.proofs.OnLemmas.{no_allowance, no_application, pair_refused}
use Rattle.prove_rules.proofs.RefusalLemmas.{deck_faulty}
use Rattle.prove_rules.proofs.on.allowance_effect.Goals as goal

pub returns-in_err-name-clause-refused : goal.returns-in_err-name-clause-refused
returns-in_err-name-clause-refused c =
    let p = err_from_is_err_and c.from_residual.result c.from_residual.ensures.1 in
    rw (p.1, p.2) (λ a n t are. pair_refused a n t (action_value c.args.action) (fields c.args.text.now) c.in_err-name.field-0.0 c.in_err-name.ensures)

pub returns-in_err-_load-clause-refused : goal.returns-in_err-_load-clause-refused
returns-in_err-_load-clause-refused c =
    let p = err_from_is_err_and c.from_residual-in_err-_load.result c.from_residual-in_err-_load.ensures.1 in
    rw (p.1, p.2, c.in_err-_load.ensures.refused.0)
    (λ a n t are. no_application a c.args.rules.now n t (action_value c.args.action) (fields c.args.text.now) c.in_ok-name.name.now c.in_ok-name.amount are c.in_ok-name.ensures c.in_err-_load.ensures.refused.1)

pub returns-in_default-clause-refused : goal.returns-in_default-clause-refused
returns-in_default-clause-refused c = λ a n t are.
    deck_faulty (with_deed a n t (OnAllowance (action_value c.args.action)) (fields c.args.text.now)) c.refused.result UnknownName c.refused.ensures
    (no_allowance a c.args.rules.now n t (action_value c.args.action) (fields c.args.text.now) c.in_ok-name.name.now c.in_ok-name.amount (record { aid = c.in_ok-_load.ensures.load.0; load = c.in_ok-_load._load }) are c.in_ok-name.ensures c.in_ok-_load.ensures.load.1 (c.in_default.ensures ∙ ap (λ (l : List Named). place_of (map allowance_of l) c.in_ok-name.name.now) c.as_slice.ensures.value))
