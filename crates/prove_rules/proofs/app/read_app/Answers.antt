use Rattle.std.proofs.Common.{◌≡◌, ℕ, List, None, Ok, arith, ap, subst, ◌∙◌}
use Rattle.mc_words.specs.model_device.specs.Bytes.{lookup}
use Rattle.std.proofs.lemmas.Result.{err_from_is_err_and}
use Rattle.mc_text.specs.model_text.specs.Text.{fields}
use Rattle.model_rule_text.specs.model_play.specs.declared.deck.DeckCause.TheVariants.{BadLine, NameTwice, OutOfRange, UnknownName}
use Rattle.model_rule_text.specs.Reading.{app_rule, AppLine}
use Rattle.prove_rules.specs.Loads.{loads_in, IsLoadOf}
use Rattle.prove_rules.proofs.AppLemmas.{app_large, app_name_refused, app_twice, app_unknown, no_name, none_yet}
use Rattle.prove_rules.proofs.RefusalLemmas.{deck_faulty}
use Rattle.prove_rules.proofs.app.read_app.Goals as goal

pub returns-in_default-clause-refused : goal.returns-in_default-clause-refused
returns-in_default-clause-refused c =
    let loads = loads_in c.args.source.now.text.now c.args.source.now.deck.now in
    λ a n are. deck_faulty (app_rule loads a n AppLine (fields c.args.text.now)) c.bad_line.result BadLine c.bad_line.ensures (no_name loads a n (fields c.args.text.now) c.in_default.ensures)

pub returns-in_err-name-clause-refused : goal.returns-in_err-name-clause-refused
returns-in_err-name-clause-refused c =
    let p = err_from_is_err_and c.from_residual.result c.from_residual.ensures.1 in
    let loads = loads_in c.args.source.now.text.now c.args.source.now.deck.now in
    rw (p.1, p.2) (λ a n are. app_name_refused loads a n (fields c.args.text.now) c.in-Some.field.now c.in_err-name.field-0.0 c.in-Some.ensures c.in_err-name.ensures.value)

pub returns-then-is_some-clause-refused : goal.returns-then-is_some-clause-refused
returns-then-is_some-clause-refused c =
    let loads = loads_in c.args.source.now.text.now c.args.source.now.deck.now in
    let named = c.in_ok-name.ensures.value ∙ ap Ok c.in_ok-name.ensures.same in
    λ a n are. deck_faulty (app_rule loads a n AppLine (fields c.args.text.now)) c.refused.result NameTwice c.refused.ensures
    (app_twice loads a c.args.rules.now n (fields c.args.text.now) c.in-Some.field.now are c.in-Some.ensures named (grind (arith, c.is_some.ensures, c.if-is_some.true, c.if-is_some.ensures)))

pub returns-in_default-load_of-clause-refused : goal.returns-in_default-load_of-clause-refused
returns-in_default-load_of-clause-refused c =
    let loads = loads_in c.args.source.now.text.now c.args.source.now.deck.now in
    let named = c.in_ok-name.ensures.value ∙ ap Ok c.in_ok-name.ensures.same in
    λ a n are. deck_faulty (app_rule loads a n AppLine (fields c.args.text.now)) c.refused-in_default-load_of.result UnknownName c.refused-in_default-load_of.ensures
    (app_unknown loads a c.args.rules.now n (fields c.args.text.now) c.in-Some.field.now are c.in-Some.ensures named (none_yet c.args.rules.now.load (grind (arith, c.is_some.ensures, c.if-is_some.false, c.if-is_some.ensures)))
    (subst (λ (x : List ℕ). lookup loads x ≡ None) c.in_ok-name.ensures.same c.in_default-load_of.ensures))

pub returns-then-not-is_accepted-clause-refused : goal.returns-then-not-is_accepted-clause-refused
returns-then-not-is_accepted-clause-refused c =
    let loads = loads_in c.args.source.now.text.now c.args.source.now.deck.now in
    let named = c.in_ok-name.ensures.value ∙ ap Ok c.in_ok-name.ensures.same in
    λ a n are. deck_faulty (app_rule loads a n AppLine (fields c.args.text.now)) c.refused-then-not-is_accepted.result OutOfRange c.refused-then-not-is_accepted.ensures
    (app_large loads a c.args.rules.now n (fields c.args.text.now) c.in-Some.field.now c.in-Some-load_of.found are c.in-Some.ensures named (none_yet c.args.rules.now.load (grind (arith, c.is_some.ensures, c.if-is_some.false, c.if-is_some.ensures)))
    (subst (λ (x : List ℕ). IsLoadOf (lookup loads x) c.in-Some-load_of.found) c.in_ok-name.ensures.same c.in-Some-load_of.ensures)
    (grind (arith, c.is_accepted.ensures, c.if-not-is_accepted.true, c.if-not-is_accepted.ensures)))
