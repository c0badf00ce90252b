use Rattle.std.proofs.Common.{◌∷◌}
use Rattle.std.specs.Prelude.{codes}
use Rattle.std.proofs.lemmas.Result.{err_from_is_err_and}
use Rattle.mc_text.specs.model_text.specs.Text.{fields}
use Rattle.model_rule_text.specs.model_play.specs.declared.deck.DeckCause.TheVariants.{BadLine}
use Rattle.model_rule_text.specs.Reading.{always_line}
use Rattle.prove_rules.proofs.AlwaysLemmas.{no_constant, no_terms, no_total_ends}
use Rattle.prove_rules.proofs.RefusalLemmas.{deck_faulty}
use Rattle.prove_rules.proofs.always.total_form.Goals as goal

pub returns-in_default-clause-refused : goal.returns-in_default-clause-refused
returns-in_default-clause-refused c = λ a n block inside.
    deck_faulty (always_line a n (block ∷ codes "=" ∷ fields c.args.text.now)) c.bad_line.result BadLine c.bad_line.ensures (no_constant a n block (fields c.args.text.now) c.in_default.ensures.parts)

pub returns-in_default-range_ends-clause-refused : goal.returns-in_default-range_ends-clause-refused
returns-in_default-range_ends-clause-refused c = λ a n block inside.
    deck_faulty (always_line a n (block ∷ codes "=" ∷ fields c.args.text.now)) c.bad_line-in_default-range_ends.result BadLine c.bad_line-in_default-range_ends.ensures
    (no_total_ends a n block c.args.range.now c.in-Some.constant.now (fields c.args.text.now) (fields c.in-Some.rest.now) c.in-Some.ensures.parts inside c.in_default-range_ends.ensures)

pub returns-in_err-names-clause-refused : goal.returns-in_err-names-clause-refused
returns-in_err-names-clause-refused c =
    let p = err_from_is_err_and c.from_residual.result c.from_residual.ensures.1 in
    rw (p.1, p.2) (λ a n block inside. no_terms a n block c.args.range.now c.in-Some.constant.now (c.in-Some-range_ends.from.now, c.in-Some-range_ends.to.now) (fields c.args.text.now) (fields c.in-Some.rest.now) c.in_err-names.field-0.0
    c.in-Some.ensures.parts inside c.in-Some-range_ends.ensures c.in_err-names.ensures.refused)
