use Rattle.std.proofs.Common.{List, map, arith, ap, ◌∙◌}
use Rattle.lab_app_rules.specs.declared.rules.Named.{Named}
use Rattle.lab_app_rules.specs.Rules.{allowance_of}
use Rattle.prove_rules.specs.Partials.{place_of}
use Rattle.std.proofs.lemmas.Result.{err_from_is_err_and}
use Rattle.mc_text.specs.model_text.specs.Text.{fields}
use Rattle.prove_rules.proofs.AppLemmas.{pair_fault, twice_fault}
use Rattle.prove_rules.proofs.app.add_named.Goals as goal

pub returns-in_err-name-clause-refused : goal.returns-in_err-name-clause-refused
returns-in_err-name-clause-refused c =
    let p = err_from_is_err_and c.from_residual.result c.from_residual.ensures.1 in
    rw p.1 (pair_fault c.args.list.now.items (fields c.args.text.now) c.in_err-name.field-0.0 p.0 c.in_err-name.ensures p.2)

pub returns-then-is_some-clause-refused : goal.returns-then-is_some-clause-refused
returns-then-is_some-clause-refused c =
    twice_fault c.args.list.now.items (fields c.args.text.now) c.in_ok-name.name.now c.in_ok-name.amount c.place_of.result c.refused.result c.in_ok-name.ensures (c.place_of.ensures ∙ ap (λ (l : List Named). place_of (map allowance_of l) c.in_ok-name.name.now) c.as_slice.ensures.value) (grind (arith, c.is_some.ensures, c.if-is_some.true, c.if-is_some.ensures)) c.refused.ensures
