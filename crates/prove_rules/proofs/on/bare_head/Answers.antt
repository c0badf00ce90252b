use Rattle.std.proofs.lemmas.Result.{err_from_is_err_and}
use Rattle.std.proofs.Common.{arith, false}
use Rattle.mc_text.specs.model_text.specs.Text.{fields}
use Rattle.model_rule_text.specs.model_play.specs.RuleLines.{parts_of}
use Rattle.prove_rules.specs.Parts.{deeds_value, effect_words}
use Rattle.prove_rules.proofs.OnLemmas.{bare_bad, bare_none, some_items}
use Rattle.prove_rules.proofs.on.bare_head.Goals as goal

pub returns-in_err-head-clause-refused : goal.returns-in_err-head-clause-refused
returns-in_err-head-clause-refused c =
    let p = err_from_is_err_and c.from_residual.result c.from_residual.ensures.1 in
    rw (p.1, p.2) (bare_none (parts_of (effect_words false) (fields c.args.text.now)) c.in_err-head.field-0.0 c.in_err-head.ensures.refused)

pub returns-then-not-is_empty-clause-refused : goal.returns-then-not-is_empty-clause-refused
returns-then-not-is_empty-clause-refused c =
    bare_bad (parts_of (effect_words false) (fields c.args.text.now)) c.in_ok-head.head.pattern.items (deeds_value c.in_ok-head.head.deeds) c.in_ok-head.head.after.now c.bad_line.result c.in_ok-head.ensures.head (some_items c.in_ok-head.head.pattern.items (grind (arith, c.is_empty.ensures, c.if-not-is_empty.true, c.if-not-is_empty.ensures))) c.bad_line.ensures
