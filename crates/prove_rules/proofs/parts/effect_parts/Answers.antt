use Rattle.prove_rules.specs.Parts.{deeds_value, effect_words}
use Rattle.mc_text.specs.model_text.specs.Text.{fields}
use Rattle.model_rule_text.specs.model_play.specs.RuleLines.{parts_of}
use Rattle.prove_rules.proofs.PartLemmas.{none_by, parts_found, parts_none, parts_step}
use Rattle.prove_rules.proofs.parts.effect_parts.Goals as goal

pub returns-in-Some-deeds_named-clause-parts : goal.returns-in-Some-deeds_named-clause-parts
returns-in-Some-deeds_named-clause-parts c =
    parts_found (effect_words c.args.of_turn) (fields c.args.text.now) (fields c.loop-field.rest.now) c.loop-field.pattern.items c.in-Some.field.now c.in-Some.after.now (deeds_value c.in-Some-deeds_named.deeds)
    c.in-Some.ensures.parts c.in-Some-deeds_named.ensures c.loop-field.invariant

pub loop-field-preserved : goal.loop-field-preserved
loop-field-preserved c =
    parts_step (effect_words c.args.of_turn) (fields c.args.text.now) (fields c.loop-field.rest.now) c.loop-field.pattern.items c.in-Some.field.now (fields c.in-Some.after.now) c.add_plain.new.into.items
    c.in-Some.ensures.parts c.in_default-deeds_named.ensures c.in-Some.ensures.bare c.in_ok-add_plain.ensures c.loop-field.invariant

pub returns-clause-refused : goal.returns-clause-refused
returns-clause-refused c =
    none_by (parts_of (effect_words c.args.of_turn) (fields c.args.text.now)) c.bad_line.result
    (parts_none (effect_words c.args.of_turn) (fields c.args.text.now) (fields c.loop-field.rest.now) c.loop-field.pattern.items c.in_default.ensures.parts c.loop-field.invariant) c.bad_line.ensures
