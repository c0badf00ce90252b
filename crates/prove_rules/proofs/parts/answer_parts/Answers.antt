use Rattle.std.proofs.Common.{◌≡◌, Some, None, cond, true, ap, sym, ◌∙◌}
use Rattle.mc_words.specs.model_device.specs.Bytes.{lookup}
use Rattle.mc_text.specs.model_text.specs.Text.{fields}
use Rattle.model_rule_text.specs.model_play.specs.RuleLines.{parts_of}
use Rattle.model_rule_text.specs.Reading.{gives_words}
use Rattle.prove_rules.proofs.PartLemmas.{none_by, parts_found, parts_none, parts_step}
use Rattle.prove_rules.proofs.parts.answer_parts.Goals as goal

pub returns-then-is_gives-clause-parts : goal.returns-then-is_gives-clause-parts
returns-then-is_gives-clause-parts c =
    let found : Some true ≡ lookup gives_words c.in-Some.field.now = ap (λ b. cond b (Some true) None) (sym c.if-is_gives.true) ∙ c.is_gives.ensures in
    parts_found gives_words (fields c.args.text.now) (fields c.loop-field.rest.now) c.loop-field.pattern.items c.in-Some.field.now c.in-Some.after.now true
    c.in-Some.ensures.parts found c.loop-field.invariant

pub loop-field-preserved : goal.loop-field-preserved
loop-field-preserved c =
    parts_step gives_words (fields c.args.text.now) (fields c.loop-field.rest.now) c.loop-field.pattern.items c.in-Some.field.now (fields c.in-Some.after.now) c.add_plain.new.into.items
    c.in-Some.ensures.parts (ap (λ b. cond b (Some true) None) (sym c.if-is_gives.false) ∙ c.is_gives.ensures) c.in-Some.ensures.bare c.in_ok-add_plain.ensures c.loop-field.invariant

pub returns-clause-refused : goal.returns-clause-refused
returns-clause-refused c =
    none_by (parts_of gives_words (fields c.args.text.now)) c.bad_line.result
    (parts_none gives_words (fields c.args.text.now) (fields c.loop-field.rest.now) c.loop-field.pattern.items c.in_default.ensures.parts c.loop-field.invariant) c.bad_line.ensures
