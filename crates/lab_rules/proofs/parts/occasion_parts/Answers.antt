use Rattle.mc_text.specs.model_text.specs.Text.{fields}
use Rattle.law_explore.specs.Rules.{occasion_words}
use Rattle.lab_rules.proofs.PartLemmas.{parts_step}
use Rattle.lab_rules.proofs.parts.occasion_parts.Goals as goal

pub loop-field-preserved : goal.loop-field-preserved
loop-field-preserved c =
    parts_step occasion_words (fields c.args.text.now) (fields c.loop-field.rest.now) c.loop-field.pattern.items c.in-Some.field.now (fields c.in-Some.behind.now) c.add_plain.new.into.items
    c.in-Some.ensures.parts c.in_default-occasion_named.ensures c.in-Some.ensures.bare c.in_ok-add_plain.ensures c.loop-field.invariant
