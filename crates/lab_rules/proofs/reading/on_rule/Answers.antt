use Rattle.std.proofs.Common.{refl, sym}
use Rattle.mc_text.specs.model_text.specs.Text.{fields}
use Rattle.law_explore.specs.model_play.specs.RuleLines.{full_parts, parts_of}
use Rattle.law_explore.specs.Rules.{occasion_words}
use Rattle.lab_rules.specs.Meanings.{allowance_values, effect_value, occasion_value, on_of}
use Rattle.lab_rules.proofs.OnLemmas.{all_parts, name_unknown, on_is_read}
use Rattle.lab_rules.proofs.reading.on_rule.Goals as goal

pub returns-in_default : goal.returns-in_default
returns-in_default c =
    let held = allowance_values c.args.rules.now.allowances.items in
    let first = full_parts (parts_of occasion_words (fields c.args.text.now)) in
    let p = c.in-Ok.parts in
    let q = c.in-Ok-effect_parts.parts in
    let parts = all_parts c.args.number held first p.0.items p.2.now q.0.items q.2.now (occasion_value p.1) (effect_value q.1) c.in-Ok.ensures c.in-Ok-effect_parts.ensures in
    name_unknown c.args.number held (on_of c.args.number held (fields c.args.text.now)) p.0.items q.0.items q.2.now c.in-Ok-name_and_amount.fields.0.now c.in-Ok-name_and_amount.fields.1 (occasion_value p.1) (effect_value q.1)
    parts c.in-Ok-name_and_amount.ensures (sym c.in_default.ensures)

pub returns : goal.returns
returns c =
    let held = allowance_values c.args.rules.now.allowances.items in
    let first = full_parts (parts_of occasion_words (fields c.args.text.now)) in
    let p = c.in-Ok.parts in
    let q = c.in-Ok-effect_parts.parts in
    let n = c.in-Ok-name_and_amount.fields in
    let parts = all_parts c.args.number held first p.0.items p.2.now q.0.items q.2.now (occasion_value p.1) (effect_value q.1) c.in-Ok.ensures c.in-Ok-effect_parts.ensures in
    on_is_read c.args.number held (on_of c.args.number held (fields c.args.text.now)) q.2.now n.0.now
    (record { line = c.args.number; moves = p.0; occasion = p.1; pattern = q.0; effect = q.1; allowance = c.in-Some.allowance; amount = n.1 }) refl
    parts c.in-Ok-name_and_amount.ensures (sym c.in-Some.ensures)
