use Rattle.std.proofs.Common.{List, ◌∙◌, ap, map}
use Rattle.law_explore.specs.model_events.specs.Matching.{plain}
use Rattle.lab_rules.specs.declared.rules.Move.{Move}
use Rattle.lab_rules.specs.declared.rules.OnRule.{OnRule}
use Rattle.lab_rules.specs.Occasions.{row_of}
use Rattle.lab_rules.proofs.CountLemmas.{rows_as}
use Rattle.lab_rules.proofs.occasions.applications.Goals as goal

pub returns : goal.returns
returns c =
    let rules = c.args.rules.now in
    λ r are.
    rows_as r.allowances rules.ons.items r.ons c.in_ok-rows.field-0.items rules.moves.items r.moves are.ons are.moves
    (c.in_ok-rows.ensures
    ∙ ap (λ (os : List OnRule). map (λ m. row_of os (plain m.text.now)) c.as_slice.result.now) c.as_slice-2.ensures.value
    ∙ ap (λ (ms : List Move). map (λ m. row_of rules.ons.items (plain m.text.now)) ms) c.as_slice.ensures.value)
