use Rattle.std.proofs.Common.{◌≡◌, ◌∙◌, List, map, rules, sym}
use Rattle.std.proofs.lemmas.Simd.{map-map}
use Rattle.lab_rules.specs.declared.rules.Allowance.{Allowance}
use Rattle.lab_rules.specs.Meanings.{allowance_value}
use Rattle.lab_rules.proofs.rules.Rules.amounts.Goals as goal

pub returns : goal.returns
returns c =
    let held : List Allowance = c.args.self.now.allowances.items in
    let is : c.in_ok-collect.field-0.items ≡ map (λ a. a.amount) held = search rules in
    is ∙ sym (map-map (λ a. a.1) allowance_value held)
