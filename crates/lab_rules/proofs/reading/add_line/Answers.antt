use Rattle.std.proofs.Common.{◌≡◌, arith, true, subst, sym}
use Rattle.std.proofs.lemmas.Result.{on_ok_weaker, IfErr-weaker}
use Rattle.mc_text.specs.model_text.specs.Text.{fields}
use Rattle.law_explore.specs.Rules as model
use Rattle.law_explore.specs.model_play.specs.RuleLines.{is_marked}
use Rattle.mc_deck.specs.Refused.{Faulty}
use Rattle.lab_rules.specs.Meanings.{rule_of, rules_with, AreRules, AreRulesRead}
use Rattle.lab_rules.proofs.ReadLemmas.{longer_fault, outside_rule, rule_line}
use Rattle.lab_rules.proofs.reading.add_line.Goals as goal

pub rule_text-requires-clause-marked : goal.rule_text-requires-clause-marked
rule_text-requires-clause-marked c = grind (arith, c.is_marked.ensures, c.if-not-is_marked.false, c.if-not-is_marked.ensures)

pub returns-in-Err-clause-refused : goal.returns-in-Err-clause-refused
returns-in-Err-clause-refused c =
    let marked : is_marked (fields c.args.line.now) ≡ true = grind (arith, c.is_marked.ensures, c.if-not-is_marked.false, c.if-not-is_marked.ensures) in
    λ r are. longer_fault r c.args.number c.args.inside c.args.line.now c.in-Err.fault c.if-inside.false marked c.in-Err.ensures.refused.0 c.in-Err.ensures.refused.1

pub returns-clause-added : goal.returns-clause-added
returns-clause-added c =
    let text = outside_rule c.args.inside c.args.line.now c.in-Ok.text.now c.if-inside.false c.in-Ok.ensures.text in
    on_ok_weaker c.add_rule.result
    (λ h r are. subst (AreRulesRead c.add_rule.new.rules) (sym (rule_line r c.args.number c.args.inside c.args.line.now c.in-Ok.text.now text)) (h r are))
    c.add_rule.ensures.added

pub returns-clause-refused : goal.returns-clause-refused
returns-clause-refused c =
    let text = outside_rule c.args.inside c.args.line.now c.in-Ok.text.now c.if-inside.false c.in-Ok.ensures.text in
    IfErr-weaker c.add_rule.result
    (λ e. (r : model.Rules) → AreRules c.args.rules.now r → Faulty (rule_of r c.args.number c.in-Ok.text.now (fields c.in-Ok.text.now)) e)
    (λ e. (r : model.Rules) → AreRules c.args.rules.now r → Faulty (rules_with c.args.inside (c.args.number, c.args.line.now) r) e)
    (λ e h r are. subst (λ x. Faulty x e) (sym (rule_line r c.args.number c.args.inside c.args.line.now c.in-Ok.text.now text)) (h r are))
    c.add_rule.ensures.refused
