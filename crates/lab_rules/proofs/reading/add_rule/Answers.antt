use Rattle.std.proofs.Common.{subst}
use Rattle.std.proofs.lemmas.Result.{on_ok_weaker, IfErr-weaker}
use Rattle.mc_text.specs.model_text.specs.Text.{fields, trim}
use Rattle.law_explore.specs.Rules as model
use Rattle.law_explore.specs.Rules.{with_rule}
use Rattle.mc_deck.specs.Refused.{Faulty}
use Rattle.lab_rules.specs.Meanings.{kind_value, rule_of, AreRules, AreRulesRead}
use Rattle.lab_rules.proofs.FieldLemmas.{one_line_rest}
use Rattle.lab_rules.proofs.ReadLemmas.{kind_rule}
use Rattle.lab_rules.proofs.reading.add_rule.Goals as goal

pub add_kind-requires : goal.add_kind-requires
add_kind-requires c = one_line_rest c.args.text.now c.in-Some.behind.now c.in-Some.ensures.rest c.requires

pub returns-clause-added : goal.returns-clause-added
returns-clause-added c =
    on_ok_weaker c.add_kind.result
    (λ h r are. subst (AreRulesRead c.add_kind.new.rules) (kind_rule r c.args.number c.args.text.now c.in-Some.word.now c.in-Some.behind.now (kind_value c.in-Some-kind_named.kind) c.in-Some.ensures.parts c.in-Some.ensures.rest c.in-Some-kind_named.ensures) (h r are))
    c.add_kind.ensures.added

pub returns-clause-refused : goal.returns-clause-refused
returns-clause-refused c =
    IfErr-weaker c.add_kind.result
    (λ e. (r : model.Rules) → AreRules c.args.rules.now r → Faulty (with_rule r c.args.number (trim c.in-Some.behind.now) (kind_value c.in-Some-kind_named.kind) (fields c.in-Some.behind.now)) e)
    (λ e. (r : model.Rules) → AreRules c.args.rules.now r → Faulty (rule_of r c.args.number c.args.text.now (fields c.args.text.now)) e)
    (λ e h r are. subst (λ x. Faulty x e) (kind_rule r c.args.number c.args.text.now c.in-Some.word.now c.in-Some.behind.now (kind_value c.in-Some-kind_named.kind) c.in-Some.ensures.parts c.in-Some.ensures.rest c.in-Some-kind_named.ensures) (h r are))
    c.add_kind.ensures.refused
