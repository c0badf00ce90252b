use Rattle.std.proofs.Common.{◌≡◌, Result, arith, subst, true}
use Rattle.std.proofs.lemmas.Result.{on_ok_weaker, IfErr-weaker}
use Rattle.mc_text.specs.model_text.specs.Text.{fields}
use Rattle.model_rule_text.specs.model_play.specs.declared.deck.DeckCause.TheVariants.{BadLine}
use Rattle.model_rule_text.specs.model_play.specs.RuleLines.{is_marked}
use Rattle.prove_facts.specs.model_rules.specs.Rules.{AppRules}
use Rattle.model_rule_text.specs.Reading.{RuleCause}
use Rattle.prove_rules.specs.Lines.{rules_with}
use Rattle.prove_rules.specs.Loads.{loads_in}
use Rattle.prove_rules.specs.Partials.{ArePartRead}
use Rattle.prove_rules.specs.Refused.{Faulty}
use Rattle.prove_rules.proofs.ReadLemmas.{longer_mark, rule_line, TextFault, WordFault}
use Rattle.prove_rules.proofs.RefusalLemmas.{deck_faulty}
use Rattle.prove_rules.proofs.reading.add_line.Goals as goal

pub returns-in_default-clause-refused : goal.returns-in_default-clause-refused
returns-in_default-clause-refused c =
    let loads = loads_in c.args.source.now.text.now c.args.source.now.deck.now in
    let marked : is_marked (fields c.args.line.now) ≡ true = grind (arith, c.is_marked.ensures, c.if-not-is_marked.false, c.if-not-is_marked.ensures) in
    λ a are. deck_faulty (rules_with loads c.args.inside (c.args.number, c.args.line.now) a) c.bad_line.result BadLine c.bad_line.ensures
    (longer_mark loads a c.args.number c.args.inside c.args.line.now c.if-inside.false marked c.in_default.ensures)

pub returns-clause-added : goal.returns-clause-added
returns-clause-added c =
    let loads = loads_in c.args.source.now.text.now c.args.source.now.deck.now in
    let marked : is_marked (fields c.args.line.now) ≡ true = grind (arith, c.is_marked.ensures, c.if-not-is_marked.false, c.if-not-is_marked.ensures) in
    on_ok_weaker c.add_rule.result (λ h a are.
    subst (λ (r : Result AppRules RuleCause). ArePartRead r c.add_rule.new.rules)
    (rule_line loads a c.args.number c.args.inside c.args.line.now (fields c.in-Some.text.now) c.if-inside.false marked c.in-Some.ensures) (h a are)) c.add_rule.ensures.added

pub returns-clause-refused : goal.returns-clause-refused
returns-clause-refused c =
    let loads = loads_in c.args.source.now.text.now c.args.source.now.deck.now in
    let marked : is_marked (fields c.args.line.now) ≡ true = grind (arith, c.is_marked.ensures, c.if-not-is_marked.false, c.if-not-is_marked.ensures) in
    IfErr-weaker c.add_rule.result (WordFault loads c.args.rules.now c.args.number (fields c.in-Some.text.now)) (TextFault loads c.args.rules.now c.args.inside (c.args.number, c.args.line.now))
    (λ e h a are.
    subst (λ (r : Result AppRules RuleCause). Faulty r e)
    (rule_line loads a c.args.number c.args.inside c.args.line.now (fields c.in-Some.text.now) c.if-inside.false marked c.in-Some.ensures) (h a are)) c.add_rule.ensures.refused
