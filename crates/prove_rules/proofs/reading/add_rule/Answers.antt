use Rattle.std.proofs.Common.{Result, subst}
use Rattle.std.proofs.lemmas.Result.{on_ok_weaker, IfErr-weaker}
use Rattle.mc_text.specs.model_text.specs.Text.{fields}
use Rattle.model_rule_text.specs.model_play.specs.declared.deck.DeckCause.TheVariants.{BadLine}
use Rattle.prove_facts.specs.model_rules.specs.Rules.{AppRules}
use Rattle.model_rule_text.specs.Reading.{RuleCause}
use Rattle.prove_rules.specs.Lines.{kind_value, rule_of}
use Rattle.prove_rules.specs.Loads.{loads_in}
use Rattle.prove_rules.specs.Partials.{ArePartRead}
use Rattle.prove_rules.specs.Refused.{Faulty}
use Rattle.prove_rules.proofs.ReadLemmas.{no_word, other_word, word_is, RuleFault, WordFault}
use Rattle.prove_rules.proofs.RefusalLemmas.{deck_faulty}
use Rattle.prove_rules.proofs.reading.add_rule.Goals as goal

pub returns-in_default-clause-refused : goal.returns-in_default-clause-refused
returns-in_default-clause-refused c =
    let loads = loads_in c.args.source.now.text.now c.args.source.now.deck.now in
    λ a are. deck_faulty (rule_of loads a c.args.line (fields c.args.text.now)) c.bad_line.result BadLine c.bad_line.ensures (no_word loads a c.args.line (fields c.args.text.now) c.in_default.ensures.parts)

pub returns-in_default-kind_named-clause-refused : goal.returns-in_default-kind_named-clause-refused
returns-in_default-kind_named-clause-refused c =
    let loads = loads_in c.args.source.now.text.now c.args.source.now.deck.now in
    λ a are. deck_faulty (rule_of loads a c.args.line (fields c.args.text.now)) c.bad_line-in_default-kind_named.result BadLine c.bad_line-in_default-kind_named.ensures
    (other_word loads a c.args.line (fields c.args.text.now) (fields c.in-Some.after.now) c.in-Some.word.now c.in-Some.ensures.parts c.in_default-kind_named.ensures)

pub returns-clause-added : goal.returns-clause-added
returns-clause-added c =
    let loads = loads_in c.args.source.now.text.now c.args.source.now.deck.now in
    on_ok_weaker c.add_kind.result (λ h a are.
    subst (λ (r : Result AppRules RuleCause). ArePartRead r c.add_kind.new.rules)
    (word_is loads a c.args.line (fields c.args.text.now) (fields c.in-Some.after.now) c.in-Some.word.now (kind_value c.in-Some-kind_named.kind) c.in-Some.ensures.parts c.in-Some-kind_named.ensures) (h a are)) c.add_kind.ensures.added

pub returns-clause-refused : goal.returns-clause-refused
returns-clause-refused c =
    let loads = loads_in c.args.source.now.text.now c.args.source.now.deck.now in
    IfErr-weaker c.add_kind.result (RuleFault loads c.args.rules.now c.args.line (kind_value c.in-Some-kind_named.kind) (fields c.in-Some.after.now)) (WordFault loads c.args.rules.now c.args.line (fields c.args.text.now))
    (λ e h a are.
    subst (λ (r : Result AppRules RuleCause). Faulty r e)
    (word_is loads a c.args.line (fields c.args.text.now) (fields c.in-Some.after.now) c.in-Some.word.now (kind_value c.in-Some-kind_named.kind) c.in-Some.ensures.parts c.in-Some-kind_named.ensures) (h a are)) c.add_kind.ensures.refused
