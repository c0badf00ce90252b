use Rattle.std.proofs.Common.{ℕ, List, ap, sym, subst}
use Rattle.std.specs.Prelude.{IfErr, OnOk}
use Rattle.std.proofs.lemmas.Result.{on_ok_weaker, IfErr-weaker}
use Rattle.mc_text.specs.model_text.specs.Text.{fields, trim}
use Rattle.law_explore.specs.Rules as model
use Rattle.law_explore.specs.Rules.{with_rule, MoveWord, RuleWord}
use Rattle.mc_deck.specs.Refused.{Faulty}
use Rattle.lab_rules.specs.Meanings.{kind_value, AreRules, AreRulesRead}
use Rattle.lab_match.proofs.FieldLemmas.{fields_trimmed}
use Rattle.lab_rules.proofs.reading.add_kind.Goals as goal

pub returns-in-Move-clause-added : goal.returns-in-Move-clause-added
returns-in-Move-clause-added c =
    let named = ap kind_value (sym c.in-Move.is) in
    let n = c.args.number in
    let of : List ℕ → RuleWord → List (List ℕ) → Type 0 = λ s w fs. (r : model.Rules) → AreRules c.args.rules.now r → AreRulesRead c.add_move.new.rules (with_rule r n s w fs) in
    let first = on_ok_weaker c.add_move.result (λ h r are. h r n are) c.add_move.ensures.added in
    subst (λ (w : RuleWord). OnOk c.add_move.result (of (trim c.args.text.now) w (fields c.args.text.now))) named
    (subst (λ (fs : List (List ℕ)). OnOk c.add_move.result (of (trim c.args.text.now) MoveWord fs)) (fields_trimmed c.args.text.now)
    (subst (λ (s : List ℕ). OnOk c.add_move.result (of s MoveWord (fields s))) c.trim.ensures first))

pub returns-in-Move-clause-refused : goal.returns-in-Move-clause-refused
returns-in-Move-clause-refused c =
    let named = ap kind_value (sym c.in-Move.is) in
    let n = c.args.number in
    let of : List ℕ → RuleWord → List (List ℕ) → _ → Type 0 = λ s w fs e. (r : model.Rules) → AreRules c.args.rules.now r → Faulty (with_rule r n s w fs) e in
    let first = IfErr-weaker c.add_move.result _ (of c.trim.result.now MoveWord (fields c.trim.result.now)) (λ e h r are. h r n are) c.add_move.ensures.refused in
    subst (λ (w : RuleWord). IfErr c.add_move.result (of (trim c.args.text.now) w (fields c.args.text.now))) named
    (subst (λ (fs : List (List ℕ)). IfErr c.add_move.result (of (trim c.args.text.now) MoveWord fs)) (fields_trimmed c.args.text.now)
    (subst (λ (s : List ℕ). IfErr c.add_move.result (of s MoveWord (fields s))) c.trim.ensures first))
