use Rattle.std.proofs.Common.{◌≡◌, ◌∙◌, ◌+◌, ◌-◌, ℕ, List, None, length, refl, ap, sym, subst}
use Rattle.std.proofs.lemmas.List.{length-map}
use Rattle.prove_sums.proofs.ValueLemmas.{some_weaker}
use Rattle.prove_facts.specs.model_prove.specs.Keys.{PlaceKey}
use Rattle.prove_facts.specs.model_rules.specs.Rules.{Total}
use Rattle.prove_forms.specs.model_sums.specs.Moves as moves
use Rattle.prove_forms.specs.model_sums.specs.Origins as model
use Rattle.prove_forms.specs.model_sums.specs.Sums as sums
use Rattle.prove_forms.specs.model_sums.specs.Writes as writes
use Rattle.prove_forms.specs.Origins.{origin_value, origin_values}
use Rattle.lab_app_rules.specs.Sums.{AreTotals}
use Rattle.prove_scenes.specs.declared.shapes.Act.{Act}
use Rattle.prove_scenes.specs.ShapeValues.{act_value}
use Rattle.prove_sums.specs.declared.values.Sums.{Sums}
use Rattle.prove_sums.specs.Values.{IsBefore, SumsAre}
use Rattle.prove_sums.proofs.acts.acted.Goals as goal

pub returns-in_ok-answered-in-Answers : goal.returns-in_ok-answered-in-Answers
returns-in_ok-answered-in-Answers c names ts k gs u are is e s =
    subst (λ (a : Act). SumsAre c.in_ok-answered-in-Answers.field-0 (moves.acted ts (record k { dt = c.args.dt }) (act_value a) gs None u)) (sym c.in-Answers.is)
    (c.in_ok-answered-in-Answers.ensures names ts (record k { dt = c.args.dt }) u are s)

pub returns-in_ok-called-in-Calls : goal.returns-in_ok-called-in-Calls
returns-in_ok-called-in-Calls c names ts k gs u are is e s =
    subst (λ (a : Act). SumsAre c.in_ok-called-in-Calls.field-0 (moves.acted ts (record k { dt = c.args.dt }) (act_value a) gs None u)) (sym c.in-Calls.is)
    (c.in_ok-called-in-Calls.ensures names ts (record k { dt = c.args.dt }) c.in-Calls.to u are refl s)

pub returns-in_ok-returned-in-Returns : goal.returns-in_ok-returned-in-Returns
returns-in_ok-returned-in-Returns c =
    let to = c.saturating_sub-to.result in
    some_weaker c.in_ok-returned-in-Returns.field-0
    (λ (x : Sums). (names : List (List ℕ)) (ts : List Total) (gs : List model.Origin) (u : sums.Sums) → AreTotals names ts c.args.balances.now
    → origin_values c.args.bytes.now ≡ gs → SumsAre c.args.known u → SumsAre x (writes.popped (to + length gs) (writes.wrote ts to gs None u)))
    (λ (x : Sums). (names : List (List ℕ)) (ts : List Total) (k : PlaceKey) (gs : List model.Origin) (u : sums.Sums) → AreTotals names ts c.args.balances.now
    → IsBefore k c.args.before.now → origin_values c.args.bytes.now ≡ gs → SumsAre c.args.known u
    → SumsAre x (moves.acted ts (record k { dt = c.args.dt }) (act_value c.args.act.now) gs None u))
    (λ x h names ts k gs u are is e s.
    subst (λ (a : Act). SumsAre x (moves.acted ts (record k { dt = c.args.dt }) (act_value a) gs None u)) (sym c.in-Returns.is)
    (subst (λ (n : ℕ). SumsAre x (writes.popped (n + length gs) (writes.wrote ts n gs None u)))
    (c.saturating_sub-to.ensures ∙ ap (λ (n : ℕ). n - c.in-Returns.less) (c.saturating_sub.ensures ∙ ap (λ (n : ℕ). n - 4) (sym is.lb))) (h names ts gs u are e s)))
    c.in_ok-returned-in-Returns.ensures

pub returns-in_ok-written-in-Pushes : goal.returns-in_ok-written-in-Pushes
returns-in_ok-written-in-Pushes c names ts k gs u are is e s =
    subst (λ (a : Act). SumsAre c.in_ok-written-in-Pushes.field-0 (moves.acted ts (record k { dt = c.args.dt }) (act_value a) gs None u)) (sym c.in-Pushes.is)
    (c.in_ok-written-in-Pushes.ensures names ts gs None u are e tt s)

pub returns-in_ok-written-in-Replaces : goal.returns-in_ok-written-in-Replaces
returns-in_ok-written-in-Replaces c names ts k gs u are is e s =
    subst (λ (a : Act). SumsAre c.in_ok-written-in-Replaces.field-0 (moves.acted ts (record k { dt = c.args.dt }) (act_value a) gs None u)) (sym c.in-Replaces.is)
    (subst (λ (n : ℕ). SumsAre c.in_ok-written-in-Replaces.field-0 (writes.wrote ts n gs None u))
    (c.saturating_sub-at.ensures
    ∙ ap (λ (n : ℕ). c.args.dt - n) (sym (length-map c.args.bytes.now origin_value) ∙ ap (λ (x : List model.Origin). length x) e))
    (c.in_ok-written-in-Replaces.ensures names ts gs None u are e tt s))

pub returns-in_ok-written-in-Writes : goal.returns-in_ok-written-in-Writes
returns-in_ok-written-in-Writes c names ts k gs u are is e s =
    subst (λ (a : Act). SumsAre c.in_ok-written-in-Writes.field-0 (moves.acted ts (record k { dt = c.args.dt }) (act_value a) gs None u)) (sym c.in-Writes.is)
    (c.in_ok-written-in-Writes.ensures names ts gs None u are e tt s)
