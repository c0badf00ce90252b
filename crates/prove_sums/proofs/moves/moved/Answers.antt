use Rattle.std.proofs.Common.{ℕ, List, None, sym, subst}
use Rattle.prove_facts.specs.model_prove.specs.Keys.{PlaceKey}
use Rattle.prove_facts.specs.model_rules.specs.Rules.{Total}
use Rattle.prove_forms.specs.model_sums.specs.Moves as moves
use Rattle.prove_forms.specs.model_sums.specs.Origins as model
use Rattle.prove_forms.specs.model_sums.specs.Sums as sums
use Rattle.prove_forms.specs.model_sums.specs.Writes as writes
use Rattle.lab_app_rules.specs.Sums.{AreTotals}
use Rattle.prove_scenes.specs.declared.working.Work.{Work}
use Rattle.prove_scenes.specs.ShapeValues.{act_value, shape_value}
use Rattle.prove_scenes.specs.Works.{work_value}
use Rattle.prove_sums.specs.declared.values.Sums.{Sums}
use Rattle.prove_sums.specs.Values.{IsBefore, SumsAre}
use Rattle.prove_sums.proofs.ValueLemmas.{some_weaker}
use Rattle.prove_sums.proofs.moves.moved.Goals as goal

pub returns-in_ok-searched-in-Searches : goal.returns-in_ok-searched-in-Searches
returns-in_ok-searched-in-Searches c names ts k u are is s =
    subst (λ (w : Work). SumsAre c.in_ok-searched-in-Searches.field-0 (moves.moved ts k c.args.ins.now (shape_value c.args.shape.now) (work_value w) u))
    (sym c.in-Searches.is) (c.in_ok-searched-in-Searches.ensures names ts u are s)

pub returns-in_ok-acted_unknown-in-Counted : goal.returns-in_ok-acted_unknown-in-Counted
returns-in_ok-acted_unknown-in-Counted c =
    let h = c.args.shape.now in
    some_weaker c.in_ok-acted_unknown-in-Counted.field-0
    (λ (x : Sums). (names : List (List ℕ)) (ts : List Total) (k : PlaceKey) (u : sums.Sums) → AreTotals names ts c.args.balances.now → IsBefore k c.args.before.now
    → SumsAre c.args.known.now u
    → SumsAre x (moves.acted ts (record k { dt = h.dt }) (act_value h.act) (model.unknowns (moves.size_of (act_value h.act))) None (writes.popped h.dt u)))
    (λ (x : Sums). (names : List (List ℕ)) (ts : List Total) (k : PlaceKey) (u : sums.Sums) → AreTotals names ts c.args.balances.now → IsBefore k c.args.before.now
    → SumsAre c.args.known.now u → SumsAre x (moves.moved ts k c.args.ins.now (shape_value h) (work_value c.args.work.now) u))
    (λ x i names ts k u are is s.
    subst (λ (w : Work). SumsAre x (moves.moved ts k c.args.ins.now (shape_value h) (work_value w) u)) (sym c.in-Counted.is) (i names ts k u are is s))
    c.in_ok-acted_unknown-in-Counted.ensures

pub returns-in_ok-acted_unknown-in-NoFact : goal.returns-in_ok-acted_unknown-in-NoFact
returns-in_ok-acted_unknown-in-NoFact c =
    let h = c.args.shape.now in
    some_weaker c.in_ok-acted_unknown-in-NoFact.field-0
    (λ (x : Sums). (names : List (List ℕ)) (ts : List Total) (k : PlaceKey) (u : sums.Sums) → AreTotals names ts c.args.balances.now → IsBefore k c.args.before.now
    → SumsAre c.args.known.now u
    → SumsAre x (moves.acted ts (record k { dt = h.dt }) (act_value h.act) (model.unknowns (moves.size_of (act_value h.act))) None (writes.popped h.dt u)))
    (λ (x : Sums). (names : List (List ℕ)) (ts : List Total) (k : PlaceKey) (u : sums.Sums) → AreTotals names ts c.args.balances.now → IsBefore k c.args.before.now
    → SumsAre c.args.known.now u → SumsAre x (moves.moved ts k c.args.ins.now (shape_value h) (work_value c.args.work.now) u))
    (λ x i names ts k u are is s.
    subst (λ (w : Work). SumsAre x (moves.moved ts k c.args.ins.now (shape_value h) (work_value w) u)) (sym c.in-NoFact.is) (i names ts k u are is s))
    c.in_ok-acted_unknown-in-NoFact.ensures
