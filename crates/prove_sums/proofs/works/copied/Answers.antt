use Rattle.std.proofs.Common.{ℕ, List, sym, subst}
use Rattle.prove_facts.specs.model_prove.specs.Keys.{PlaceKey}
use Rattle.prove_facts.specs.model_rules.specs.Rules.{Total}
use Rattle.prove_forms.specs.model_sums.specs.Moves as moves
use Rattle.prove_forms.specs.model_sums.specs.Origins as model
use Rattle.prove_forms.specs.model_sums.specs.Sums as sums
use Rattle.prove_forms.specs.model_sums.specs.Writes as writes
use Rattle.std.specs.Prelude.{None}
use Rattle.lab_app_rules.specs.Sums.{AreTotals}
use Rattle.prove_scenes.specs.declared.shapes.Act.{Act}
use Rattle.prove_scenes.specs.ShapeValues.{act_value, shape_value}
use Rattle.prove_sums.specs.declared.values.Sums.{Sums}
use Rattle.prove_sums.specs.Values.{IsBefore, SumsAre}
use Rattle.prove_sums.proofs.ValueLemmas.{some_weaker}
use Rattle.prove_sums.proofs.works.copied.Goals as goal

pub returns-then-not-is_moved : goal.returns-then-not-is_moved
returns-then-not-is_moved c =
    let h = c.args.shape.now in
    some_weaker c.in_ok-after.after
    (λ (x : Sums). (names : List (List ℕ)) (ts : List Total) (k : PlaceKey) (u : sums.Sums) → AreTotals names ts c.args.balances.now → IsBefore k c.args.before.now
    → SumsAre c.args.known.now u
    → SumsAre x (moves.acted ts (record k { dt = h.dt }) (act_value h.act) (model.unknowns (moves.size_of (act_value h.act))) None (writes.popped h.dt u)))
    (λ (x : Sums). (names : List (List ℕ)) (ts : List Total) (k : PlaceKey) (u : sums.Sums) → AreTotals names ts c.args.balances.now → IsBefore k c.args.before.now
    → SumsAre c.args.known.now u → SumsAre x (moves.copied ts k (shape_value h) (act_value h.act) c.args.from u))
    (λ x i names ts k u are is s.
    subst (λ (v : sums.Sums). SumsAre x v) (c.is_moved.ensures c.if-not-is_moved.true ts k (shape_value h) c.args.from u) (i names ts k u are is s)) c.in_ok-after.ensures

pub returns-in_ok-copied_over-in-Writes : goal.returns-in_ok-copied_over-in-Writes
returns-in_ok-copied_over-in-Writes c names ts k u are is s =
    subst (λ (a : Act). SumsAre c.in_ok-copied_over-in-Writes.field-0 (moves.copied ts k (shape_value c.args.shape.now) (act_value a) c.args.from u)) (sym c.in-Writes.is)
    (subst (λ (n : ℕ). SumsAre c.in_ok-copied_over-in-Writes.field-0
    (writes.wrote ts c.in-Writes.at (model.origins_from u.origins c.args.from n) (writes.more_of u.mores c.args.from c.in-Writes.at n) (writes.popped c.args.shape.now.dt u)))
    c.len-n-in-Writes.ensures.value (c.in_ok-copied_over-in-Writes.ensures names ts u are s))
