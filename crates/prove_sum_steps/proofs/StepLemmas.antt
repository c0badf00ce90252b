-- What an instruction leaves in a scene.
use Rattle.std.specs.Prelude.{◌≡◌, ℕ, List}
use Rattle.std.proofs.Common.{sym, subst}
use Rattle.mc_isa.specs.model_machine.specs.Shapes.{Shape}
use Rattle.mc_isa.specs.model_machine.specs.declared.instruction.Ins.{Ins}
use Rattle.mc_isa.specs.model_machine.specs.Frame.{Frame}
use Rattle.prove_facts.specs.model_rules.specs.Rules.{Total}
use Rattle.prove_facts.specs.model_prove.specs.Keys.{PlaceKey}
use Rattle.prove_facts.specs.model_prove.specs.Reach.{Coarse}
use Rattle.prove_facts.specs.model_prove.specs.Steps.{coarse_for}
use Rattle.prove_facts.specs.model_prove.specs.Work.{Work}
use Rattle.prove_sums.specs.model_sums.specs.Sums.{Sums}
use Rattle.prove_sums.specs.model_sums.specs.Moves.{moved, moved_coarsely}
use Rattle.lab_app_rules.specs.declared.rules.Balance.{Balance}
use Rattle.lab_app_rules.specs.Sums.{AreTotals}
use Rattle.prove_scenes.specs.Coarse.{coarse_outlined}
use Rattle.prove_scenes.specs.Outlines.{outlined}
use Rattle.prove_sums.specs.declared.values.Sums as code
use Rattle.prove_sums.specs.Outlines.{CoarseMoveLaw, MoveLaw}
use Rattle.prove_sums.specs.Values.{SumsAre}

-- totals in a list that is another
pub totals_at : (names : List (List ℕ)) (ts : List Total) (bs cs : List Balance) → cs ≡ bs → AreTotals names ts bs → AreTotals names ts cs
totals_at names ts bs cs e h = subst (AreTotals names ts) (sym e) h

-- what is known after a row, from what of its shape matters
pub moved_is : (law : MoveLaw) (ts : List Total) (k : PlaceKey) (i : Ins) (g h : Shape) (v w : Work) (u : Sums) (after : code.Sums) → g ≡ outlined w h → v ≡ w
    → SumsAre after (moved ts k i g v u) → SumsAre after (moved ts k i h w u)
moved_is law ts k i g h v w u after e f so =
    subst (λ (x : Sums). SumsAre after x) (law ts k i h w u)
    (subst (λ (g : Shape). SumsAre after (moved ts k i g w u)) e (subst (λ (v : Work). SumsAre after (moved ts k i g v u)) f so))

-- what is known after a row of too many combinations
pub coarsely_is : (law : CoarseMoveLaw) (ts : List Total) (f : Frame) (g h : Shape) (c d : Coarse) (u : Sums) (after : code.Sums) → g ≡ coarse_outlined c h
    → d ≡ coarse_for g.act c
    → SumsAre after (moved_coarsely ts (record f { dt = g.dt }) d u)
    → SumsAre after (moved_coarsely ts (record f { dt = h.dt }) (coarse_for h.act c) u)
coarsely_is law ts f g h c d u after e same so =
    subst (λ (x : Sums). SumsAre after x) (law ts f h c u)
    (subst (λ (g : Shape). SumsAre after (moved_coarsely ts (record f { dt = g.dt }) (coarse_for g.act c) u)) e
    (subst (λ (d : Coarse). SumsAre after (moved_coarsely ts (record f { dt = g.dt }) d u)) same so))
