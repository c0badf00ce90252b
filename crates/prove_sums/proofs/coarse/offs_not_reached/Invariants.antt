use Rattle.std.proofs.Common.{ℕ, List, drop, cond, None}
use Rattle.prove_facts.specs.model_rules.specs.Rules.{Total}
use Rattle.prove_facts.specs.model_prove.specs.Reach.{some_reached}
use Rattle.prove_forms.specs.Forms.{OptionalsAre}
use Rattle.lab_app_rules.specs.Sums.{AreTotals}
use Rattle.prove_scenes.specs.Scenes.{frame_to}
use Rattle.prove_works.specs.Reaches.{reach_value}
use Rattle.prove_sums.proofs.WalkLemmas.{Offs, Walk}
use Rattle.prove_sums.proofs.coarse.offs_not_reached.Given as goal

-- by how much the totals so far are off is there
abbrev pub invariant-loop-balance : goal.invariant-loop-balance
invariant-loop-balance l =
    (names : List (List ℕ)) (ts : List Total) (fs : Offs) → AreTotals names ts l.balances → OptionalsAre l.offs fs
    → Walk (λ t o. cond (some_reached (frame_to l.scene l.dt) (reach_value l.reach) t.at t.n) None o) names ts fs (drop l.balance-index l.balances) l.rest l.left.items
