use Rattle.std.proofs.Common.{◌≡◌, ℕ, List, drop, true}
use Rattle.mc_isa.specs.model_machine.specs.Primitives.{Then}
use Rattle.prove_facts.specs.model_prove.specs.Arrivals.{Setting}
use Rattle.prove_facts.specs.model_prove.specs.Keys.{Known}
use Rattle.prove_facts.specs.model_prove.specs.Splits.{Scene}
use Rattle.prove_sums.specs.model_sums.specs.Closed.{all_pass, arrival_closed}
use Rattle.prove_sums.specs.model_sums.specs.Sums.{Sums, SumsTable}
use Rattle.prove_scenes.specs.Outlines.{outlined_next}
use Rattle.prove_scenes.specs.ShapeValues.{next_value}
use Rattle.prove_sums.specs.Values.{SumsAre}
use Rattle.prove_sum_steps.specs.Walks.{IsTurn, goal_arrival, turn_in}
use Rattle.prove_sum_steps.proofs.rows.goals_hold.Given as goal

-- if it is at the goals that are left, it is at all
abbrev pub invariant-loop-goal : goal.invariant-loop-goal
invariant-loop-goal l =
    (f : Known) (names : List (List ℕ)) (s : Setting) (u : SumsTable) (e : Scene) (n : Then) (v : Sums)
    → IsTurn names s u l.turn → outlined_next n ≡ next_value l.next → SumsAre l.after v
    → all_pass (λ g. arrival_closed s u (turn_in names l.turn e) n v (goal_arrival names l.turn f g)) (drop l.goal-index l.turn.goals.now) ≡ true
    → all_pass (λ g. arrival_closed s u (turn_in names l.turn e) n v (goal_arrival names l.turn f g)) l.turn.goals.now ≡ true
