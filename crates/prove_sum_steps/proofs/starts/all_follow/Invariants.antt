use Rattle.std.proofs.Common.{◌≡◌, ℕ, List, drop, true}
use Rattle.std.specs.List.{AllByRecursion}
use Rattle.prove_facts.specs.model_rules.specs.Rules.{Total}
use Rattle.prove_sums.specs.model_sums.specs.Closed.{all_pass, has_sums}
use Rattle.prove_sums.specs.model_sums.specs.Sums.{SumsTable, first_known, sums_at}
use Rattle.prove_arrivals.specs.declared.subject.Subject.{Subject}
use Rattle.lab_app_rules.specs.Sums.{AreTotals}
use Rattle.prove_sums.specs.Values.{SumsAre}
use Rattle.prove_sum_steps.specs.Tables.{IsGoal, goal_key}
use Rattle.prove_sum_steps.proofs.starts.all_follow.Given as goal

-- if the places that are left say no more, all do
abbrev pub invariant-loop-goal : goal.invariant-loop-goal
invariant-loop-goal l =
    (names sums : List (List ℕ)) (ts : List Total) (u : SumsTable) (j : Subject) → AreTotals sums ts l.balances → SumsAre l.first (first_known ts)
    → AllByRecursion (IsGoal names j u) l.goals
    → all_pass (λ g. has_sums ts (first_known ts) (sums_at u (goal_key names j g))) (drop l.goal-index l.goals) ≡ true
    → all_pass (λ g. has_sums ts (first_known ts) (sums_at u (goal_key names j g))) l.goals ≡ true
