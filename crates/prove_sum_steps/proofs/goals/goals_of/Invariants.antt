use Rattle.std.proofs.Common.{◌≡◌, ◌++◌, ℕ, List, drop, map}
use Rattle.std.specs.List.{AllByRecursion}
use Rattle.prove_facts.specs.model_prove.specs.Arrivals.{Setting}
use Rattle.prove_arrivals.specs.Subjects.{IsSubject}
use Rattle.prove_sum_steps.specs.Tables.{IsGoal, sums_in}
use Rattle.prove_sum_steps.proofs.goals.goals_of.Given as goal

-- the goals are those of the places so far
abbrev pub invariant-loop-key : goal.invariant-loop-key
invariant-loop-key l =
    record {
      keys : map (λ g. g.key.now) l.goals.items ++ drop l.key-index l.keys ≡ l.keys;
      known : (names : List (List ℕ)) (s : Setting) → IsSubject names s l.subject → AllByRecursion (IsGoal names l.subject (sums_in names l.subject l.sums)) l.goals.items;
    }
