use Rattle.std.proofs.Common.{◌≡◌, ℕ, ◌+◌, List, drop, true}
use Rattle.std.specs.Prelude.{nat_le}
use Rattle.prove_facts.specs.model_rules.specs.Rules.{Total}
use Rattle.prove_sums.specs.model_sums.specs.Closed.{all_pass}
use Rattle.lab_app_rules.specs.Sums.{AreTotals}
use Rattle.prove_sum_steps.proofs.totals.are_within.Given as goal

-- if the blocks that are left lie in static bytes, all do
abbrev pub invariant-loop-balance : goal.invariant-loop-balance
invariant-loop-balance l =
    (names : List (List ℕ)) (ts : List Total) → AreTotals names ts l.balances → all_pass (λ t. nat_le (t.at + t.n) l.fixed) (drop l.balance-index ts) ≡ true
    → all_pass (λ t. nat_le (t.at + t.n) l.fixed) ts ≡ true
