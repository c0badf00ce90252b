use Rattle.std.proofs.Common.{◌≡◌, List, drop, map, true}
use Rattle.prove_facts.specs.model_rules.specs.Keeping.{are_totals, first_sums}
use Rattle.prove_facts.specs.model_rules.specs.Rules.{Total}
use Rattle.lab_app_rules.specs.Rules.{AreDistinct, allowance_of, name_of}
use Rattle.lab_app_rules.specs.Sums.{AreTotals}
use Rattle.prove_sum_steps.proofs.totals.are_totals.Given as goal

-- if the totals that are left hold, all do
abbrev pub invariant-loop-balance : goal.invariant-loop-balance
invariant-loop-balance l =
    AreDistinct (map name_of l.sums) → (ts : List Total) → AreTotals (map name_of l.sums) ts l.balances
    → are_totals l.bytes (first_sums (map allowance_of l.sums)) (drop l.balance-index ts) ≡ true
    → are_totals l.bytes (first_sums (map allowance_of l.sums)) ts ≡ true
