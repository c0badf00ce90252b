use Rattle.std.proofs.Common.{ℕ, List, drop}
use Rattle.prove_facts.specs.model_rules.specs.Rules.{Total}
use Rattle.lab_app_rules.specs.Sums.{AreTotals}
use Rattle.prove_sums.proofs.WalkLemmas.{Evens}
use Rattle.prove_sums.proofs.values.evens.Given as goal

-- those of the totals so far are there
abbrev pub invariant-loop-balance : goal.invariant-loop-balance
invariant-loop-balance l =
    (names : List (List ℕ)) (ts : List Total) → AreTotals names ts l.balances → Evens names ts (drop l._balance-index l.balances) l.offs.items
