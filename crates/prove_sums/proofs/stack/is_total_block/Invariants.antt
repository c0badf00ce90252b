use Rattle.std.proofs.Common.{ℕ, List, drop}
use Rattle.prove_facts.specs.model_rules.specs.Rules.{Total}
use Rattle.lab_app_rules.specs.Sums.{AreTotals}
use Rattle.prove_sums.proofs.WalkLemmas.{Blocks}
use Rattle.prove_sums.proofs.stack.is_total_block.Given as goal

-- the totals that are left decide
abbrev pub invariant-loop-balance : goal.invariant-loop-balance
invariant-loop-balance l =
    (names : List (List ℕ)) (ts : List Total) → AreTotals names ts l.balances → Blocks l.at l.n names ts (drop l.balance-index l.balances)
