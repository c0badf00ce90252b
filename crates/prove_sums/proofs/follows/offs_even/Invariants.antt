use Rattle.std.proofs.Common.{ℕ, List, drop}
use Rattle.prove_facts.specs.model_rules.specs.Rules.{Total}
use Rattle.prove_forms.specs.Forms.{OptionalsAre}
use Rattle.lab_app_rules.specs.Sums.{AreTotals}
use Rattle.prove_sums.proofs.FollowLemmas.{Even}
use Rattle.prove_sums.proofs.WalkLemmas.{Offs}
use Rattle.prove_sums.proofs.follows.offs_even.Given as goal

-- if the totals that are left are even, all are
abbrev pub invariant-loop-balance : goal.invariant-loop-balance
invariant-loop-balance l =
    (names : List (List ℕ)) (ts : List Total) (fs : Offs) → AreTotals names ts l.balances → OptionalsAre l.offs fs
    → Even names ts fs (drop l.balance-index l.balances) l.rest
