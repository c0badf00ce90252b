use Rattle.std.proofs.Common.{ℕ, List, drop}
use Rattle.prove_facts.specs.model_rules.specs.Rules.{Total}
use Rattle.prove_forms.specs.Forms.{OptionalsAre}
use Rattle.lab_app_rules.specs.Sums.{AreTotals}
use Rattle.prove_sums.proofs.FollowLemmas.{Paired}
use Rattle.prove_sums.proofs.WalkLemmas.{Offs}
use Rattle.prove_sums.proofs.follows.offs_follow.Given as goal

-- if by how much those are off that are left follows, it does for all
abbrev pub invariant-loop-balance : goal.invariant-loop-balance
invariant-loop-balance l =
    (names : List (List ℕ)) (ts : List Total) (fs gs : Offs) → AreTotals names ts l.balances → OptionalsAre l.offs fs → OptionalsAre l.others gs
    → Paired names ts fs gs (drop l.balance-index l.balances) l.rest l.left
