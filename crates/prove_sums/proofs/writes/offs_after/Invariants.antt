use Rattle.std.proofs.Common.{ℕ, List, drop}
use Rattle.prove_facts.specs.model_rules.specs.Rules.{Total}
use Rattle.prove_forms.specs.model_sums.specs.Writes.{off_after}
use Rattle.prove_forms.specs.Forms.{OptionalIs, OptionalsAre}
use Rattle.lab_app_rules.specs.Sums.{AreTotals}
use Rattle.prove_sums.proofs.WalkLemmas.{Off, Offs, Walk}
use Rattle.prove_sums.proofs.writes.offs_after.Given as goal

-- by how much the totals so far are off is there
abbrev pub invariant-loop-balance : goal.invariant-loop-balance
invariant-loop-balance l =
    (names : List (List ℕ)) (ts : List Total) (fs : Offs) (g : Off) → AreTotals names ts l.balances → OptionalsAre l.offs fs → OptionalIs l.by g
    → Walk (off_after l.at l.n g) names ts fs (drop l.balance-index l.balances) l.rest l.after.items
