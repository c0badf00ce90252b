use Rattle.std.proofs.Common.{List, drop}
use Rattle.std.specs.Prelude.{map}
use Rattle.prove_facts.specs.model_rules.specs.Rules.{SumLine, Total}
use Rattle.prove_forms.specs.model_sums.specs.Events.{off_after_line}
use Rattle.lab_app_rules.specs.Rules.{name_of}
use Rattle.prove_forms.specs.Forms.{OptionalsAre}
use Rattle.lab_app_rules.specs.Sums.{AreTotals}
use Rattle.prove_sums.specs.Lines.{IsMove}
use Rattle.prove_sums.proofs.WalkLemmas.{Off, Offs, Walk}
use Rattle.prove_sums.proofs.events.offs_after_line.Given as goal

-- by how much the totals so far are off is there
abbrev pub invariant-loop-balance : goal.invariant-loop-balance
invariant-loop-balance l =
    (ts : List Total) (k : SumLine) (fs : Offs) (g : Off) → AreTotals (map name_of l.named) ts l.balances → IsMove (map name_of l.named) k g l.moved → OptionalsAre l.offs fs
    → Walk (λ t o. off_after_line t.n k g t.terms o) (map name_of l.named) ts fs (drop l.balance-index l.balances) l.rest l.after.items
