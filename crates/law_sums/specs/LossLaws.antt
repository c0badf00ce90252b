-- Laws of what is lost: what waits where it is dropped, and public bytes by a delegation.
use Rattle.std.specs.Prelude.{◌≡◌, ℕ, ◌+◌, ◌<◌, ◌≤◌, true, List}
use Rattle.std.specs.List.{AllByRecursion}
use Rattle.model_sums.specs.model_machine.specs.Frame.{dynamic_base, public_base}
use Rattle.model_sums.specs.model_rules.specs.Rules.{Total}
use Rattle.model_sums.specs.model_rules.specs.Keeping.{Sum}
use Rattle.model_sums.specs.model_prove.specs.Facts.{Memory}
use Rattle.model_sums.specs.Sums.{Sums}
use Rattle.model_sums.specs.Says.{Holds, TotalsHold}
use Rattle.model_sums.specs.Writes.{dropped, delegated}

-- What is known after what waits was dropped holds, if each total holds of what is read then; only static bytes change.
abbrev pub DropLaw : Type 0
DropLaw =
    (ts : List Total) (u : Sums) (first : List ℕ) (m k : Memory) (sums kept : List Sum) → ((b : ℕ) → dynamic_base ≤ b → m b ≡ k b) → TotalsHold k kept ts
    → Holds ts u first m sums → Holds ts (dropped true ts u) first k kept

-- What is known after public bytes became any holds, if the blocks of totals are not among them.
abbrev pub DelegationLaw : Type 0
DelegationLaw =
    (ts : List Total) (u : Sums) (first : List ℕ) (m k : Memory) (sums : List Sum) → ((b : ℕ) → b < public_base → m b ≡ k b)
    → AllByRecursion (λ t. t.at + t.n ≤ public_base) ts → Holds ts u first m sums → Holds ts (delegated u) first k sums
