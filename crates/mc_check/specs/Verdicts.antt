-- The meaning of a verdict of the checker, for code and for every run of it.
use Rattle.std.specs.Prelude.{ℕ, List, ⊤}
use Rattle.model_stack.specs.StackShape.{Accepts, Refuses}
use Rattle.mc_check.specs.declared.verdict.Verdict.{Verdict}
use Rattle.mc_check.specs.declared.verdict.Verdict.TheVariants.{Accept, Refuse}
use Rattle.mc_check.specs.Checked.{IsChecked}

-- a verdict is right for code with the given number of session bytes
abbrev pub IsVerdictOf : List ℕ → ℕ → Verdict → Type 0
IsVerdictOf code session (Accept deepest) = Accepts code session deepest
IsVerdictOf code session (Refuse place cause) = Refuses code session place cause

-- if a verdict accepts code, each turn of it in every run is calm
abbrev pub KeepsTo : List ℕ → ℕ → Verdict → Type 0
KeepsTo code session (Accept deepest) = IsChecked code session deepest
KeepsTo code session (Refuse place cause) = ⊤
