-- The property of accepted code in every run, by the verdict on it.
use Rattle.std.proofs.Common.{ℕ, ◌<◌, ◌≤◌, List, length}
use Rattle.std.specs.List.{AllByRecursion}
use Rattle.mc_check.specs.declared.verdict.Verdict.{Verdict}
use Rattle.mc_check.specs.declared.verdict.Verdict.TheVariants.{Accept, Refuse}
use Rattle.mc_check.specs.Table.{AreBases, base_in}
use Rattle.mc_check.specs.Verdicts.{IsVerdictOf, KeepsTo}
use Rattle.mc_check.proofs.AllRows.{row_facts}
use Rattle.mc_check.proofs.CalmRuns.{checked}
use Rattle.law_family.specs.model_device.specs.Limits.{most_code}

pub keeps : (code : List ℕ) → AllByRecursion (λ b. b < 256) code → length code ≤ most_code → (session : ℕ) (bases : List ℕ) → AreBases code bases → (v : Verdict) → IsVerdictOf code session v → KeepsTo code session v
keeps code bytes short session bases are (Accept deepest) h = checked row_facts code bytes short session deepest h (λ f r. (base_in bases f.routine, are.each f r))
keeps code bytes short session bases are (Refuse place cause) h = tt
