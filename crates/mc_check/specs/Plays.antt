-- The property of accepted code in every play.
use Rattle.std.specs.Prelude.{◌≡◌, ℕ, List, Option}
use Rattle.std.specs.List.{AllByRecursion}
use Rattle.law_family.specs.model_play.specs.DeckGrammar.{DeckLine}
use Rattle.law_family.specs.model_play.specs.Play.{FailedWrite, Step, plays, start}
use Rattle.mc_check.specs.declared.verdict.Verdict.TheVariants.{Accept}
use Rattle.mc_check.specs.Checked.{RunsCode, IsCalm}
use Rattle.mc_check.specs.Turns.{bare, turns_with}
use Rattle.mc_check.specs.Verdicts.{KeepsTo}

-- The turns of a line, each with its chain: a turn in a frame of an application with the given code and number of
-- session bytes ends with none of 01, 02, 04 and 05, and DT is at most `deepest` bytes above its floor.
pub record ReportsCalmly (code : List ℕ) (session deepest : ℕ) (t : Step) : Type 0 where
  pub reported : bare (turns_with t) ≡ t.turns
  pub calm : AllByRecursion (λ p. RunsCode code session p.0 → IsCalm session deepest p.1) (turns_with t)

-- each of these lines is calm, for all code with a number of session bytes for which it has the property of an
-- accepting verdict
abbrev pub KeepToVerdicts : List Step → Type 0
KeepToVerdicts steps = (code : List ℕ) (session deepest : ℕ) → KeepsTo code session (Accept deepest) → AllByRecursion (ReportsCalmly code session deepest) steps

-- every play is calm: of every deck, image and list of failed writes, possible or not
abbrev pub CheckedPlaysLaw : Type 0
CheckedPlaysLaw = (ls : List (ℕ × DeckLine)) (m : List (List ℕ)) (ws : List (Option FailedWrite)) → KeepToVerdicts (plays (start m) ls ws)
