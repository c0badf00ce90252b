-- The verdicts of the stack checker on the code of a deck's load lines.
use Rattle.std.specs.Prelude.{◌≡◌, ℕ, Bool, true, false, List, [], ◌∷◌, ◌++◌, Ok, Err}
use Rattle.mc_deck.specs.model_play.specs.DeckGrammar.{DeckLine}
use Rattle.mc_deck.specs.model_play.specs.DeckGrammar as line
use Rattle.mc_check.specs.declared.verdict.Verdict.{Verdict}
use Rattle.mc_check.specs.declared.verdict.Verdict.TheVariants.{Accept, Refuse}
use Rattle.mc_check.specs.Verdicts.{IsVerdictOf, KeepsTo}
use Rattle.desk_draft.specs.Listings.{Desk}
use Rattle.desk_draft.specs.Verdicts.{CodeVerdict, verdict_lines}

-- a verdict of the checker
abbrev pub verdict_value : Verdict → CodeVerdict
verdict_value (Accept deepest) = Ok deepest
verdict_value (Refuse place cause) = Err (place, cause)

-- the first load line: its verdict is right for its code, which keeps to it in every run; and the verdicts on the rest
pub record IsJudged (number : ℕ) (code : List ℕ) (session : ℕ) (Rest : List (ℕ × CodeVerdict) → Type 0) (vs : List (ℕ × CodeVerdict)) : Type 0 where
  pub verdict : Verdict
  pub holds : IsVerdictOf code session verdict
  pub keeps : KeepsTo code session verdict
  pub others : List (ℕ × CodeVerdict)
  pub rest : Rest others
  pub parts : vs ≡ (number, verdict_value verdict) ∷ others

-- a verdict for each load line, in order, each with its line's number
unfoldable pub AreVerdicts : List (ℕ × DeckLine) → List (ℕ × CodeVerdict) → Type 0
AreVerdicts [] vs = vs ≡ []
AreVerdicts ((n, line.Sent (line.Load u fixed session)) ∷ ls) vs = IsJudged n u.code session (AreVerdicts ls) vs
AreVerdicts ((n, _) ∷ ls) vs = AreVerdicts ls vs

-- whether all verdicts accept up to this one, if those before it did or not
abbrev pub accepts : Bool → CodeVerdict → Bool
accepts passes (Ok deepest) = passes
accepts passes (Err e) = false

-- whether all verdicts accept up to the last of these, if those before them did or not
abbrev pub all_accept : Bool → List (ℕ × CodeVerdict) → Bool
all_accept passes [] = passes
all_accept passes (v ∷ vs) = all_accept (accepts passes v.1) vs

-- a text has a line for each of these load lines of a draft's deck: a verdict, with the source line of a refused place;
-- and all their code is accepted or not
pub record ShowsVerdicts (d : Desk) (ls : List (ℕ × DeckLine)) (passes : Bool) (shown : List ℕ) : Type 0 where
  pub verdicts : List (ℕ × CodeVerdict)
  pub are : AreVerdicts ls verdicts
  pub text : shown ≡ verdict_lines d verdicts
  pub accepted : passes ≡ all_accept true verdicts

-- a text grew by the lines of verdicts on a line of the deck, which are one for a load line and none for any other; and
-- whether all code was accepted, before the line and after it
pub record AddsVerdicts (d : Desk) (l : ℕ × DeckLine) (before after : Bool) (old new : List ℕ) : Type 0 where
  pub verdicts : List (ℕ × CodeVerdict)
  pub are : AreVerdicts (l ∷ []) verdicts
  pub grew : new ≡ old ++ verdict_lines d verdicts
  pub passes : after ≡ all_accept before verdicts
