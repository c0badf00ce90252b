-- The verdict on the input of a job: the complete text due, the one line that refuses it, or a deck that is played.
use Rattle.std.specs.Prelude.{◌≡◌, ℕ, List, [], ◌∷◌, ◌++◌, codes, decimal, Result, Ok, Err}
use Rattle.mc_text.specs.model_text.specs.Assembly.{assembly_of}
use Rattle.mc_deck.specs.model_play.specs.DeckGrammar.{DeckLine, deck_read}
use Rattle.mc_deck.specs.model_play.specs.DeckGrammar as line
use Rattle.mc_text.specs.model_text.specs.Listing.{listing_of_code, hex_text}
use Rattle.mc_text.specs.model_text.specs.Text.{CodeFault, BadHex, TooLarge, code_text_read}
use Rattle.mc_text.specs.model_machine.specs.Words.{decode_word}
use Rattle.mc_text.specs.model_text.specs.AsmWords.{asm_word}
use Rattle.mc_text.specs.model_text.specs.CheckWords.{check_word}
use Rattle.mc_text.specs.model_text.specs.declared.assembler.AsmCause.{AsmCause}
use Rattle.mc_deck.specs.model_play.specs.declared.deck.DeckCause.{DeckCause}
use Rattle.mc_text.specs.model_machine.specs.declared.instruction.DecodeFault.{DecodeFault}
use Rattle.mc_check.specs.declared.verdict.Verdict.{Verdict as CodeVerdict}
use Rattle.mc_check.specs.declared.verdict.Verdict.TheVariants.{Accept, Refuse}
use Rattle.mc_check.specs.Verdicts.{IsVerdictOf, KeepsTo}
use Rattle.mc_filter.specs.Lines.{at_line, at_place, deck_line, too_long}
use Rattle.melcard.specs.declared.job.Job.{Job}
use Rattle.melcard.specs.declared.job.Job.TheVariants as job
use Rattle.melcard.specs.declared.job.Reporting.{Reporting}
use Rattle.melcard.specs.declared.job.Form.{Form}
use Rattle.melcard.specs.declared.job.Form.TheVariants as form

-- the verdict on an input: the complete text of a job, the line of a refusal, a deck whose play is written, or one
-- whose play is summarised
pub data JobVerdict : Type 0 where
  Whole : (text : List ℕ) → JobVerdict
  Refusal : (line : List ℕ) → JobVerdict
  Plays : (reporting : Reporting) (lines : List (ℕ × DeckLine)) → JobVerdict
  Sums : (lines : List (ℕ × DeckLine)) → JobVerdict

-- ---- texts

-- the verdict on an assembly text, by its code
abbrev pub of_assembly : Result (List ℕ) (ℕ × AsmCause) → JobVerdict
of_assembly (Ok code) = Whole (hex_text code ++ codes "\n")
of_assembly (Err (number, cause)) = Refusal (at_line number (asm_word cause))

-- the verdict on code that is listed
abbrev pub of_listing : Result (List ℕ) (ℕ × DecodeFault) → JobVerdict
of_listing (Ok text) = Whole text
of_listing (Err (place, fault)) = Refusal (at_place place (decode_word fault))

-- the verdict on code in hexadecimal that is listed: its digits are judged first, then its length
abbrev pub of_code : Result (List ℕ) CodeFault → JobVerdict
of_code (Ok code) = of_listing (listing_of_code code)
of_code (Err (BadHex number)) = Refusal (at_line number (codes "BadHex"))
of_code (Err TooLarge) = Refusal too_long

-- ---- decks

-- the verdict on a deck that is played
abbrev pub of_deck : Reporting → Result (List (ℕ × DeckLine)) (ℕ × DeckCause) → JobVerdict
of_deck t (Ok lines) = Plays t lines
of_deck t (Err e) = Refusal (deck_line e)

-- ---- checked code

-- the text of the stack checker's verdict on code
abbrev pub verdict_text : CodeVerdict → List ℕ
verdict_text (Accept deepest) = codes "accept " ++ decimal deepest
verdict_text (Refuse place cause) = codes "refuse " ++ decimal place ++ codes " " ++ check_word cause

-- the output line for a load line
abbrev pub verdict_line : ℕ → CodeVerdict → List ℕ
verdict_line number v = decimal number ++ codes " " ++ verdict_text v ++ codes "\n"

-- the first load line: its verdict holds for its code, which keeps to it in every run; and the text for the rest
pub record IsJudged (number : ℕ) (code : List ℕ) (session : ℕ) (Rest : List ℕ → Type 0) (text : List ℕ) : Type 0 where
  pub verdict : CodeVerdict
  pub holds : IsVerdictOf code session verdict
  pub keeps : KeepsTo code session verdict
  pub behind : List ℕ
  pub rest : Rest behind
  pub parts : text ≡ verdict_line number verdict ++ behind

-- a text with a line for each load line, in order, each with a verdict that holds for its code and that its code keeps
-- to
unfoldable pub AreVerdicts : List (ℕ × DeckLine) → List ℕ → Type 0
AreVerdicts [] text = text ≡ []
AreVerdicts ((n, line.Sent (line.Load u fixed session)) ∷ ls) text = IsJudged n u.code session (AreVerdicts ls) text
AreVerdicts ((n, _) ∷ ls) text = AreVerdicts ls text

-- the verdict on a deck whose code is checked
abbrev pub IsCheckOf : Result (List (ℕ × DeckLine)) (ℕ × DeckCause) → JobVerdict → Type 0
IsCheckOf (Err e) v = v ≡ Refusal (deck_line e)
IsCheckOf (Ok lines) v = (text : List ℕ) × (v ≡ Whole text) × AreVerdicts lines text

-- ---- jobs

-- the verdict on an input of which a text is written
abbrev pub IsTextOf : Form → List ℕ → JobVerdict → Type 0
IsTextOf form.Code input v = v ≡ of_assembly (assembly_of input)
IsTextOf form.Listing input v = v ≡ of_code (code_text_read input)
IsTextOf form.Verdicts input v = IsCheckOf (deck_read input) v

-- the verdict on an input within the limit; a generated deck has none
abbrev pub StandsFor : Job → List ℕ → JobVerdict → Type 0
StandsFor (job.Play t) input v = v ≡ of_deck t (deck_read input)
StandsFor (job.Generate n) input v = ⊥
StandsFor (job.Write f) input v = IsTextOf f input v
