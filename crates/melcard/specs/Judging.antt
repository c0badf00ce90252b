-- The results of the code for listed code and for rejected input, in terms of the model.
use Rattle.std.specs.Prelude.{◌≡◌, ℕ, not, List, [], ◌∷◌, ◌++◌, filter, ok_or, option_map, Result, Ok, Err}
use Rattle.mc_text.specs.model_text.specs.Text
use Rattle.mc_text.specs.model_text.specs.Text.{CodeFault, ◌>>=◌, hex_values, is_blank, ok_as}
use Rattle.mc_filter.specs.Inputs.{Rejects}
use Rattle.melcard.specs.declared.code.CodeRefusal.{CodeRefusal}
use Rattle.mc_filter.specs.declared.rejection.Rejection.{Rejection}
use Rattle.mc_deck.specs.model_play.specs.DeckGrammar.{DeckLine}
use Rattle.melcard.specs.Verdicts.{JobVerdict, Refusal, AreVerdicts}
use Rattle.melcard.specs.declared.code.CodeRefusal.TheVariants.{BadHex, TooLarge}

-- the digits of one line of code
abbrev pub line_digits : ℕ → List ℕ → Result (List ℕ) CodeFault
line_digits number line = let digits = filter (λ c. not (is_blank c)) line in ok_or (option_map (λ values. digits) (hex_values digits)) (Text.BadHex number)

-- the digits of numbered lines of code
abbrev pub text_digits : List (ℕ × List ℕ) → Result (List ℕ) CodeFault
text_digits [] = Ok []
text_digits (l ∷ ls) = line_digits l.0 l.1 >>= λ digits. ok_as (λ rest. digits ++ rest) (text_digits ls)

-- the refusal is that of the model
abbrev pub RefusesCode : {A : Type 0} → Result A CodeFault → CodeRefusal → Type 0
RefusesCode r (BadHex n) = r ≡ Err (Text.BadHex n)
RefusesCode r TooLarge = r ≡ Err Text.TooLarge

-- a rejection of an input, by the verdicts that the input may have
abbrev pub RejectsAs : (JobVerdict → Type 0) → Rejection → Type 0
RejectsAs IsOf why = Rejects (λ line. IsOf (Refusal line)) why

-- a text grew by the output line if the line is a load line, and is unchanged if not
abbrev pub AddsVerdict : ℕ × DeckLine → List ℕ → List ℕ → Type 0
AddsVerdict l old new = (text : List ℕ) × (new ≡ old ++ text) × AreVerdicts (l ∷ []) text
