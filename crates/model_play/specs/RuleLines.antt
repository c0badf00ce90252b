-- The comments of a deck that begin with `#@`: which lines they are, and the parts that all of them have.
use Rattle.std.specs.Prelude.{ℕ, Bool, true, false, not, ◌&&◌, ◌==◌, List, [], ◌∷◌, ◌++◌, Option, Some, None, Result, Ok, Err}
use Rattle.model_play.specs.model_device.specs.Bytes.{lookup}
use Rattle.model_play.specs.model_text.specs.Text.{◌>>=◌, only_if, is_empty, begins, fields}
use Rattle.model_play.specs.declared.deck.DeckCause.{DeckCause}
use Rattle.model_play.specs.declared.deck.DeckCause.TheVariants.{BadLine}
use Rattle.model_play.specs.DeckGrammar.{name_field, number_field}
use Rattle.model_text.specs.Text.{stays_inside}

-- a line that passes a test, before others
abbrev pub line_if : Bool → ℕ × List ℕ → List (ℕ × List ℕ) → List (ℕ × List ℕ)
line_if true l ls = l ∷ ls
line_if false l ls = ls

-- whether a field begins with `#@`
abbrev pub has_mark : List ℕ → Bool
has_mark [] = false
has_mark (c ∷ rest) = (c == 35) && begins 64 rest

-- whether the first field of a line begins with `#@`
abbrev pub is_marked : List (List ℕ) → Bool
is_marked [] = false
is_marked (f ∷ fs) = has_mark f

-- the lines outside of sections whose first field begins with `#@`; the first line of these is in a section or not
unfoldable pub marked_lines : Bool → List (ℕ × List ℕ) → List (ℕ × List ℕ)
marked_lines inside [] = []
marked_lines inside (l ∷ ls) =
    line_if (not inside && is_marked (fields l.1)) l (marked_lines (stays_inside inside (fields l.1)) ls)

-- fields up to the first that is one of some words, joined without blanks; that word, and the fields after it
abbrev pub Parts : Type 0 → Type 0
Parts W = List ℕ × W × List (List ℕ)

-- the parts with one more field at their front
abbrev pub with_front : {W : Type 0} → List ℕ → Option (Parts W) → Option (Parts W)
with_front f None = None
with_front f (Some p) = Some (f ++ p.0, p.1, p.2)

-- the parts if this field is the word, else those of the rest with it at their front
abbrev pub parts_at : {W : Type 0} → Option W → List ℕ → List (List ℕ) → Option (Parts W) → Option (Parts W)
parts_at (Some w) f fs rest = Some ([], w, fs)
parts_at None f fs rest = with_front f rest

-- fields by the first of some words among them; none if none is there
abbrev pub parts_of : {W : Type 0} → List (List ℕ × W) → List (List ℕ) → Option (Parts W)
parts_of words [] = None
parts_of words (f ∷ fs) = parts_at (lookup words f) f fs (parts_of words fs)

-- parts with some field before the word, else BadLine
abbrev pub full_parts : {W : Type 0} → Option (Parts W) → Result (Parts W) DeckCause
full_parts None = Err BadLine
full_parts (Some p) = only_if (not (is_empty p.0)) BadLine p

-- a name and a number up to 4,294,967,295
abbrev pub name_and_amount : List (List ℕ) → Result (List ℕ × ℕ) DeckCause
name_and_amount (name ∷ amount ∷ []) = do
  name ← name_field name
  amount ← number_field 0 4294967295 amount
  Ok (name, amount)
name_and_amount other = Err BadLine
