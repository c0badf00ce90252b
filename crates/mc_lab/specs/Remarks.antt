-- Remarks: comment lines of a deck that the laboratory reads, each with the last statement above it.
use Rattle.std.specs.Prelude.{ℕ, Bool, true, false, cond, not, ◌&&◌, ◌==◌, List, [], ◌∷◌, ◌++◌, bytes_eq, codes, Option, Some, None, Result, Ok, Err}
use Rattle.law_explore.specs.model_text.specs.Text.{trim, trim_front, fields, lines, with_numbers}
use Rattle.law_explore.specs.model_play.specs.declared.deck.DeckCause.{DeckCause}
use Rattle.law_explore.specs.model_play.specs.DeckGrammar.{Mode, Between, Within, LineTurn, statement_of, within, turn_at}
use Rattle.mc_lab.specs.declared.remark.Mark.{Mark}
use Rattle.mc_lab.specs.declared.remark.Mark.TheVariants as mark

-- a remark: the number of its line, its text after the mark, and the last statement above it with the number of its
-- line, 0 if there is none
pub record Remark : Type 0 where
  pub number : ℕ
  pub text : List ℕ
  pub above : ℕ × List ℕ

-- ---- marks

-- the text after the characters a and b, if a text begins with them
abbrev pub after_characters : ℕ → ℕ → List ℕ → Option (List ℕ)
after_characters a b [] = None
after_characters a b (c ∷ []) = None
after_characters a b (c ∷ d ∷ t) = cond ((c == a) && (d == b)) (Some t) None

-- a text, if there is one, without the blanks around it
abbrev pub trimmed : Option (List ℕ) → Option (List ℕ)
trimmed None = None
trimmed (Some t) = Some (trim t)

-- the pattern of a line whose first field begins with `#>`: what follows the two characters, without the blanks around
-- it
abbrev pub pattern_in : List ℕ → Option (List ℕ)
pattern_in l = trimmed (after_characters 35 62 (trim_front l))

-- one field, which is this word
abbrev pub is_only : List ℕ → List (List ℕ) → Bool
is_only word [] = false
is_only word (f ∷ []) = bytes_eq f word
is_only word (f ∷ g ∷ fs) = false

-- the fields `#!` and `whole`
abbrev pub is_whole_mark : List (List ℕ) → Bool
is_whole_mark [] = false
is_whole_mark (f ∷ fs) = bytes_eq f (codes "#!") && is_only (codes "whole") fs

-- the text of a line with a mark; that of `#! whole` is empty
abbrev pub text_in : Mark → List ℕ → Option (List ℕ)
text_in mark.Expectation l = pattern_in l
text_in mark.Whole l = cond (is_whole_mark (fields l)) (Some []) None

-- ---- statements

-- whether a line without blanks in front is a statement: it is not empty, and no comment
abbrev pub begins_statement : List ℕ → Bool
begins_statement [] = false
begins_statement (c ∷ t) = not (c == 35)

-- the last statement after a line, with the number of its line
abbrev pub above_after : ℕ × List ℕ → ℕ × List ℕ → ℕ × List ℕ
above_after l above = cond (begins_statement (trim_front l.1)) (l.0, trim l.1) above

-- ---- the remarks of a text

-- whether a line is in a section, by the mode of the deck's reader before it
abbrev pub in_section : Mode → Bool
in_section (Between c) = false
in_section (Within s c) = true

-- the remark of a line that is in a section or not, if it is one
abbrev pub remark_at : Bool → Option (List ℕ) → ℕ → ℕ × List ℕ → Option Remark
remark_at true text n above = None
remark_at false None n above = None
remark_at false (Some t) n above = Some (record { number = n; text = t; above = above })

-- a list of one, or of none
abbrev pub just : {A : Type 0} → Option A → List A
just None = []
just (Some a) = a ∷ []

-- the remarks after a line, by the mode after it; there are none after a line that the reader refuses
abbrev pub after_line : Result LineTurn (ℕ × DeckCause) → (Mode → List Remark) → List Remark
after_line (Ok t) rest = rest t.mode
after_line (Err e) rest = []

-- the remarks of lines, by the mode of the deck's reader before the first, and the last statement above it
unfoldable pub remarks_from : Mark → Mode → ℕ × List ℕ → List (ℕ × List ℕ) → List Remark
unfolding statement_of within
remarks_from k m above [] = []
remarks_from k m above (l ∷ ls) =
    just (remark_at (in_section m) (text_in k l.1) l.0 above)
    ++ after_line (turn_at (l.0 == 20001) m l) (λ n. remarks_from k n (above_after l above) ls)

-- the remarks with a mark of a deck's text
unfoldable pub remarks : Mark → List ℕ → List Remark
unfolding remarks_from
remarks k text = remarks_from k (Between (record { units = []; powered = false })) (0, []) (with_numbers 1 (lines text))
