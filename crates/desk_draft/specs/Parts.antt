-- Texts taken apart with every byte kept: lines with what ends them, and a part with the blanks around it.
use Rattle.std.specs.Prelude.{ℕ, ◌-◌, ◌==◌, List, [], ◌∷◌, ◌++◌, length, take, drop}
use Rattle.mc_text.specs.model_text.specs.Text.{pieces, first_cut, trim, trim_front, is_blank}
use Rattle.mc_text.specs.Reading.{without_return}

-- a line of a text, and the bytes that end it: a line feed, with the carriage return right before it where there is
-- one; nothing ends the last line
pub record EndedLine : Type 0 where
  pub text : List ℕ
  pub ending : List ℕ

-- the line that a piece of a text is where a line feed follows it
abbrev pub fed_line : List ℕ → EndedLine
fed_line p = let text = without_return p in record { text = text; ending = drop (length text) p ++ 10 ∷ [] }

-- the pieces of a text between its line feeds, as its lines
abbrev pub ended_pieces : List (List ℕ) → List EndedLine
ended_pieces [] = []
ended_pieces (p ∷ []) = record { text = p; ending = [] } ∷ []
ended_pieces (p ∷ q ∷ ps) = fed_line p ∷ ended_pieces (q ∷ ps)

-- the lines of a text with what ends them; the last one is empty where the text ends with a line feed
abbrev pub ended_lines : List ℕ → List EndedLine
ended_lines t = ended_pieces (pieces (λ c. c == 10) t)

-- a part of a text, with what stands before it and after it
pub record Part : Type 0 where
  pub before : List ℕ
  pub core : List ℕ
  pub after : List ℕ

-- what stands in a text before its rest
abbrev pub before_rest : List ℕ → List ℕ → List ℕ
before_rest t rest = take (length t - length rest) t

-- the part of a text that its rest is without the blanks around it
abbrev pub part_in : List ℕ → List ℕ → Part
part_in t rest =
    record {
      before = before_rest t (trim_front rest);
      core = trim rest;
      after = drop (length (trim rest)) (trim_front rest);
    }

-- a text without the blanks around it, between them
abbrev pub part_of : List ℕ → Part
part_of t = part_in t t

-- a frame around another part
abbrev pub with_core : Part → List ℕ → List ℕ
with_core f core = f.before ++ core ++ f.after

-- the first word of a text
abbrev pub first_word : List ℕ → List ℕ
first_word t = (first_cut is_blank (trim_front t)).0

-- what stands in a text after its first word
abbrev pub after_word : List ℕ → List ℕ
after_word t = drop (length (first_word t)) (trim_front t)

-- a line of a section without its comment
abbrev pub without_comment : List ℕ → List ℕ
without_comment l = (first_cut (λ c. c == 59) l).0
