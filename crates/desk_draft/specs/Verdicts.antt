-- The verdicts of the stack checker on a draft, with the source line of each place that is refused.
use Rattle.std.specs.Prelude.{ℕ, ◌==◌, cond, List, [], ◌∷◌, ◌++◌, bytes_eq, codes, decimal, Option, Some, None, option_and_then, Result, Ok, Err}
use Rattle.mc_text.specs.model_text.specs.declared.checker.CheckCause.{CheckCause}
use Rattle.mc_text.specs.model_text.specs.CheckWords.{check_word}
use Rattle.mc_text.specs.model_text.specs.Text.{lines, with_numbers, fields}
use Rattle.desk_draft.specs.Listings.{CodeLine, Source, Desk, line_at}

-- ` ; ` with the number and the text of a source line, nothing where there is none
abbrev pub source_part : Option CodeLine → List ℕ
source_part None = []
source_part (Some l) = codes " ; " ++ decimal l.number ++ codes " " ++ l.text

-- the first section of a name
abbrev pub source_named : List Source → List ℕ → Option Source
source_named [] n = None
source_named (s ∷ ss) n = cond (bytes_eq s.name n) (Some s) (source_named ss n)

-- the second of some fields
abbrev pub second_field : List (List ℕ) → Option (List ℕ)
second_field (word ∷ t ∷ ts) = Some t
second_field fields = None

-- the text of the line with a number
abbrev pub numbered_text : List (ℕ × List ℕ) → ℕ → List ℕ
numbered_text [] n = []
numbered_text (l ∷ ls) n = cond (l.0 == n) l.1 (numbered_text ls n)

-- the text of the line of a deck with a number
abbrev pub line_text : List ℕ → ℕ → List ℕ
line_text deck n = numbered_text (with_numbers 1 (lines deck)) n

-- the section that the `load` line with a number names, none where it names a unit
abbrev pub loaded_source : Desk → ℕ → Option Source
loaded_source d n = option_and_then (source_named d.sources) (second_field (fields (line_text d.deck n)))

-- the source line of a place in the code of a section, if there is one
abbrev pub source_line : Option Source → ℕ → Option CodeLine
source_line None at = None
source_line (Some s) at = line_at s.lines at

-- a verdict: the deepest stack of code that is accepted, or the place and the rule that refuse it
abbrev pub CodeVerdict : Type 0
CodeVerdict = Result ℕ (ℕ × CheckCause)

-- the verdict on the code that the `load` line with a number loads, with the source line of the refused place
abbrev pub verdict_text : Desk → ℕ → CodeVerdict → List ℕ
verdict_text d n (Ok deepest) = codes "accept " ++ decimal deepest
verdict_text d n (Err (place, cause)) =
    codes "refuse " ++ decimal place ++ codes " " ++ check_word cause
    ++ source_part (source_line (loaded_source d n) place)

-- the line of a verdict
abbrev pub verdict_line : Desk → ℕ × CodeVerdict → List ℕ
verdict_line d v = decimal v.0 ++ codes " " ++ verdict_text d v.0 v.1 ++ codes "\n"

-- the lines of verdicts, each with the number of its `load` line
abbrev pub verdict_lines : Desk → List (ℕ × CodeVerdict) → List ℕ
verdict_lines d [] = []
verdict_lines d (v ∷ vs) = verdict_line d v ++ verdict_lines d vs
