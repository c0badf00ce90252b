-- The statements of a deck in its text, by the numbers of their lines.
use Rattle.std.specs.Prelude.{◌≡◌, ℕ, zero, suc, ◌-◌, List, [], Option, Some, None}
use Rattle.mc_text.specs.model_text.specs.Text.{trim}
use Rattle.mc_text.specs.Reading.{next_line}
use Rattle.desk_steps.specs.declared.statements.Statements.{Statements}

-- the line that was cut off, empty if there is none
abbrev pub line_or_none : Option (List ℕ × List ℕ) → List ℕ
line_or_none None = []
line_or_none (Some l) = l.0

-- what is left after it
abbrev pub rest_or_none : Option (List ℕ × List ℕ) → List ℕ
rest_or_none None = []
rest_or_none (Some l) = l.1

-- the first line of a text, and what is left after it
abbrev pub first_line : List ℕ → List ℕ
first_line t = line_or_none (next_line t)

-- what is left of a text after its first line
abbrev pub after_line : List ℕ → List ℕ
after_line t = rest_or_none (next_line t)

-- a text after its first lines
abbrev pub rest_after : ℕ → List ℕ → List ℕ
rest_after zero t = t
rest_after (suc n) t = rest_after n (after_line t)

-- the statement in the line of a text with a number from 1 on, without blanks at both ends
abbrev pub statement_at : ℕ → List ℕ → List ℕ
statement_at n t = trim (first_line (rest_after (n - 1) t))

-- what is left of a text stands after the lines of its number
abbrev pub StandsAt : Statements → Type 0
StandsAt s = s.rest.now ≡ rest_after s.number s.text.now
