-- The first field of a line, and what follows it.
use Rattle.std.specs.Prelude.{ℕ, List, [], Option, Some, None}
use Rattle.mc_text.specs.model_text.specs.Text.{first_cut, is_blank, trim_front}

-- the text after a cut, empty if there is none
abbrev pub or_nothing : Option (List ℕ) → List ℕ
or_nothing None = []
or_nothing (Some t) = t

-- the first field of a line, empty if it has none, and the text after the blank at its end
abbrev pub first_field : List ℕ → List ℕ × Option (List ℕ)
first_field l = first_cut is_blank (trim_front l)

-- the text after the first field of a line and the blank at its end
abbrev pub rest_of : List ℕ → List ℕ
rest_of l = or_nothing (first_field l).1
