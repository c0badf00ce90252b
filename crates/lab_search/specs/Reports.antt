-- The text of an exploration, line by line.
use Rattle.std.specs.Prelude.{◌+◌, ℕ, List, ◌++◌, codes, decimal, Option, Some, None}
use Rattle.law_explore_text.specs.model_device.specs.Bytes.{zeros}
use Rattle.law_explore_text.specs.model_device.specs.Image.{Two, opening}
use Rattle.law_explore_text.specs.model_text.specs.Listing.{hex_text}
use Rattle.law_explore_text.specs.law_explore.specs.Tries as model
use Rattle.law_explore_text.specs.law_explore.specs.Tries.{ones}
use Rattle.lab_search.specs.declared.journey.Fill.{Fill}
use Rattle.lab_search.specs.declared.journey.Fill.TheVariants as fill
use Rattle.lab_search.specs.declared.journey.Manner.{Manner}
use Rattle.lab_search.specs.declared.journey.Manner.TheVariants as manner

-- the word that a cut leaves
abbrev pub fill_value : Fill → List ℕ
fill_value fill.Zeros = zeros 8
fill_value fill.Ones = ones
fill_value fill.Opening = opening Two

-- how a move is made, as the definition has it
abbrev pub manner_value : Manner → model.Manner
manner_value manner.Whole = model.Whole
manner_value (manner.Cut made f) = model.CutAt (made + 1) (fill_value f)

-- the line of a depth, with the number of its new states
abbrev pub depth_line : ℕ → ℕ → List ℕ
depth_line d n = codes "depth " ++ decimal d ++ codes " states " ++ decimal n ++ codes "\n"

-- how an exploration ended: with no new state, or at a depth
abbrev pub how_text : Option ℕ → List ℕ
how_text None = codes " all"
how_text (Some d) = codes " depth " ++ decimal d

-- the line of a broken rule, with the number of the statements after it
abbrev pub broken_line : List ℕ → ℕ → List ℕ
broken_line name count = codes "broken " ++ name ++ codes " after " ++ decimal count ++ codes " lines\n"

-- the line of a statement
abbrev pub statement_line : List ℕ → List ℕ
statement_line text = text ++ codes "\n"

-- the line that arms a cut after some writes
abbrev pub cut_line : ℕ → List ℕ → List ℕ
cut_line made word = codes "cut " ++ decimal (made + 1) ++ codes " " ++ hex_text word ++ codes "\n"

-- the lines of a move
abbrev pub move_lines : List ℕ → Manner → List ℕ
move_lines text manner.Whole = statement_line text
move_lines text (manner.Cut made f) = cut_line made (fill_value f) ++ statement_line text ++ statement_line (codes "power")

-- the number of the lines of a move
abbrev pub count_of_lines : Manner → ℕ
count_of_lines manner.Whole = 1
count_of_lines (manner.Cut made f) = 3
