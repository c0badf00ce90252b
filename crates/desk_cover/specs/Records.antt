-- The record of LCOV (geninfo, "tracefile") of lines of code with their counts.
use Rattle.std.specs.Prelude.{ℕ, ◌+◌, ◌-◌, ◌==◌, cond, nat_lt, List, [], ◌∷◌, ◌++◌, filter, length, codes, decimal, Option, Some, None}
use Rattle.desk_cover.specs.declared.lcov.LineCount.{LineCount}

-- how often each way of a line's branch was gone: where its condition held, and where not; none for a line without a
-- branch
abbrev pub ways_under : Option ℕ → LineCount → List ℕ
ways_under None c = []
ways_under (Some k) c = c.taken ∷ (c.turns - c.taken) ∷ []

-- the ways of a line
abbrev pub ways_of : LineCount → List ℕ
ways_of c = ways_under c.condition c

-- the line of a line of code
abbrev pub line_text : LineCount → List ℕ
line_text c = codes "DA:" ++ decimal c.number ++ codes "," ++ decimal c.turns ++ codes "\n"

-- a count, `-` where the line never ran
abbrev pub count_text : ℕ → ℕ → List ℕ
count_text turns n = cond (turns == 0) (codes "-") (decimal n)

-- the line of a way
abbrev pub way_text : LineCount → ℕ → ℕ → List ℕ
way_text c way n = codes "BRDA:" ++ decimal c.number ++ codes ",0," ++ decimal way ++ codes "," ++ count_text c.turns n ++ codes "\n"

-- the lines of the ways of a branch
abbrev pub branch_under : Option ℕ → LineCount → List ℕ
branch_under None c = []
branch_under (Some k) c = way_text c 0 c.taken ++ way_text c 1 (c.turns - c.taken)

-- the lines of a line's ways
abbrev pub branch_text : LineCount → List ℕ
branch_text c = branch_under c.condition c

-- the lines of lines of code
abbrev pub lines_text : List LineCount → List ℕ
lines_text [] = []
lines_text (c ∷ cs) = line_text c ++ lines_text cs

-- the lines of their ways
abbrev pub branches_text : List LineCount → List ℕ
branches_text [] = []
branches_text (c ∷ cs) = branch_text c ++ branches_text cs

-- the number of their ways
abbrev pub count_ways : List LineCount → ℕ
count_ways [] = 0
count_ways (c ∷ cs) = length (ways_of c) + count_ways cs

-- the number of ways above 0
abbrev pub count_gone : List LineCount → ℕ
count_gone [] = 0
count_gone (c ∷ cs) = length (filter (nat_lt 0) (ways_of c)) + count_gone cs

-- the number of lines that ran
abbrev pub count_run : List LineCount → ℕ
count_run [] = 0
count_run (c ∷ cs) = cond (nat_lt 0 c.turns) 1 0 + count_run cs

-- a word and a number
abbrev pub number_text : List ℕ → ℕ → List ℕ
number_text word n = word ++ decimal n ++ codes "\n"

-- the head of a record, with the name of its file
abbrev pub head_text : List ℕ → List ℕ
head_text name = codes "TN:\nSF:" ++ name ++ codes "\n"

-- the number of ways, and of those that were gone
abbrev pub way_sums : List LineCount → List ℕ
way_sums cs = number_text (codes "BRF:") (count_ways cs) ++ number_text (codes "BRH:") (count_gone cs)

-- the number of lines, and of those that ran
abbrev pub line_sums : List LineCount → List ℕ
line_sums cs = number_text (codes "LF:") (length cs) ++ number_text (codes "LH:") (count_run cs)

-- all numbers, and the end of a record
abbrev pub end_text : List LineCount → List ℕ
end_text cs = (way_sums cs ++ line_sums cs) ++ codes "end_of_record\n"

-- a record after its head
abbrev pub rest_text : List LineCount → List ℕ
rest_text cs = (lines_text cs ++ branches_text cs) ++ end_text cs

-- the record of lines, under the name of their file
abbrev pub record_text : List ℕ → List LineCount → List ℕ
record_text name cs = head_text name ++ rest_text cs
