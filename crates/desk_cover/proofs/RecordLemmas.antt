-- The text of lines, line by line.
use Rattle.std.proofs.Common.{◌≡◌, ℕ, zero, suc, ◌+◌, ◌<◌, ◌≤◌, List, [], ◌∷◌, ◌++◌, length, get_or, drop, None, refl, sym, ap, subst, arith, add-one, drop-cons}
use Rattle.desk_cover.specs.declared.lcov.LineCount.{LineCount}
use Rattle.desk_cover.specs.Records.{line_text, lines_text, branch_text, branches_text}

-- the default line, for an index past the end
abbrev pub no_line : LineCount
no_line = record { number = 0; section = 0; place = 0; condition = None; turns = 0; taken = 0 }

-- what is left from an index on is the line there and those after it
left_at : (cs : List LineCount) (i : ℕ) → i < length cs → drop i cs ≡ get_or cs i no_line ∷ drop (i + 1) cs
left_at cs i h = subst (λ (k : ℕ). drop i cs ≡ get_or cs i no_line ∷ drop k cs) (sym (add-one i)) (drop-cons cs i no_line h)

none_left : (cs : List LineCount) (i : ℕ) → length cs ≤ i → drop i cs ≡ []
none_left [] zero h = refl
none_left [] (suc i) h = refl
none_left (c ∷ cs) zero h = absurd (omega (arith, h))
none_left (c ∷ cs) (suc i) h = none_left cs i (omega (arith, h))

-- the text of lines from one on is its own and that of those after it
pub line_at : (cs : List LineCount) (i : ℕ) → i < length cs → lines_text (drop i cs) ≡ line_text (get_or cs i no_line) ++ lines_text (drop (i + 1) cs)
line_at cs i h = ap lines_text (left_at cs i h)

-- no text is left past the last line
pub no_line_left : (cs : List LineCount) (i : ℕ) → length cs ≤ i → lines_text (drop i cs) ≡ []
no_line_left cs i h = ap lines_text (none_left cs i h)

-- the text of branches from a line on is its own and that of those after it
pub branch_at : (cs : List LineCount) (i : ℕ) → i < length cs → branches_text (drop i cs) ≡ branch_text (get_or cs i no_line) ++ branches_text (drop (i + 1) cs)
branch_at cs i h = ap branches_text (left_at cs i h)

-- no text of branches is left past the last line
pub no_branch_left : (cs : List LineCount) (i : ℕ) → length cs ≤ i → branches_text (drop i cs) ≡ []
no_branch_left cs i h = ap branches_text (none_left cs i h)
