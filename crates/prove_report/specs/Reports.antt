-- The text of a proof: whole lines, of which the last is the verdict.
use Rattle.std.specs.Prelude.{◌≡◌, ℕ, Bool, true, false, ◌==◌, List, [], ◌∷◌, ◌++◌, codes, decimal}

-- whether each line of a text has its end
abbrev pub is_of_lines : List ℕ → Bool
is_of_lines [] = true
is_of_lines (c ∷ []) = c == 10
is_of_lines (c ∷ d ∷ cs) = is_of_lines (d ∷ cs)

-- the words of a verdict: whether all rules are proved
abbrev pub verdict_words : Bool → List ℕ
verdict_words true = codes "proved keys "
verdict_words false = codes "not proved keys "

-- the line of a verdict, with the number of keys of both tables
abbrev pub verdict_line : Bool → ℕ → List ℕ
verdict_line proved keys = verdict_words proved ++ decimal keys ++ codes "\n"

-- a text is lines of what may be known and of what is broken, and the line of a verdict
pub record IsReport (proved : Bool) (text : List ℕ) : Type 0 where
  pub front : List ℕ
  pub lines : is_of_lines front ≡ true
  pub keys : ℕ
  pub is : text ≡ front ++ verdict_line proved keys
