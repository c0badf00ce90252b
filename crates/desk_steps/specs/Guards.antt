-- Words that wait for a commit in a frame, as a guard keeps them.
use Rattle.std.specs.Prelude.{ℕ, cond, ◌==◌, List, [], ◌∷◌, ◌++◌, get_or, insert, Option, Some, None}

-- words with one more, by the index of the first that is not below it, if there is one
abbrev pub placed : ℕ → List ℕ → Option ℕ → List ℕ
placed n ws None = ws ++ n ∷ []
placed n ws (Some i) = cond (get_or ws i 0 == n) ws (insert ws i n)

-- no word waits in any of four frames
abbrev pub all_clear : List (List ℕ)
all_clear = [] ∷ [] ∷ [] ∷ [] ∷ []
