-- Pieces for worked examples.
use Rattle.std.specs.Prelude.{ℕ, zero, suc, ◌*◌, List, [], ◌∷◌, ◌++◌}

-- a piece of one byte at the front of each of the first n words
abbrev pub word_fronts : ℕ → List (ℕ × List ℕ)
word_fronts zero = []
word_fronts (suc n) = word_fronts n ++ (8 * n, 1 ∷ []) ∷ []
