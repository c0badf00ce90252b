-- The place of a word in a list that ascends by the words' numbers.
use Rattle.std.specs.Prelude.{ℕ, suc, cond, nat_le, List, [], ◌∷◌}

-- the index of the first word whose number is not below n, or the length of the list if there is none
abbrev pub place : ℕ → List (ℕ × List ℕ) → ℕ
place n [] = 0
place n (w ∷ ws) = cond (nat_le n w.0) 0 (suc (place n ws))
