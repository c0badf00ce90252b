-- Lines of rules, and their first words.
use Rattle.std.specs.Prelude.{◌≡◌, ◌==◌, ℕ, Bool, false, List, [], ◌∷◌, is_some}
use Rattle.std.specs.List.{AllByRecursion}
use Rattle.model_device.specs.Bytes.{lookup}
use Rattle.law_explore.specs.Rules.{move_words}

-- a text without a line feed
abbrev pub IsOneLine : List ℕ → Type 0
IsOneLine t = AllByRecursion (λ c. (c == 10) ≡ false) t

-- whether fields begin with the word of a statement that can be a move
abbrev pub is_move : List (List ℕ) → Bool
is_move [] = false
is_move (word ∷ rest) = is_some (lookup move_words word)
