-- The lengths of instructions in bytes, by their first byte.
use Rattle.std.specs.Prelude.{ℕ, ◌+◌, ◌*◌, List, [], ◌∷◌, map, option_map, unwrap_or}
use Rattle.model_text.specs.model_machine.specs.Code.{kinds, total}

-- the length in bytes of the instruction that a byte begins, 0 if it begins none
abbrev pub length_at : ℕ → ℕ
length_at b = unwrap_or (option_map (λ ks. 1 + total ks) (kinds b)) 0

-- the lengths of the instructions of an op (the high five bits of the byte), by tag (its low three bits), from 0 to 7
abbrev pub lengths : ℕ → List ℕ
lengths op = map (λ tag. length_at (op * 8 + tag)) (0 ∷ 1 ∷ 2 ∷ 3 ∷ 4 ∷ 5 ∷ 6 ∷ 7 ∷ [])
