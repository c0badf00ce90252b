-- The number of words that bytes at a place touch.
use Rattle.std.proofs.Common.{◌≡◌, ℕ, zero, suc, ◌+◌, ◌-◌, ◌*◌, ◌%◌, ◌≤◌, Bool, cond, List, [], ◌∷◌, take, drop, length, refl, arith}
use Rattle.std.proofs.lemmas.List.{length-drop, length-replicate}
use Rattle.law_family.specs.model_device.specs.Bytes.{zeros}
use Rattle.law_family.specs.model_card.specs.Manager.{is_empty, in_words, word_parts}

abbrev parts : ℕ → ℕ → List ℕ → ℕ
parts n at b = length (in_words n at b)

words_by : (n at : ℕ) (b : List ℕ) (t : Bool) → is_empty b ≡ t → 8 * parts n (at + (8 - at % 8)) (drop (8 - at % 8) b) ≤ (at + (8 - at % 8)) % 8 + length (drop (8 - at % 8) b) + 7
    → 8 * length (cond t [] ((at, take (8 - at % 8) b) ∷ in_words n (at + (8 - at % 8)) (drop (8 - at % 8) b))) ≤ at % 8 + length b + 7
words_by n at b t e rest = grind (arith, length-drop)

in_words_few : (n at : ℕ) (b : List ℕ) → 8 * parts n at b ≤ at % 8 + length b + 7
in_words_few zero at b = omega arith
in_words_few (suc n) at b = words_by n at b (is_empty b) refl (in_words_few n (at + (8 - at % 8)) (drop (8 - at % 8) b))

-- the parts of a piece
pub parts_few : (at : ℕ) (b : List ℕ) → 8 * length (word_parts at b) ≤ at % 8 + length b + 7
parts_few at b = in_words_few (length b) at b

-- the parts of zeros from `init` up to `fixed`
pub zeros_few : (init fixed : ℕ) → init ≤ fixed → 8 * length (word_parts init (zeros (fixed - init))) ≤ fixed + 7
zeros_few init fixed h = grind (arith, parts_few, length-replicate)
