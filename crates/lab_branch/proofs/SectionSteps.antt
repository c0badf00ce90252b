-- The bytes of a section, word by word.
use Rattle.std.proofs.Common.{◌≡◌, ℕ, suc, ◌+◌, ◌-◌, ◌≤◌, List, ◌++◌, length, take, sym, ◌∙◌, ap, arith, min, append_assoc, append-nil, inl, inr}
use Rattle.std.proofs.lemmas.List.{take-append-le, take_all}
use Rattle.std.proofs.Math.Seq.{take-append-add}
use Rattle.std.proofs.lemmas.Bool.{cases_lt}
use Rattle.mc_words.specs.model_device.specs.Bytes.{up}
use Rattle.mc_words.specs.model_device.specs.Device.{IsSized}
use Rattle.mc_words.specs.model_device.specs.Card.{word, cells, section}
use Rattle.mc_blocks.proofs.Sections.{cells_more}

module _ (m : List (List ℕ)) (p n : ℕ) (image : IsSized m) (some : 1 ≤ n) (within : p + up n 8 ≤ length m) where
  front : take n (cells m p (up n 8)) ≡ take n (word m p ++ cells m (p + 1) (up n 8 - 1))
  front =
      let more : up n 8 ≡ suc (up n 8 - 1) = omega arith in
      ap (λ (k : ℕ). take n (cells m p k)) more ∙ ap (λ (l : List ℕ). take n l) (cells_more m p (up n 8 - 1) (omega arith))

  -- the first word of a section, and the section that is left
  section_more : section m p n ≡ take (min n 8) (word m p) ++ section m (p + 1) (n - min n 8)
  section_more =
      let eight : length (word m p) ≡ 8 = image.words p (omega arith) in
      elim (cases_lt 8 n) [
        | inl long ↦
            let all : min n 8 ≡ 8 = omega arith in
            let less : up n 8 - 1 ≡ up (n - 8) 8 = omega arith in
            let sum : n ≡ length (word m p) + (n - 8) = omega (arith, eight, long) in
            let rest = cells m (p + 1) (up n 8 - 1) in
            front
            ∙ ap (λ (k : ℕ). take k (word m p ++ rest)) sum
            ∙ take-append-add (word m p) rest (n - 8)
            ∙ ap (λ (l : List ℕ). l ++ take (n - 8) rest) (sym (take_all 8 (word m p) (omega (arith, eight))))
            ∙ ap (λ (k : ℕ). take 8 (word m p) ++ take (n - 8) (cells m (p + 1) k)) less
            ∙ ap (λ (k : ℕ). take k (word m p) ++ section m (p + 1) (n - k)) (sym all)
        | inr short ↦
            let all : min n 8 ≡ n = omega arith in
            let none : n - n ≡ 0 = omega arith in
            front
            ∙ take-append-le n (word m p) (cells m (p + 1) (up n 8 - 1)) (omega (arith, eight, short))
            ∙ sym (append-nil (take n (word m p)))
            ∙ ap (λ (k : ℕ). take n (word m p) ++ section m (p + 1) k) (sym none)
            ∙ ap (λ (k : ℕ). take k (word m p) ++ section m (p + 1) (n - k)) (sym all)
      ]

-- bytes that were read and the section that is left are the whole
pub section_step : (m : List (List ℕ)) (p n : ℕ) (before whole : List ℕ) → IsSized m → 1 ≤ n → p + up n 8 ≤ length m → before ++ section m p n ≡ whole
    → (before ++ take (min n 8) (word m p)) ++ section m (p + 1) (n - min n 8) ≡ whole
section_step m p n before whole image some within h =
    append_assoc before (take (min n 8) (word m p)) (section m (p + 1) (n - min n 8))
    ∙ ap (λ (l : List ℕ). before ++ l) (sym (section_more m p n image some within))
    ∙ h
