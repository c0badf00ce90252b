-- The bytes of words of eight bytes, joined.
use Rattle.std.proofs.Common.{◌≡◌, subst, ℕ, zero, suc, ◌+◌, ◌-◌, ◌*◌, ◌<◌, ◌≤◌, List, [], ◌++◌, length, take, drop, refl, sym, ◌∙◌, ap, arith, length-drop, length-append, append_assoc, append-nil, inl, inr}
use Rattle.std.proofs.lemmas.Bool.{cases_lt}
use Rattle.std.specs.List.{concat}
use Rattle.std.proofs.lemmas.List.{drop_more, drop-drop, drop-take, drop_at, take-take, take-append-drop, take-append-le, drop-append-le, take_all, length-take-le}
use borrow.Rule.Slice.PartMut.{put_mid}
use Rattle.std.proofs.lemmas.Slice.{put_mid-paste, take-put_mid}
use Rattle.mc_words.specs.model_device.specs.Bytes.{up}
use Rattle.mc_words.specs.model_device.specs.Device.{IsSized}
use Rattle.mc_words.specs.model_device.specs.Card.{word, cells, section}
use Rattle.std.proofs.lemmas.List.Folds.{concat-append}
use Rattle.mc_blocks.proofs.Sections.{length_cells}
use Rattle.mc_store.specs.Slots.{flat}

take_sum : (a b : ℕ) (l : List ℕ) → take (a + b) l ≡ take a l ++ take b (drop a l)
take_sum a b l =
    sym (take-append-drop a (take (a + b) l))
    ∙ ap (λ (x : List ℕ). x ++ drop a (take (a + b) l)) (take-take a (a + b) l (omega arith))
    ∙ ap (λ (x : List ℕ). take a l ++ x) (drop-take a b l)

module _ (m : List (List ℕ)) (image : IsSized m) where
  -- a word before the words after it
  behind : (q : ℕ) → q < length m → concat (drop q m) ≡ word m q ++ concat (drop (q + 1) m)
  behind q h = ap concat (drop_more m q [] h)

  -- the bytes from a word's start on
  pub from_word : (q : ℕ) → q ≤ length m → drop (8 * q) (flat m) ≡ concat (drop q m)
  from_word zero h = refl
  from_word (suc q) h =
      let lt : q < length m = omega arith in
      let eight : length (word m q) ≡ 8 = image.words q lt in
      let more : 8 * suc q ≡ 8 * q + 8 = omega arith in
      let one : q + 1 ≡ suc q = omega arith in
      ap (λ (n : ℕ). drop n (flat m)) more
      ∙ sym (drop-drop 8 (8 * q) (flat m))
      ∙ ap (λ (l : List ℕ). drop 8 l) (from_word q (omega arith) ∙ behind q lt)
      ∙ drop_at (word m q) (concat (drop (q + 1) m)) 8 eight
      ∙ ap (λ (n : ℕ). concat (drop n m)) one

  in_word : (q skip count : ℕ) → q < length m → skip + count ≤ 8 → take count (drop skip (word m q)) ≡ take count (drop (8 * q + skip) (flat m))
  in_word q skip count lt few =
      let eight : length (word m q) ≡ 8 = image.words q lt in
      let left : length (drop skip (word m q)) ≡ length (word m q) - skip = length-drop skip (word m q) in
      sym (
      ap (λ (l : List ℕ). take count l) (sym (drop-drop skip (8 * q) (flat m)) ∙ ap (λ (l : List ℕ). drop skip l) (from_word q (omega arith) ∙ behind q lt) ∙ drop-append-le skip (word m q) (concat (drop (q + 1) m)) (omega (arith, eight)))
      ∙ take-append-le count (drop skip (word m q)) (concat (drop (q + 1) m)) (omega (arith, eight, left))
      )

  -- bytes of one word, put after those that were copied before
  pub word_put : (base a q skip count : ℕ) (into ys : List ℕ) → a ≤ length into → 8 * q + skip ≡ base + a → skip + count ≤ 8 → q < length m → ys ≡ take count (drop skip (word m q)) → length ys ≡ count
      → take a into ≡ take a (drop base (flat m)) → take (a + count) (put_mid a count into ys) ≡ take (a + count) (drop base (flat m))
  word_put base a q skip count into ys low at few lt is size before = grind (arith, take-put_mid, in_word, drop-drop, take_sum)

  -- that, in the form of the loop
  pub record WordPut (base a count : ℕ) (into new : List ℕ) : Type 0 where
    pub size : length new ≡ length into
    pub bytes : take (a + count) new ≡ take (a + count) (drop base (flat m))

  pub word_step : (base a q skip count : ℕ) (into ys : List ℕ) → a + count ≤ length into → 8 * q + skip ≡ base + a → skip + count ≤ 8 → q < length m → ys ≡ take ((skip + count) - skip) (drop skip (word m q))
      → take a into ≡ take a (drop base (flat m)) → WordPut base a count into (put_mid a ((a + count) - a) into ys)
  word_step base a q skip count into ys low at few lt is before =
      let k : (a + count) - a ≡ count = omega arith in
      let d : (skip + count) - skip ≡ count = omega arith in
      let eight : length (word m q) ≡ 8 = image.words q lt in
      let left : length (drop skip (word m q)) ≡ length (word m q) - skip = length-drop skip (word m q) in
      let piece : ys ≡ take count (drop skip (word m q)) = is ∙ ap (λ (n : ℕ). take n (drop skip (word m q))) d in
      let size : length ys ≡ count = ap length piece ∙ length-take-le count (drop skip (word m q)) (omega (arith, left, eight, few)) in
      let all : put_mid a count into ys ≡ take a into ++ ys ++ drop (a + count) into =
      put_mid-paste a count into ys ys count refl refl (sym size) ∙ ap (λ (l : List ℕ). take a into ++ l ++ drop (a + count) into) (take_all count ys (omega (arith, size))) in
      let front : length (take a into) ≡ a = length-take-le a into (omega (arith, low)) in
      let rest : length (drop (a + count) into) ≡ length into - (a + count) = length-drop (a + count) into in
      let long : length (put_mid a count into ys) ≡ length into =
      ap length all ∙ length-append (take a into ++ ys) (drop (a + count) into) ∙ omega (arith, length-append (take a into) ys, front, rest, size, low) in
      subst (λ (n : ℕ). WordPut base a count into (put_mid a n into ys)) (sym k)
      (record { size = long; bytes = word_put base a q skip count into ys (omega (arith, low)) at few lt piece size before })

  -- the bytes that two words begin with, of which the second is the device's if they reach it
  pub in_pair : (q skip count : ℕ) (second : List ℕ) → q < length m → skip < 8 → count < 8 → 8 * q + skip + count ≤ 8 * length m → (8 < skip + count → second ≡ word m (q + 1))
      → take count (drop skip (word m q ++ (second ++ []))) ≡ take count (drop (8 * q + skip) (flat m))
  in_pair q skip count second lt low few room is =
      elim (cases_lt 8 (skip + count)) [
        | inr near ↦
            let eight : length (word m q) ≡ 8 = image.words q lt in
            let left : length (drop skip (word m q)) ≡ length (word m q) - skip = length-drop skip (word m q) in
            ap (λ (l : List ℕ). take count l) (drop-append-le skip (word m q) (second ++ []) (omega (arith, eight, low)))
            ∙ take-append-le count (drop skip (word m q)) (second ++ []) (omega (arith, eight, left, near))
            ∙ in_word q skip count lt near
        | inl far ↦
            let next : q + 1 < length m = omega (arith, room, far) in
            let x = word m q in
            let y = word m (q + 1) in
            let rest = concat (drop (q + 1 + 1) m) in
            let eight : length x ≡ 8 = image.words q lt in
            let more : length y ≡ 8 = image.words (q + 1) next in
            let both : length (x ++ y) ≡ length x + length y = length-append x y in
            let left : length (drop skip (x ++ y)) ≡ length (x ++ y) - skip = length-drop skip (x ++ y) in
            let words : concat (drop q m) ≡ (x ++ y) ++ rest = behind q lt ∙ ap (λ (l : List ℕ). x ++ l) (behind (q + 1) next) ∙ sym (append_assoc x y rest) in
            let all : take count (drop (8 * q + skip) (flat m)) ≡ take count (drop skip (x ++ y)) =
            ap (λ (l : List ℕ). take count l) (sym (drop-drop skip (8 * q) (flat m)) ∙ ap (λ (l : List ℕ). drop skip l) (from_word q (omega (arith, lt)) ∙ words) ∙ drop-append-le skip (x ++ y) rest (omega (arith, both, eight, more, low)))
            ∙ take-append-le count (drop skip (x ++ y)) rest (omega (arith, both, eight, more, left, low, few)) in
            ap (λ (l : List ℕ). take count (drop skip (x ++ l))) (append-nil second ∙ is far) ∙ sym all
      ]

  -- a section as a part of all bytes
  section_flat : (q n : ℕ) → q + up n 8 ≤ length m → section m q n ≡ take n (drop (8 * q) (flat m))
  section_flat q n h =
      let k = up n 8 in
      let l = drop q m in
      let whole : length (cells m q k) ≡ 8 * k = length_cells m k q image h in
      let enough : n ≤ 8 * k = omega arith in
      let parts : concat l ≡ concat (take k l) ++ concat (drop k l) = ap concat (sym (take-append-drop k l)) ∙ concat-append (take k l) (drop k l) in
      sym (
      ap (λ (x : List ℕ). take n x) (from_word q (omega arith) ∙ parts)
      ∙ take-append-le n (cells m q k) (concat (drop k l)) (omega (arith, whole, enough))
      )

  -- and bytes of it
  pub section_bytes : (q n at count : ℕ) → q + up n 8 ≤ length m → at + count ≤ n → take count (drop (8 * q + at) (flat m)) ≡ take count (drop at (section m q n))
  section_bytes q n at count h few =
      let x = drop (8 * q) (flat m) in
      let split : n ≡ at + (n - at) = omega arith in
      sym (
      ap (λ (l : List ℕ). take count (drop at l)) (section_flat q n h)
      ∙ ap (λ (k : ℕ). take count (drop at (take k x))) split
      ∙ ap (λ (l : List ℕ). take count l) (drop-take at (n - at) x)
      ∙ take-take count (n - at) (drop at x) (omega arith)
      ∙ ap (λ (l : List ℕ). take count l) (drop-drop at (8 * q) (flat m))
      )
