-- Blocks of four bytes, whose bytes are read and set one by one.
use Rattle.std.proofs.Common.{◌≡◌, ◌+◌, ◌*◌, ◌^◌, ℕ, List, [], ◌∷◌, length, slice_index_or, slice_set, refl, sym, subst}
use Rattle.law_rows.specs.model_device.specs.Bytes.{num}

-- a block of four bytes, byte by byte
abbrev bytes_of_four : List ℕ → List ℕ
bytes_of_four a = slice_index_or a 0 0 ∷ slice_index_or a 1 0 ∷ slice_index_or a 2 0 ∷ slice_index_or a 3 0 ∷ []

-- a block whose four bytes are set one after the other
abbrev set_four : List ℕ → List ℕ → List ℕ
set_four a s = slice_set (slice_set (slice_set (slice_set a 0 (slice_index_or s 0 0)) 1 (slice_index_or s 1 0)) 2 (slice_index_or s 2 0)) 3 (slice_index_or s 3 0)

bytes_are : (a : List ℕ) → length a ≡ 4 → bytes_of_four a ≡ a
bytes_are [] h = absurd (cc h)
bytes_are (a ∷ []) h = absurd (cc h)
bytes_are (a ∷ b ∷ []) h = absurd (cc h)
bytes_are (a ∷ b ∷ c ∷ []) h = absurd (cc h)
bytes_are (a ∷ b ∷ c ∷ d ∷ []) h = refl
bytes_are (a ∷ b ∷ c ∷ d ∷ x ∷ xs) h = absurd (cc h)

set_as : (a s : List ℕ) → length a ≡ 4 → set_four a s ≡ bytes_of_four s
set_as [] s h = absurd (cc h)
set_as (a ∷ []) s h = absurd (cc h)
set_as (a ∷ b ∷ []) s h = absurd (cc h)
set_as (a ∷ b ∷ c ∷ []) s h = absurd (cc h)
set_as (a ∷ b ∷ c ∷ d ∷ []) s h = refl
set_as (a ∷ b ∷ c ∷ d ∷ x ∷ xs) s h = absurd (cc h)

-- what holds of the bytes of two blocks and a third one holds of the blocks, when the first has become the third
set_to : (P : List ℕ → List ℕ → List ℕ → Type 0) (a b s : List ℕ) → length a ≡ 4 → length b ≡ 4 → length s ≡ 4 → P s (bytes_of_four a) (bytes_of_four b) → P (set_four a s) a b
set_to P a b s ha hb hs h =
    let set = sym (bytes_are s hs) in
    let p1 = subst (λ (x : List ℕ). P x (bytes_of_four a) (bytes_of_four b)) set h in
    let p2 = subst (λ (x : List ℕ). P x (bytes_of_four a) (bytes_of_four b)) (sym (set_as a s ha)) p1 in
    let p3 = subst (λ (x : List ℕ). P (set_four a s) x (bytes_of_four b)) (bytes_are a ha) p2 in
    subst (λ (x : List ℕ). P (set_four a s) a x) (bytes_are b hb) p3

pub sum_set : (a b s : List ℕ) (k : ℕ) → length a ≡ 4 → length b ≡ 4 → length s ≡ 4 → num s + k * 256 ^ 4 ≡ num (bytes_of_four a) + num (bytes_of_four b) → num (set_four a s) + k * 256 ^ length a ≡ num a + num b
sum_set a b s k ha hb hs h =
    subst (λ (n : ℕ). num (set_four a s) + k * 256 ^ n ≡ num a + num b) (sym ha) (set_to (λ s a b. num s + k * 256 ^ 4 ≡ num a + num b) a b s ha hb hs h)

pub difference_set : (a b s : List ℕ) (k : ℕ) → length a ≡ 4 → length b ≡ 4 → length s ≡ 4 → num s + num (bytes_of_four b) ≡ num (bytes_of_four a) + k * 256 ^ 4 → num (set_four a s) + num b ≡ num a + k * 256 ^ length a
difference_set a b s k ha hb hs h =
    subst (λ (n : ℕ). num (set_four a s) + num b ≡ num a + k * 256 ^ n) (sym ha) (set_to (λ s a b. num s + num b ≡ num a + k * 256 ^ 4) a b s ha hb hs h)
