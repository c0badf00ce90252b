-- Windows of lists: n elements from a place on, one by one, and what a splice leaves of them.
use Rattle.std.proofs.Common.{◌≡◌, ℕ, zero, suc, ◌+◌, ◌<◌, ◌≤◌, ◌⊎◌, List, [], ◌∷◌, length, take, drop, refl, sym, ap, ◌∙◌, arith}
use Rattle.std.specs.Prelude.{slice_index}
use Rattle.std.proofs.lemmas.List.{length-append, length-take-le, get_or-drop, get_or-append_right, get_or_append_left, get_or-take}
use Rattle.model_prove.specs.model_device.specs.Bytes.{splice}

-- n bytes from a place on
abbrev pub window : List ℕ → ℕ → ℕ → List ℕ
window l i zero = []
window l i (suc n) = slice_index l i ∷ window l (suc i) n

-- the k-th element of a window is that of the list k further on
pub window_at : (l : List ℕ) (i n k : ℕ) → k < n → slice_index (window l i n) k ≡ slice_index l (i + k)
window_at l i zero k h = absurd (omega (arith, h))
window_at l i (suc n) zero h = let e : i ≡ i + 0 = omega arith in ap (λ (j : ℕ). slice_index l j) e
window_at l i (suc n) (suc k) h = window_at l (suc i) n k (omega (arith, h)) ∙ ap (λ (j : ℕ). slice_index l j) (omega arith)

-- bytes that are the same one by one
pub windows_same : (l m : List ℕ) (i j n : ℕ) → ((k : ℕ) → k < n → slice_index l (i + k) ≡ slice_index m (j + k)) → window l i n ≡ window m j n
windows_same l m i j zero same = refl
windows_same l m i j (suc n) same =
    let a : i ≡ i + 0 = omega arith in
    let b : j + 0 ≡ j = omega arith in
    let first : slice_index l i ≡ slice_index m j = ap (λ (x : ℕ). slice_index l x) a ∙ (same 0 (omega arith) ∙ ap (λ (x : ℕ). slice_index m x) b) in
    let rest : window l (suc i) n ≡ window m (suc j) n =
    windows_same l m (suc i) (suc j) n (λ k low.
    let c : suc i + k ≡ i + suc k = omega arith in
    let d : j + suc k ≡ suc j + k = omega arith in
    ap (λ (x : ℕ). slice_index l x) c ∙ (same (suc k) (omega (arith, low)) ∙ ap (λ (x : ℕ). slice_index m x) d))
    in
    ap (λ (x : ℕ). x ∷ window l (suc i) n) first ∙ ap (λ (t : List ℕ). slice_index m j ∷ t) rest

window_next : (x : ℕ) (l : List ℕ) (i n : ℕ) → window (x ∷ l) (suc i) n ≡ window l i n
window_next x l i zero = refl
window_next x l i (suc n) = ap (λ (t : List ℕ). slice_index l i ∷ t) (window_next x l (suc i) n)

-- what is taken after some bytes were left out is a window
pub taken_is : (l : List ℕ) (i n : ℕ) → i + n ≤ length l → take n (drop i l) ≡ window l i n
taken_is [] zero zero h = refl
taken_is [] zero (suc n) h = absurd (omega (arith, h))
taken_is [] (suc i) n h = absurd (omega (arith, h))
taken_is (x ∷ l) zero zero h = refl
taken_is (x ∷ l) zero (suc n) h = ap (λ (t : List ℕ). x ∷ t) (taken_is l 0 n (omega (arith, h)) ∙ sym (window_next x l 0 n))
taken_is (x ∷ l) (suc i) n h = taken_is l i n (omega (arith, h)) ∙ sym (window_next x l i n)

-- ---- splices

-- an element after what was written stays
pub index_after : (l : List ℕ) (at : ℕ) (b : List ℕ) (i : ℕ) → at ≤ length l → at + length b ≤ i → slice_index (splice l at b) i ≡ slice_index l i
index_after l at b i fits h = grind (arith, length-append, length-take-le, get_or-append_right, get_or-drop)

-- an element within what was written is the written one
pub index_within : (l : List ℕ) (at : ℕ) (b : List ℕ) (k : ℕ) → at ≤ length l → k < length b → slice_index (splice l at b) (at + k) ≡ slice_index b k
index_within l at b k fits h = grind (arith, length-append, length-take-le, get_or_append_left, get_or-append_right)

-- an element before what was written stays
pub index_before : (l : List ℕ) (at : ℕ) (b : List ℕ) (i : ℕ) → at ≤ length l → i < at → slice_index (splice l at b) i ≡ slice_index l i
index_before l at b i fits h = grind (arith, length-append, length-take-le, get_or_append_left, get_or-take)

-- a byte beside what was written
pub index_beside : (l : List ℕ) (at : ℕ) (b : List ℕ) (i : ℕ) → at ≤ length l → (i < at) ⊎ (at + length b ≤ i) → slice_index (splice l at b) i ≡ slice_index l i
index_beside l at b i fits o = grind (arith, index_before, index_after)
