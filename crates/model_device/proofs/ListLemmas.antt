-- Lists and numbers: bytes spliced into a list, the bytes of numbers, and what std's lemmas on lists leave out.
use Rattle.std.proofs.Common.{◌≡◌, ℕ, zero, suc, ◌+◌, ◌*◌, ◌/◌, ◌%◌, ◌^◌, ◌<◌, ◌≤◌, ◌⊎◌, inl, inr, false, List, [], ◌∷◌, ◌++◌, length, take, drop, get_or, refl, ap, ◌∙◌, arith, Fits, w8}
use Rattle.std.specs.Prelude.{map, nat_eq}
use Rattle.std.specs.Int.Bits.{bit_xor}
use Rattle.std.proofs.lemmas.Bool.{cases_lt}
use Rattle.std.proofs.lemmas.Nat.{xor_shr, xor_mod}
use Rattle.std.proofs.lemmas.List.{append-nil, take-append-drop, length-append, length-take, length-drop, length-replicate}
use Rattle.model_device.specs.Bytes.{AreBytes, zeros, bytes2, bytes, splice}

-- ---- bytes spliced in

-- bytes written within a list keep its length
pub length_splice : (l : List ℕ) (at : ℕ) (b : List ℕ) → at + length b ≤ length l → length (splice l at b) ≡ length l
length_splice l at b fits =
    omega (arith, length-append (take at l ++ b) (drop (at + length b) l), length-append (take at l) b, length-take at l, length-drop (at + length b) l)

-- bytes written never make a list shorter
pub splice_longer : (l : List ℕ) (at : ℕ) (b : List ℕ) → length l ≤ length (splice l at b)
splice_longer l at b =
    omega (arith, length-append (take at l ++ b) (drop (at + length b) l), length-append (take at l) b, length-take at l, length-drop (at + length b) l)

-- no bytes written change nothing
pub splice_none : (l : List ℕ) (at : ℕ) → splice l at [] ≡ l
splice_none l at = grind (arith, append-nil, take-append-drop)

-- ---- lists

-- a list whose elements are changed one by one
pub length_map : {A B : Type 0} (f : A → B) (xs : List A) → length (map f xs) ≡ length xs
length_map f [] = refl
length_map f (x ∷ xs) = ap suc (length_map f xs)

-- a list of no elements has nothing after its first n
pub drop_none : (n : ℕ) → drop {A = ℕ} n [] ≡ []
drop_none zero = refl
drop_none (suc n) = refl

-- a list whose length is not 0
pub some_bytes : (l : List ℕ) → nat_eq (length l) 0 ≡ false → 0 < length l
some_bytes [] none = absurd (cc none)
some_bytes (x ∷ xs) none = omega arith

-- ---- bytes of numbers

-- a number below 65,536 by its two bytes
pub two_bytes : (n : ℕ) → n < 65536 → 256 * (n / 256 % 256) + n % 256 ≡ n
two_bytes n h = omega arith

pub pair_bytes : (n : ℕ) → AreBytes (bytes2 n)
pair_bytes n = (omega arith, (omega arith, tt))

pub length_bytes : (n v : ℕ) → length (bytes n v) ≡ n
length_bytes zero v = refl
length_bytes (suc n) v = ap suc (length_bytes n v)

pub zeros_short : (n : ℕ) → length (zeros n) ≤ n
zeros_short n = omega (arith, length-replicate {A = ℕ} n 0)

-- elements that fit a byte each are bytes
pub all_bytes : (l : List ℕ) → ((i : ℕ) → Fits w8 (get_or l i 0)) → AreBytes l
all_bytes [] h = tt
all_bytes (b ∷ l) h = (omega (arith, h 0), all_bytes l (λ i. h (suc i)))

pub bytes_from : (l : List ℕ) (i : ℕ) → AreBytes l → AreBytes (drop i l)
bytes_from l zero h = h
bytes_from [] (suc i) h = tt
bytes_from (b ∷ l) (suc i) h = bytes_from l i h.1

-- ---- bits

-- the byte above k bits of a sum of two
pub byte_xor : (a b k : ℕ) → bit_xor a b / 2 ^ k % 256 ≡ bit_xor (a / 2 ^ k % 256) (b / 2 ^ k % 256)
byte_xor a b k = ap (λ (x : ℕ). x % 256) (xor_shr a b k) ∙ xor_mod (a / 2 ^ k) (b / 2 ^ k) 8

pub bit_cases : (p : ℕ) → p < 2 → (p ≡ 0) ⊎ (p ≡ 1)
bit_cases p h = elim (cases_lt p 1) [ inl low ↦ inl (omega arith) | inr high ↦ inr (omega arith) ]
