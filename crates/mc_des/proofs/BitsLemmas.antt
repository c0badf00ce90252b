-- Lists of bits: sums, parts, and selections that are tabulated by nibbles.
use Rattle.std.proofs.Common.{◌≡◌, ℕ, zero, suc, ◌+◌, ◌-◌, ◌*◌, ◌/◌, ◌%◌, ◌^◌, ◌<◌, ◌≤◌, List, [], ◌∷◌, ◌++◌, length, get_or, refl, sym, ap, ◌∙◌, arith, zero-add, length-append, append_assoc}
use Rattle.std.specs.Int.Bits.{bit_xor, xor_zero_r}
use Rattle.std.proofs.Math.Nat.{div-div-eq-div-mul}
use Rattle.std.proofs.lemmas.Nat.{xor_shr, xor_mod, pow-add}
use Rattle.std.proofs.lemmas.List.{length-replicate, append-nil}
use Rattle.model_machine.specs.model_device.specs.Bytes.{zeros}
use Rattle.model_machine.specs.Modes.{bit_sum}
use Rattle.model_machine.specs.Des.{bits, pick}
use Rattle.mc_des.specs.Words.{alone, key_bits}

-- ---- bits of numbers

bit_xor_at : (a b k : ℕ) → bit_xor a b / 2 ^ k % 2 ≡ bit_xor (a / 2 ^ k % 2) (b / 2 ^ k % 2)
bit_xor_at a b k = ap (λ (x : ℕ). x % 2) (xor_shr a b k) ∙ xor_mod (a / 2 ^ k) (b / 2 ^ k) 1

pub bits_xor : (n a b : ℕ) → bits n (bit_xor a b) ≡ bit_sum (bits n a) (bits n b)
unfolding bits
bits_xor zero a b = refl
bits_xor (suc n) a b =
    ap (λ (x : ℕ). x ∷ bits n (bit_xor a b)) (bit_xor_at a b n)
    ∙ ap (λ (l : List ℕ). bit_xor (a / 2 ^ n % 2) (b / 2 ^ n % 2) ∷ l) (bits_xor n a b)

pub length_bits : (n a : ℕ) → length (bits n a) ≡ n
unfolding bits
length_bits zero a = refl
length_bits (suc n) a = ap suc (length_bits n a)

-- the bits of a number in two parts
pub bits_cat : (a b v : ℕ) → bits (a + b) v ≡ bits a (v / 2 ^ b) ++ bits b v
unfolding bits
bits_cat zero b v = ap (λ (n : ℕ). bits n v) (zero-add b)
bits_cat (suc a) b v =
    let more : suc a + b ≡ suc (a + b) = omega arith in
    let order : a + b ≡ b + a = omega arith in
    let place : v / 2 ^ (a + b) ≡ v / 2 ^ b / 2 ^ a =
    ap (λ (n : ℕ). v / 2 ^ n) order ∙ ap (λ (n : ℕ). v / n) (pow-add 2 b a) ∙ sym (div-div-eq-div-mul v (2 ^ b) (2 ^ a)) in
    ap (λ (n : ℕ). bits n v) more
    ∙ ap (λ (x : ℕ). x % 2 ∷ bits (a + b) v) place
    ∙ ap (λ (l : List ℕ). v / 2 ^ b / 2 ^ a % 2 ∷ l) (bits_cat a b v)

pub bits4_mod : (v : ℕ) → bits 4 (v % 16) ≡ bits 4 v
unfolding bits
bits4_mod v =
    let e3 : v % 16 / 2 ^ 3 % 2 ≡ v / 2 ^ 3 % 2 = omega arith in
    let e2 : v % 16 / 2 ^ 2 % 2 ≡ v / 2 ^ 2 % 2 = omega arith in
    let e1 : v % 16 / 2 ^ 1 % 2 ≡ v / 2 ^ 1 % 2 = omega arith in
    let e0 : v % 16 / 2 ^ 0 % 2 ≡ v / 2 ^ 0 % 2 = omega arith in
    rw (e3, e2, e1, e0) refl

pub bits6_mod : (v : ℕ) → bits 6 (v % 64) ≡ bits 6 v
unfolding bits
bits6_mod v =
    let e5 : v % 64 / 2 ^ 5 % 2 ≡ v / 2 ^ 5 % 2 = omega arith in
    let e4 : v % 64 / 2 ^ 4 % 2 ≡ v / 2 ^ 4 % 2 = omega arith in
    let e3 : v % 64 / 2 ^ 3 % 2 ≡ v / 2 ^ 3 % 2 = omega arith in
    let e2 : v % 64 / 2 ^ 2 % 2 ≡ v / 2 ^ 2 % 2 = omega arith in
    let e1 : v % 64 / 2 ^ 1 % 2 ≡ v / 2 ^ 1 % 2 = omega arith in
    let e0 : v % 64 / 2 ^ 0 % 2 ≡ v / 2 ^ 0 % 2 = omega arith in
    rw (e5, e4, e3, e2, e1, e0) refl

eights : (p0 p1 p2 p3 p4 p5 p6 p7 q0 q1 q2 q3 q4 q5 q6 q7 : ℕ) → bit_sum (bits 6 p0) (bits 6 q0) ++ bit_sum (bits 6 p1) (bits 6 q1) ++ bit_sum (bits 6 p2) (bits 6 q2) ++ bit_sum (bits 6 p3) (bits 6 q3) ++ bit_sum (bits 6 p4) (bits 6 q4) ++ bit_sum (bits 6 p5) (bits 6 q5) ++ bit_sum (bits 6 p6) (bits 6 q6) ++ bit_sum (bits 6 p7) (bits 6 q7)
    ≡ bit_sum (bits 6 p0 ++ bits 6 p1 ++ bits 6 p2 ++ bits 6 p3 ++ bits 6 p4 ++ bits 6 p5 ++ bits 6 p6 ++ bits 6 p7) (bits 6 q0 ++ bits 6 q1 ++ bits 6 q2 ++ bits 6 q3 ++ bits 6 q4 ++ bits 6 q5 ++ bits 6 q6 ++ bits 6 q7)
unfolding bits
eights p0 p1 p2 p3 p4 p5 p6 p7 q0 q1 q2 q3 q4 q5 q6 q7 = refl

pub key_bits_xor : (a b : ℕ) → key_bits (bit_xor a b) ≡ bit_sum (key_bits a) (key_bits b)
unfolding key_bits
key_bits_xor a b =
    rw (
      xor_shr a b 32,
      xor_shr a b 56,
      xor_shr a b 24,
      xor_shr a b 48,
      xor_shr a b 16,
      xor_shr a b 40,
      xor_shr a b 8,
      bits_xor 6 (a / 2 ^ 32) (b / 2 ^ 32),
      bits_xor 6 a b,
      bits_xor 6 (a / 2 ^ 56) (b / 2 ^ 56),
      bits_xor 6 (a / 2 ^ 24) (b / 2 ^ 24),
      bits_xor 6 (a / 2 ^ 48) (b / 2 ^ 48),
      bits_xor 6 (a / 2 ^ 16) (b / 2 ^ 16),
      bits_xor 6 (a / 2 ^ 40) (b / 2 ^ 40),
      bits_xor 6 (a / 2 ^ 8) (b / 2 ^ 8),
    )
    (eights (a / 2 ^ 32) a (a / 2 ^ 56) (a / 2 ^ 24) (a / 2 ^ 48) (a / 2 ^ 16) (a / 2 ^ 40) (a / 2 ^ 8) (b / 2 ^ 32) b (b / 2 ^ 56) (b / 2 ^ 24) (b / 2 ^ 48) (b / 2 ^ 16) (b / 2 ^ 40) (b / 2 ^ 8))

-- ---- sums of lists and of selections

get_or_added : (xs ys : List ℕ) (k : ℕ) → length xs ≡ length ys → get_or (bit_sum xs ys) k 0 ≡ bit_xor (get_or xs k 0) (get_or ys k 0)
get_or_added [] [] k h = refl
get_or_added [] (y ∷ ys) k h = absurd (cc)
get_or_added (x ∷ xs) [] k h = absurd (cc)
get_or_added (x ∷ xs) (y ∷ ys) zero h = refl
get_or_added (x ∷ xs) (y ∷ ys) (suc k) h = get_or_added xs ys k (omega arith)

pub pick_added : (ts xs ys : List ℕ) → length xs ≡ length ys → pick ts (bit_sum xs ys) ≡ bit_sum (pick ts xs) (pick ts ys)
unfolding pick
pick_added [] xs ys h = refl
pick_added (t ∷ ts) xs ys h =
    ap (λ (x : ℕ). x ∷ pick ts (bit_sum xs ys)) (get_or_added xs ys (t - 1) h)
    ∙ ap (λ (l : List ℕ). bit_xor (get_or xs (t - 1) 0) (get_or ys (t - 1) 0) ∷ l) (pick_added ts xs ys h)

pub length_pick : (ts xs : List ℕ) → length (pick ts xs) ≡ length ts
unfolding pick
length_pick [] xs = refl
length_pick (t ∷ ts) xs = ap suc (length_pick ts xs)

zeros_added : (ys : List ℕ) → bit_sum (zeros (length ys)) ys ≡ ys
zeros_added [] = refl
zeros_added (y ∷ ys) = ap (λ (l : List ℕ). y ∷ l) (zeros_added ys)

-- the sum of two parts that do not overlap
pub added_apart : (xs ys : List ℕ) → bit_sum (xs ++ zeros (length ys)) (zeros (length xs) ++ ys) ≡ xs ++ ys
added_apart [] ys = zeros_added ys
added_apart (x ∷ xs) ys =
    ap (λ (a : ℕ). a ∷ bit_sum (xs ++ zeros (length ys)) (zeros (length xs) ++ ys)) (xor_zero_r x)
    ∙ ap (λ (l : List ℕ). x ∷ l) (added_apart xs ys)

-- ---- a selection tabulated by nibbles

module _ (form : ℕ → List ℕ) (linear : (a b : ℕ) → form (bit_xor a b) ≡ bit_sum (form a) (form b)) (ts : List ℕ) where
  -- one more part of a selection
  pub pick_step : (front part : List ℕ) (w v m r : ℕ) → form w ≡ pick ts (front ++ zeros m) → form v ≡ pick ts (zeros (length front) ++ (part ++ zeros r))
      → m ≡ length part + r → form (bit_xor w v) ≡ pick ts (front ++ (part ++ zeros r))
  pick_step front part w v m r ew ev em =
      let tail : List ℕ = part ++ zeros r in
      let size : m ≡ length tail = em ∙ sym (length-append part (zeros r) ∙ ap (λ (n : ℕ). length part + n) (length-replicate r 0)) in
      let first : form w ≡ pick ts (front ++ zeros (length tail)) = ew ∙ ap (λ (n : ℕ). pick ts (front ++ zeros n)) size in
      let even : length (front ++ zeros (length tail)) ≡ length (zeros (length front) ++ tail) =
      length-append front (zeros (length tail)) ∙ ap (λ (n : ℕ). length front + n) (length-replicate (length tail) 0)
      ∙ sym (length-append (zeros (length front)) tail ∙ ap (λ (n : ℕ). n + length tail) (length-replicate (length front) 0)) in
      linear w v ∙ ap (λ (l : List ℕ). bit_sum l (form v)) first ∙ ap (bit_sum (pick ts (front ++ zeros (length tail)))) ev
      ∙ sym (pick_added ts (front ++ zeros (length tail)) (zeros (length front) ++ tail) even) ∙ ap (pick ts) (added_apart front tail)

  -- one more nibble of a number of n nibbles
  pub fours_step : (n i x w v q : ℕ) → i < n → form w ≡ pick ts (bits (4 * i) (x / 2 ^ (4 * (n - i))) ++ zeros (4 * (n - i)))
      → q ≡ x / 2 ^ (4 * (n - 1 - i)) % 16 → form v ≡ pick ts (alone n i q)
      → form (bit_xor w v) ≡ pick ts (bits (4 * (i + 1)) (x / 2 ^ (4 * (n - (i + 1)))) ++ zeros (4 * (n - (i + 1))))
  fours_step n i x w v q h ew eq ev =
      let r : ℕ = 4 * (n - 1 - i) in
      let rest : 4 * (n - (i + 1)) ≡ r = omega arith in
      let all : 4 * (n - i) ≡ r + 4 = omega arith in
      let more : 4 * (i + 1) ≡ 4 * i + 4 = omega arith in
      let y : ℕ = x / 2 ^ r in
      let high : x / 2 ^ (4 * (n - i)) ≡ y / 2 ^ 4 =
      ap (λ (k : ℕ). x / 2 ^ k) all ∙ ap (λ (k : ℕ). x / k) (pow-add 2 r 4) ∙ sym (div-div-eq-div-mul x (2 ^ r) (2 ^ 4)) in
      let front : List ℕ = bits (4 * i) (y / 2 ^ 4) in
      let part : List ℕ = bits 4 y in
      let four : bits 4 q ≡ part = ap (bits 4) eq ∙ bits4_mod y in
      let size : length front ≡ 4 * i = length_bits (4 * i) (y / 2 ^ 4) in
      let before : form w ≡ pick ts (front ++ zeros (4 * (n - i))) = ew ∙ ap (λ (k : ℕ). pick ts (bits (4 * i) k ++ zeros (4 * (n - i)))) high in
      let this : form v ≡ pick ts (zeros (length front) ++ (part ++ zeros r)) =
      ev ∙ ap (λ (l : List ℕ). pick ts (zeros (4 * i) ++ (l ++ zeros r))) four ∙ ap (λ (k : ℕ). pick ts (zeros k ++ (part ++ zeros r))) (sym size) in
      let len : length part ≡ 4 = length_bits 4 y in
      let step : form (bit_xor w v) ≡ pick ts (front ++ (part ++ zeros r)) = pick_step front part w v (4 * (n - i)) r before this (omega arith) in
      let joined : front ++ part ≡ bits (4 * i + 4) y = sym (bits_cat (4 * i) 4 y) in
      step ∙ ap (pick ts) (sym (append_assoc front part (zeros r))) ∙ ap (λ (l : List ℕ). pick ts (l ++ zeros r)) joined
      ∙ ap (λ (k : ℕ). pick ts (bits k y ++ zeros r)) (sym more)
      ∙ ap (λ (k : ℕ). pick ts (bits (4 * (i + 1)) (x / 2 ^ k) ++ zeros k)) (sym rest)

  -- before the first nibble
  pub fours_none : (n x : ℕ) (none : form 0 ≡ pick ts (zeros (4 * n))) → form 0 ≡ pick ts (bits 0 x ++ zeros (4 * n))
  unfolding bits
  fours_none n x none = none

  -- after the last nibble
  pub fours_all : (n i x w : ℕ) → n ≤ i → i ≤ n → form w ≡ pick ts (bits (4 * i) (x / 2 ^ (4 * (n - i))) ++ zeros (4 * (n - i))) → form w ≡ pick ts (bits (4 * n) x)
  fours_all n i x w low high e =
      let last : i ≡ n = omega arith in
      let none : 4 * (n - i) ≡ 0 = omega arith in
      let whole : x / 2 ^ 0 ≡ x = omega arith in
      e ∙ ap (λ (k : ℕ). pick ts (bits (4 * i) (x / 2 ^ k) ++ zeros k)) none ∙ ap (pick ts) (append-nil (bits (4 * i) (x / 2 ^ 0)))
      ∙ ap (λ (k : ℕ). pick ts (bits (4 * i) k)) whole ∙ ap (λ (k : ℕ). pick ts (bits (4 * k) x)) last
