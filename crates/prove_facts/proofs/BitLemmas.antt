-- Bits of four words: of unions, of what sets have in common, of complements, of one value and of those below a number.
use Rattle.std.specs.Prelude.{◌≡◌, ◌≢◌, ℕ, ◌+◌, ◌-◌, ◌*◌, ◌/◌, ◌%◌, ◌^◌, ◌<◌, ◌≤◌, min, max, Bool, true, false, not, ◌&&◌, ◌||◌, nat_lt, nat_le, ◌==◌, List, [], ◌∷◌, get_or, bit_and, bit_or, refl}
use Rattle.std.specs.Int.{bit_at, bit_not, w64}
use Rattle.std.proofs.Common.{arith, ap, sym, ◌∙◌, inl, inr}
use Rattle.std.proofs.lemmas.Bool.{eq-eqb, ne_eqb, lt-ltb, le-ltb, le-leb, lt-leb, cases_lt, cases_eq}
use Rattle.std.proofs.lemmas.Nat.Bits.{bit_at_and, bit_at_or, bit_at_not, bit_at-lt, bit_at-zero, bit_at_ones, bit_at_ones_above, bit_at-pow_same, bit_at-pow_other, shr_and_one, same_from_bits_below}
use Rattle.std.proofs.lemmas.Nat.{le_or_l, le_or_r, one_shl}
use Rattle.prove_facts.specs.Sets.{has_bit}

-- four words one by one
pub each_word : (P : ℕ → Type 0) → P 0 → P 1 → P 2 → P 3 → (k : ℕ) → k < 4 → P k
each_word h a b c d k h6 = grind arith

-- a word of a value of a byte
pub is_word : (v : ℕ) → v < 256 → v / 64 < 4
is_word v h = omega arith

-- ---- one bit

or_by : (x y z : ℕ) → x < 2 → y < 2 → z ≡ max x y → (z == 1) ≡ (x == 1) || (y == 1)
or_by x y z h k e = grind arith

and_by : (x y z : ℕ) → x < 2 → y < 2 → z ≡ min x y → (z == 1) ≡ (x == 1) && (y == 1)
and_by x y z h k e = grind arith

not_by : (x z : ℕ) → x < 2 → z ≡ 1 - x → (z == 1) ≡ not (x == 1)
not_by x z h e = grind arith

pub or_bit : (a b i : ℕ) → (bit_at (bit_or a b) i == 1) ≡ (bit_at a i == 1) || (bit_at b i == 1)
or_bit a b i = or_by (bit_at a i) (bit_at b i) (bit_at (bit_or a b) i) (bit_at-lt a i) (bit_at-lt b i) (bit_at_or a b i)

and_bit : (a b i : ℕ) → (bit_at (bit_and a b) i == 1) ≡ (bit_at a i == 1) && (bit_at b i == 1)
and_bit a b i = and_by (bit_at a i) (bit_at b i) (bit_at (bit_and a b) i) (bit_at-lt a i) (bit_at-lt b i) (bit_at_and a b i)

-- ---- four words

-- a value of a union
pub or_words : (xs ys : List ℕ) (v : ℕ) → v < 256
    → has_bit (bit_or (get_or xs 0 0) (get_or ys 0 0) ∷ bit_or (get_or xs 1 0) (get_or ys 1 0) ∷ bit_or (get_or xs 2 0) (get_or ys 2 0) ∷ bit_or (get_or xs 3 0) (get_or ys 3 0) ∷ []) v ≡ has_bit xs v || has_bit ys v
unfolding has_bit
or_words xs ys v k =
    each_word (λ (w : ℕ). (bit_at (get_or (bit_or (get_or xs 0 0) (get_or ys 0 0) ∷ bit_or (get_or xs 1 0) (get_or ys 1 0) ∷ bit_or (get_or xs 2 0) (get_or ys 2 0) ∷ bit_or (get_or xs 3 0) (get_or ys 3 0) ∷ []) w 0) (v % 64) == 1)
    ≡ (bit_at (get_or xs w 0) (v % 64) == 1) || (bit_at (get_or ys w 0) (v % 64) == 1))
    (or_bit (get_or xs 0 0) (get_or ys 0 0) (v % 64)) (or_bit (get_or xs 1 0) (get_or ys 1 0) (v % 64))
    (or_bit (get_or xs 2 0) (get_or ys 2 0) (v % 64)) (or_bit (get_or xs 3 0) (get_or ys 3 0) (v % 64)) (v / 64) (is_word v k)

-- a value that two sets have in common
pub and_words : (xs ys : List ℕ) (v : ℕ) → v < 256
    → has_bit (bit_and (get_or xs 0 0) (get_or ys 0 0) ∷ bit_and (get_or xs 1 0) (get_or ys 1 0) ∷ bit_and (get_or xs 2 0) (get_or ys 2 0) ∷ bit_and (get_or xs 3 0) (get_or ys 3 0) ∷ []) v ≡ has_bit xs v && has_bit ys v
unfolding has_bit
and_words xs ys v k =
    each_word (λ (w : ℕ). (bit_at (get_or (bit_and (get_or xs 0 0) (get_or ys 0 0) ∷ bit_and (get_or xs 1 0) (get_or ys 1 0) ∷ bit_and (get_or xs 2 0) (get_or ys 2 0) ∷ bit_and (get_or xs 3 0) (get_or ys 3 0) ∷ []) w 0) (v % 64) == 1)
    ≡ (bit_at (get_or xs w 0) (v % 64) == 1) && (bit_at (get_or ys w 0) (v % 64) == 1))
    (and_bit (get_or xs 0 0) (get_or ys 0 0) (v % 64)) (and_bit (get_or xs 1 0) (get_or ys 1 0) (v % 64))
    (and_bit (get_or xs 2 0) (get_or ys 2 0) (v % 64)) (and_bit (get_or xs 3 0) (get_or ys 3 0) (v % 64)) (v / 64) (is_word v k)

-- the other bits of a word
pub not_bit : (a i : ℕ) → a < 2 ^ 64 → i < 64 → (bit_at (bit_not w64 a) i == 1) ≡ not (bit_at a i == 1)
not_bit a i h k = not_by (bit_at a i) (bit_at (bit_not w64 a) i) (bit_at-lt a i) (bit_at_not w64 a i h k)

-- a value of a complement
pub not_words : (xs : List ℕ) (a b c d v : ℕ) → ((i : ℕ) → i < 64 → (bit_at a i == 1) ≡ not (bit_at (get_or xs 0 0) i == 1))
    → ((i : ℕ) → i < 64 → (bit_at b i == 1) ≡ not (bit_at (get_or xs 1 0) i == 1)) → ((i : ℕ) → i < 64 → (bit_at c i == 1) ≡ not (bit_at (get_or xs 2 0) i == 1))
    → ((i : ℕ) → i < 64 → (bit_at d i == 1) ≡ not (bit_at (get_or xs 3 0) i == 1)) → v < 256 → has_bit (a ∷ b ∷ c ∷ d ∷ []) v ≡ not (has_bit xs v)
unfolding has_bit
not_words xs a b c d v p q r s k =
    let low : v % 64 < 64 = omega arith in
    each_word (λ (w : ℕ). (bit_at (get_or (a ∷ b ∷ c ∷ d ∷ []) w 0) (v % 64) == 1) ≡ not (bit_at (get_or xs w 0) (v % 64) == 1))
    (p (v % 64) low) (q (v % 64) low) (r (v % 64) low) (s (v % 64) low) (v / 64) (is_word v k)

-- the bit of a value as the code tests it
pub tested_word : (xs : List ℕ) (v k word : ℕ) → v / 64 ≡ k → word ≡ get_or xs k 0 → (bit_and (word / 2 ^ (v % 64)) 1 == 1) ≡ has_bit xs v
unfolding has_bit
tested_word xs v k word e h =
    ap (λ (n : ℕ). n == 1) (shr_and_one word (v % 64) ∙ ap (λ (w : ℕ). bit_at w (v % 64)) (h ∙ ap (λ (n : ℕ). get_or xs n 0) (sym e)))

-- no value is in words that are zero
pub empty_words : (xs : List ℕ) (v : ℕ) → bit_or (bit_or (bit_or (get_or xs 0 0) (get_or xs 1 0)) (get_or xs 2 0)) (get_or xs 3 0) ≡ 0 → v < 256 → has_bit xs v ≡ false
unfolding has_bit
empty_words xs v e k =
    let a = get_or xs 0 0 in
    let b = get_or xs 1 0 in
    let c = get_or xs 2 0 in
    let d = get_or xs 3 0 in
    let zero_bit = λ (n : ℕ) (z : n ≡ 0). ap (λ (m : ℕ). bit_at m (v % 64) == 1) z ∙ ap (λ (m : ℕ). m == 1) (bit_at-zero (v % 64)) in
    let p1 : a ≤ bit_or a b = le_or_l a b in
    let p2 : b ≤ bit_or a b = le_or_r a b in
    let p3 : bit_or a b ≤ bit_or (bit_or a b) c = le_or_l (bit_or a b) c in
    let p4 : c ≤ bit_or (bit_or a b) c = le_or_r (bit_or a b) c in
    let p5 : bit_or (bit_or a b) c ≤ bit_or (bit_or (bit_or a b) c) d = le_or_l (bit_or (bit_or a b) c) d in
    let p6 : d ≤ bit_or (bit_or (bit_or a b) c) d = le_or_r (bit_or (bit_or a b) c) d in
    each_word (λ (w : ℕ). (bit_at (get_or xs w 0) (v % 64) == 1) ≡ false)
    (zero_bit a (omega arith)) (zero_bit b (omega arith)) (zero_bit c (omega arith)) (zero_bit d (omega arith)) (v / 64) (is_word v k)

full_bit : (i : ℕ) → i < 64 → (bit_at (2 ^ 64 - 1) i == 1) ≡ true
full_bit i h = ap (λ (m : ℕ). m == 1) (bit_at_ones 64 i h)

-- each value is in words of ones
pub full_words : (v : ℕ) → v < 256 → has_bit ((2 ^ 64 - 1) ∷ (2 ^ 64 - 1) ∷ (2 ^ 64 - 1) ∷ (2 ^ 64 - 1) ∷ []) v ≡ true
unfolding has_bit
full_words v k =
    let one : (bit_at (2 ^ 64 - 1) (v % 64) == 1) ≡ true = full_bit (v % 64) (omega arith) in
    each_word (λ (w : ℕ). (bit_at (get_or ((2 ^ 64 - 1) ∷ (2 ^ 64 - 1) ∷ (2 ^ 64 - 1) ∷ (2 ^ 64 - 1) ∷ []) w 0) (v % 64) == 1) ≡ true)
    one one one one (v / 64) (is_word v k)

-- ---- one value

-- the bit of a value in its word
one_bit : (x v : ℕ) → v / 64 ≡ x / 64 → (bit_at (1 * 2 ^ (x % 64) % 2 ^ 64) (v % 64) == 1) ≡ (v == x)
one_bit x v i =
    let whole : bit_at (1 * 2 ^ (x % 64) % 2 ^ 64) (v % 64) ≡ bit_at (2 ^ (x % 64)) (v % 64) = ap (λ (m : ℕ). bit_at m (v % 64)) (one_shl (x % 64) 64 (omega arith)) in
    elim (cases_eq v x) [
      | inl e ↦ ap (λ (m : ℕ). m == 1) (whole ∙ ap (λ (n : ℕ). bit_at (2 ^ (x % 64)) (n % 64)) e ∙ bit_at-pow_same (x % 64)) ∙ sym (eq-eqb v x e)
      | inr n ↦ ap (λ (m : ℕ). m == 1) (whole ∙ bit_at-pow_other (x % 64) (v % 64) (λ k. n (omega arith))) ∙ sym (ne_eqb v x n)
    ]

-- the bit of a value in another word
no_bit : (x v i j : ℕ) → v / 64 ≡ i → x / 64 ≡ j → i ≢ j → (bit_at 0 (v % 64) == 1) ≡ (v == x)
no_bit x v i j a b h = ap (λ (m : ℕ). m == 1) (bit_at-zero (v % 64)) ∙ sym (ne_eqb v x (λ e. h (sym a ∙ ap (λ (n : ℕ). n / 64) e ∙ b)))

pub one_first : (x v : ℕ) → x / 64 ≡ 0 → v < 256 → has_bit ((1 * 2 ^ (x % 64) % 2 ^ 64) ∷ 0 ∷ 0 ∷ 0 ∷ []) v ≡ (v == x)
unfolding has_bit
one_first x v e h =
    each_word (λ (w : ℕ). v / 64 ≡ w → (bit_at (get_or ((1 * 2 ^ (x % 64) % 2 ^ 64) ∷ 0 ∷ 0 ∷ 0 ∷ []) w 0) (v % 64) == 1) ≡ (v == x))
    (λ i. one_bit x v (i ∙ sym e)) (λ i. no_bit x v 1 0 i e (omega arith)) (λ i. no_bit x v 2 0 i e (omega arith)) (λ i. no_bit x v 3 0 i e (omega arith))
    (v / 64) (is_word v h) refl

pub one_second : (x v : ℕ) → x / 64 ≡ 1 → v < 256 → has_bit (0 ∷ (1 * 2 ^ (x % 64) % 2 ^ 64) ∷ 0 ∷ 0 ∷ []) v ≡ (v == x)
unfolding has_bit
one_second x v e h =
    each_word (λ (w : ℕ). v / 64 ≡ w → (bit_at (get_or (0 ∷ (1 * 2 ^ (x % 64) % 2 ^ 64) ∷ 0 ∷ 0 ∷ []) w 0) (v % 64) == 1) ≡ (v == x))
    (λ i. no_bit x v 0 1 i e (omega arith)) (λ i. one_bit x v (i ∙ sym e)) (λ i. no_bit x v 2 1 i e (omega arith)) (λ i. no_bit x v 3 1 i e (omega arith))
    (v / 64) (is_word v h) refl

pub one_third : (x v : ℕ) → x / 64 ≡ 2 → v < 256 → has_bit (0 ∷ 0 ∷ (1 * 2 ^ (x % 64) % 2 ^ 64) ∷ 0 ∷ []) v ≡ (v == x)
unfolding has_bit
one_third x v e h =
    each_word (λ (w : ℕ). v / 64 ≡ w → (bit_at (get_or (0 ∷ 0 ∷ (1 * 2 ^ (x % 64) % 2 ^ 64) ∷ 0 ∷ []) w 0) (v % 64) == 1) ≡ (v == x))
    (λ i. no_bit x v 0 2 i e (omega arith)) (λ i. no_bit x v 1 2 i e (omega arith)) (λ i. one_bit x v (i ∙ sym e)) (λ i. no_bit x v 3 2 i e (omega arith))
    (v / 64) (is_word v h) refl

pub one_fourth : (x v : ℕ) → x / 64 ≡ 3 → v < 256 → has_bit (0 ∷ 0 ∷ 0 ∷ (1 * 2 ^ (x % 64) % 2 ^ 64) ∷ []) v ≡ (v == x)
unfolding has_bit
one_fourth x v e h =
    each_word (λ (w : ℕ). v / 64 ≡ w → (bit_at (get_or (0 ∷ 0 ∷ 0 ∷ (1 * 2 ^ (x % 64) % 2 ^ 64) ∷ []) w 0) (v % 64) == 1) ≡ (v == x))
    (λ i. no_bit x v 0 3 i e (omega arith)) (λ i. no_bit x v 1 3 i e (omega arith)) (λ i. no_bit x v 2 3 i e (omega arith)) (λ i. one_bit x v (i ∙ sym e))
    (v / 64) (is_word v h) refl

-- ---- the values below a number

same_lt : (a b c d : ℕ) → (a < b → c < d) → (c < d → a < b) → nat_lt a b ≡ nat_lt c d
same_lt a b c d f g = grind (arith, cases_lt, lt-ltb, le-ltb)

below_bit : (m i : ℕ) → (bit_at (2 ^ m - 1) i == 1) ≡ nat_lt i m
below_bit m i = grind (arith, cases_lt, bit_at_ones, lt-ltb, bit_at_ones_above, le-ltb)

-- the bit of a value in the word after k words
low_bit : (end v k n : ℕ) → n ≡ 2 ^ min (end - 64 * k) 64 - 1 → v / 64 ≡ k → (bit_at n (v % 64) == 1) ≡ nat_lt v end
low_bit end v k n e i = grind (arith, below_bit, same_lt)

pub below_words : (end v a b c d : ℕ) → a ≡ 2 ^ min end 64 - 1 → b ≡ 2 ^ min (end - 64) 64 - 1 → c ≡ 2 ^ min (end - 128) 64 - 1 → d ≡ 2 ^ min (end - 192) 64 - 1
    → v < 256 → has_bit (a ∷ b ∷ c ∷ d ∷ []) v ≡ nat_lt v end
unfolding has_bit
below_words end v a b c d p q r s h =
    let first : end ≡ end - 64 * 0 = omega arith in
    each_word (λ (w : ℕ). v / 64 ≡ w → (bit_at (get_or (a ∷ b ∷ c ∷ d ∷ []) w 0) (v % 64) == 1) ≡ nat_lt v end)
    (low_bit end v 0 a (p ∙ ap (λ (n : ℕ). 2 ^ min n 64 - 1) first)) (low_bit end v 1 b q) (low_bit end v 2 c r) (low_bit end v 3 d s) (v / 64) (is_word v h) refl

-- the values from one to another
swapped : (p q : Bool) → (p && q) ≡ (q && p)
swapped p q = grind arith

not_below : (v low : ℕ) → not (nat_lt v low) ≡ nat_le low v
not_below v low = grind (arith, cases_lt, lt-ltb, lt-leb, le-ltb, le-leb)

below_next : (v high : ℕ) → nat_lt v (high + 1) ≡ nat_le v high
below_next v high = grind (arith, cases_lt, le-ltb, lt-leb, lt-ltb, le-leb)

pub range_test : (v low high : ℕ) → (nat_lt v (high + 1) && not (nat_lt v low)) ≡ (nat_le low v && nat_le v high)
range_test v low high =
    ap (λ (b : Bool). b && not (nat_lt v low)) (below_next v high) ∙ ap (λ (b : Bool). nat_le v high && b) (not_below v low) ∙ swapped (nat_le v high) (nat_le low v)

-- ---- words by their bits

bit_same : (x y : ℕ) → x < 2 → y < 2 → (x == 1) ≡ (y == 1) → x ≡ y
bit_same x y h k e = grind arith

pub bit_of_word : (xs : List ℕ) (k i : ℕ) → i < 64 → has_bit xs (64 * k + i) ≡ (bit_at (get_or xs k 0) i == 1)
unfolding has_bit
bit_of_word xs k i h =
    let d : (64 * k + i) / 64 ≡ k = omega arith in
    let r : (64 * k + i) % 64 ≡ i = omega arith in
    ap (λ (n : ℕ). bit_at (get_or xs n 0) ((64 * k + i) % 64) == 1) d ∙ ap (λ (n : ℕ). bit_at (get_or xs k 0) n == 1) r

-- no bit of words that are zero, and words without a bit
pub zero_words : (xs : List ℕ) → ((k : ℕ) → k < 4 → get_or xs k 0 < 2 ^ 64) → ((v : ℕ) → v < 256 → has_bit xs v ≡ false) → (k : ℕ) → k < 4 → get_or xs k 0 ≡ 0
zero_words xs p h k l =
    same_from_bits_below 64 (get_or xs k 0) 0 (p k l) (omega arith) (λ i n. bit_same (bit_at (get_or xs k 0) i) (bit_at 0 i) (bit_at-lt (get_or xs k 0) i) (bit_at-lt 0 i)
    (sym (bit_of_word xs k i n) ∙ h (64 * k + i) (omega arith) ∙ sym (ap (λ (m : ℕ). m == 1) (bit_at-zero i))))

-- a value whose word is zero
pub at_zero : (xs : List ℕ) (v : ℕ) → get_or xs (v / 64) 0 ≡ 0 → has_bit xs v ≡ false
unfolding has_bit
at_zero xs v e = ap (λ (n : ℕ). bit_at n (v % 64) == 1) e ∙ ap (λ (b : ℕ). b == 1) (bit_at-zero (v % 64))

at_bit : (xs : List ℕ) (v k : ℕ) → v / 64 ≡ k → bit_at (get_or xs k 0) (v % 64) ≡ 0 → has_bit xs v ≡ false
unfolding has_bit
at_bit xs v k e h = ap (λ (n : ℕ). bit_at (get_or xs n 0) (v % 64) == 1) e ∙ ap (λ (b : ℕ). b == 1) h

-- the lowest bit of the first word that is not zero
pub lowest_bit : (xs : List ℕ) (k t : ℕ) → k < 4 → t < 64 → ((j : ℕ) → j < k → get_or xs j 0 ≡ 0) → bit_at (get_or xs k 0) t ≡ 1
    → ((i : ℕ) → i < t → bit_at (get_or xs k 0) i ≡ 0) → (has_bit xs (64 * k + t) ≡ true) × ((v : ℕ) → v < 64 * k + t → has_bit xs v ≡ false)
lowest_bit xs k t l m z o h = grind (arith, bit_of_word, cases_lt, at_zero, at_bit)

-- the union of words without a bit is zero
pub zero_union : (xs : List ℕ) → ((k : ℕ) → k < 4 → get_or xs k 0 < 2 ^ 64) → ((v : ℕ) → v < 256 → has_bit xs v ≡ false)
    → bit_or (bit_or (bit_or (get_or xs 0 0) (get_or xs 1 0)) (get_or xs 2 0)) (get_or xs 3 0) ≡ 0
zero_union xs p h = grind (arith, zero_words)
