-- The number of values of four words.
use Rattle.std.specs.Prelude.{◌≡◌, ℕ, zero, suc, ◌+◌, ◌*◌, ◌/◌, ◌%◌, ◌^◌, ◌<◌, Bool, true, false, cond, ◌==◌, List, [], ◌∷◌, ◌++◌, length, filter, get_or, refl}
use Rattle.std.specs.Int.{bit_at}
use Rattle.std.proofs.Common.{arith, ap, sym, ◌∙◌}
use Rattle.std.proofs.lemmas.Nat.Bits.{bit_at_lowest, bit_at-suc}
use Rattle.std.proofs.Math.Nat.{pow-suc}
use lib.Count.{ones, ones_step}
use Rattle.model_prove.specs.Sets.{numbers_from}
use Rattle.prove_facts.specs.Sets.{has_bit, values_of}
use Rattle.prove_facts.proofs.BitLemmas.{bit_of_word}

kept_length : (b : Bool) (x : ℕ) (s : List ℕ) → length (cond b (x ∷ s) s) ≡ cond b 1 0 + length s
kept_length true x s = omega arith
kept_length false x s = omega arith

bit_length : (b : ℕ) → b < 2 → cond (b == 1) 1 0 ≡ b
bit_length b h = grind arith

ones_zero : ones 0 ≡ 0
unfolding ones
ones_zero = refl

zero_word : (w : ℕ) → w < 2 ^ 0 → w ≡ 0
zero_word zero h = refl
zero_word (suc w) h = absurd (omega (arith, h))

next_place : (k i : ℕ) → suc k + i ≡ k + suc i
next_place k i = omega arith

-- the numbers that pass are as many as the bits of a word
pub count_word : (p : ℕ → Bool) (n k w : ℕ) → w < 2 ^ n → ((i : ℕ) → i < n → p (k + i) ≡ (bit_at w i == 1)) → length (filter p (numbers_from k n)) ≡ ones w
count_word p zero k w h q = sym (ap ones (zero_word w h) ∙ ones_zero)
count_word p (suc n) k w h q =
    let half : w / 2 < 2 ^ n = omega (arith, h, pow-suc 2 n) in
    let low : w % 2 < 2 = omega arith in
    let first : p k ≡ (w % 2 == 1) = ap p (omega arith) ∙ q 0 (omega arith) ∙ ap (λ (b : ℕ). b == 1) (bit_at_lowest w) in
    kept_length (p k) k (filter p (numbers_from (suc k) n))
    ∙ ap (λ (c : Bool). cond c 1 0 + length (filter p (numbers_from (suc k) n))) first
    ∙ ap (λ (b : ℕ). b + length (filter p (numbers_from (suc k) n))) (bit_length (w % 2) low)
    ∙ ap (λ (m : ℕ). w % 2 + m)
    (count_word p n (suc k) (w / 2) half (λ i l. ap p (next_place k i) ∙ q (suc i) (omega (arith, l)) ∙ ap (λ (b : ℕ). b == 1) (bit_at-suc w i)))
    ∙ sym (ones_step w)

filter_length : (p : ℕ → Bool) (s t : List ℕ) → length (filter p (s ++ t)) ≡ length (filter p s) + length (filter p t)
filter_length p [] t = omega arith
filter_length p (x ∷ s) t =
    let e = filter_length p s t in
    let a = kept_length (p x) x (filter p (s ++ t)) in
    let b = kept_length (p x) x (filter p s) in
    omega (arith, a, b, e)

-- a word of a set
word_count : (ws : List ℕ) (k : ℕ) → get_or ws k 0 < 2 ^ 64 → length (filter (has_bit ws) (numbers_from (64 * k) 64)) ≡ ones (get_or ws k 0)
word_count ws k h = count_word (has_bit ws) 64 (64 * k) (get_or ws k 0) h (λ i l. bit_of_word ws k i l)

pub count_is : (ws : List ℕ) → ((k : ℕ) → k < 4 → get_or ws k 0 < 2 ^ 64)
    → length (values_of ws) ≡ ones (get_or ws 0 0) + (ones (get_or ws 1 0) + (ones (get_or ws 2 0) + ones (get_or ws 3 0)))
unfolding values_of
count_is ws h =
    let p = has_bit ws in
    filter_length p (numbers_from 0 64) (numbers_from 64 192)
    ∙ ap (λ (m : ℕ). m + length (filter p (numbers_from 64 192))) (word_count ws 0 (h 0 (omega arith)))
    ∙ ap (λ (m : ℕ). ones (get_or ws 0 0) + m)
    (filter_length p (numbers_from 64 64) (numbers_from 128 128)
    ∙ ap (λ (m : ℕ). m + length (filter p (numbers_from 128 128))) (word_count ws 1 (h 1 (omega arith)))
    ∙ ap (λ (m : ℕ). ones (get_or ws 1 0) + m)
    (filter_length p (numbers_from 128 64) (numbers_from 192 64)
    ∙ ap (λ (m : ℕ). m + length (filter p (numbers_from 192 64))) (word_count ws 2 (h 2 (omega arith)))
    ∙ ap (λ (m : ℕ). ones (get_or ws 2 0) + m) (word_count ws 3 (h 3 (omega arith)))))
