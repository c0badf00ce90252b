-- Bits of words that are moved up over four words.
use Rattle.std.specs.Prelude.{◌≡◌, ℕ, ◌+◌, ◌-◌, ◌*◌, ◌/◌, ◌%◌, ◌^◌, ◌<◌, ◌≤◌, Bool, true, false, cond, ◌||◌, nat_le, ◌==◌, List, [], ◌∷◌, get_or, bit_or, refl}
use Rattle.std.specs.Int.{bit_at}
use Rattle.std.proofs.Common.{arith, ap, sym, ◌∙◌, inl, inr}
use Rattle.std.proofs.lemmas.Bool.{le-leb, lt-leb, cases_lt}
use Rattle.std.proofs.lemmas.Nat.{shr-shr, pow_pos}
use Rattle.std.proofs.lemmas.Nat.Bits.{bit_at-zero, bit_at_above, bit_at_cat_low, bit_at_cat_high}
use Rattle.prove_facts.specs.Sets.{has_bit}
use Rattle.prove_facts.proofs.BitLemmas.{or_bit, each_word, is_word}

-- ---- shifts of a word

within_word : (m i : ℕ) → i < 64 → bit_at (m % 2 ^ 64) i ≡ bit_at m i
within_word m i h =
    let e : m ≡ m / 2 ^ 64 * 2 ^ 64 + m % 2 ^ 64 = omega arith in
    sym (ap (λ (n : ℕ). bit_at n i) e ∙ bit_at_cat_low (m / 2 ^ 64) 64 (m % 2 ^ 64) i h)

no_more : (n : ℕ) → n ≡ n + 0
no_more n = omega arith

some_pow : (k : ℕ) → 0 < 2 ^ k
some_pow k = pow_pos k

up_low : (m k i : ℕ) → i < k → bit_at (m * 2 ^ k) i ≡ 0
up_low m k i h = ap (λ (n : ℕ). bit_at n i) (no_more (m * 2 ^ k)) ∙ bit_at_cat_low m k 0 i h ∙ bit_at-zero i

up_high : (m k i : ℕ) → k ≤ i → bit_at (m * 2 ^ k) i ≡ bit_at m (i - k)
up_high m k i h = ap (λ (n : ℕ). bit_at n i) (no_more (m * 2 ^ k)) ∙ bit_at_cat_high m k 0 i (some_pow k) h

down : (n k i : ℕ) → bit_at (n / 2 ^ k) i ≡ bit_at n (k + i)
down n k i = ap (λ (m : ℕ). m % 2) (shr-shr n k i)

or_none : (b : Bool) → (b || false) ≡ b
or_none true = refl
or_none false = refl

-- the bits of a word that is moved up over another
pub joined_bit : (w l by i : ℕ) → l < 2 ^ 64 → by < 64 → i < 64
    → (bit_at (bit_or (w * 2 ^ by % 2 ^ 64) (l / 2 ^ (64 - by))) i == 1) ≡ cond (nat_le by i) (bit_at w (i - by) == 1) (bit_at l (i + 64 - by) == 1)
joined_bit w l by i k h n =
    or_bit (w * 2 ^ by % 2 ^ 64) (l / 2 ^ (64 - by)) i
    ∙ elim (cases_lt i by) [
      | inl t ↦
          let e : 64 - by + i ≡ i + 64 - by = omega arith in
          let a = within_word (w * 2 ^ by) i n ∙ up_low w by i t in
          let b = down l (64 - by) i ∙ ap (λ (m : ℕ). bit_at l m) e in
          ap (λ (m : ℕ). (m == 1) || (bit_at (l / 2 ^ (64 - by)) i == 1)) a ∙ ap (λ (m : ℕ). m == 1) b
          ∙ sym (ap (λ (b : Bool). cond b (bit_at w (i - by) == 1) (bit_at l (i + 64 - by) == 1)) (lt-leb by i t))
      | inr t ↦
          let a = within_word (w * 2 ^ by) i n ∙ up_high w by i t in
          let b = down l (64 - by) i ∙ bit_at_above l 64 (64 - by + i) k (omega arith) in
          ap (λ (m : ℕ). (m == 1) || (bit_at (l / 2 ^ (64 - by)) i == 1)) a ∙ ap (λ (m : ℕ). (bit_at w (i - by) == 1) || (m == 1)) b
          ∙ or_none (bit_at w (i - by) == 1)
          ∙ sym (ap (λ (b : Bool). cond b (bit_at w (i - by) == 1) (bit_at l (i + 64 - by) == 1)) (le-leb by i t))
    ]

pub kept_bit : (w l by i : ℕ) → by ≡ 0 → (bit_at w i == 1) ≡ cond (nat_le by i) (bit_at w (i - by) == 1) (bit_at l (i + 64 - by) == 1)
kept_bit w l by i e = grind (arith, le-leb)

-- ---- four words

-- the bits of a word are those of another one, and of the one below it
abbrev pub IsJoined : ℕ → ℕ → ℕ → ℕ → Type 0
IsJoined by r w l = (i : ℕ) → i < 64 → (bit_at r i == 1) ≡ cond (nat_le by i) (bit_at w (i - by) == 1) (bit_at l (i + 64 - by) == 1)

at_word : (xs : List ℕ) (u k i : ℕ) → u / 64 ≡ k → u % 64 ≡ i → (bit_at (get_or xs k 0) i == 1) ≡ has_bit xs u
unfolding has_bit
at_word xs u k i e h = sym (ap (λ (n : ℕ). bit_at (get_or xs n 0) (u % 64) == 1) e ∙ ap (λ (n : ℕ). bit_at (get_or xs k 0) n == 1) h)

word_moved : (xs : List ℕ) (by v k j r : ℕ) → by < 64 → v < 256 → v / 64 ≡ k → (k + 3) % 4 ≡ j → IsJoined by r (get_or xs k 0) (get_or xs j 0)
    → (bit_at r (v % 64) == 1) ≡ has_bit xs ((v + 256 - by) % 256)
word_moved xs by v k j r h n e f q = grind (arith, cases_lt, lt-leb, at_word, le-leb)

pub words_moved : (a b c d by p q r s v : ℕ) → IsJoined by p a d → IsJoined by q b a → IsJoined by r c b → IsJoined by s d c → by < 64 → v < 256
    → has_bit (p ∷ q ∷ r ∷ s ∷ []) v ≡ has_bit (a ∷ b ∷ c ∷ d ∷ []) ((v + 256 - by) % 256)
words_moved a b c d by p q r s v e f g i h n =
    let xs : List ℕ = a ∷ b ∷ c ∷ d ∷ [] in
    sym (at_word (p ∷ q ∷ r ∷ s ∷ []) v (v / 64) (v % 64) refl refl)
    ∙ each_word (λ (w : ℕ). v / 64 ≡ w → (bit_at (get_or (p ∷ q ∷ r ∷ s ∷ []) w 0) (v % 64) == 1) ≡ has_bit (a ∷ b ∷ c ∷ d ∷ []) ((v + 256 - by) % 256))
    (λ k. word_moved xs by v 0 3 p h n k refl e) (λ k. word_moved xs by v 1 0 q h n k refl f)
    (λ k. word_moved xs by v 2 1 r h n k refl g) (λ k. word_moved xs by v 3 2 s h n k refl i) (v / 64) (is_word v n) refl

-- ---- moves by whole words

rotated : (xs ys : List ℕ) (s u : ℕ) → s < 4 → u < 256 → ((k : ℕ) → k < 4 → get_or ys k 0 ≡ get_or xs ((k + 4 - s) % 4) 0)
    → has_bit ys u ≡ has_bit xs ((u + 256 - 64 * s) % 256)
rotated xs ys s u h n e =
    sym (at_word ys u (u / 64) (u % 64) refl refl) ∙ ap (λ (m : ℕ). bit_at m (u % 64) == 1) (e (u / 64) (is_word u n))
    ∙ at_word xs ((u + 256 - 64 * s) % 256) ((u / 64 + 4 - s) % 4) (u % 64) (omega arith) (omega arith)

moved_by : (xs ys : List ℕ) (s v by : ℕ) → by / 64 ≡ s → by < 256 → v < 256 → ((k : ℕ) → k < 4 → get_or ys k 0 ≡ get_or xs ((k + 4 - s) % 4) 0)
    → has_bit ys ((v + 256 - by % 64) % 256) ≡ has_bit xs ((v + 256 - by) % 256)
moved_by xs ys s v by d h n e =
    let t : ((v + 256 - by % 64) % 256 + 256 - 64 * s) % 256 ≡ (v + 256 - by) % 256 = omega arith in
    rotated xs ys s ((v + 256 - by % 64) % 256) (omega arith) (omega arith) e ∙ ap (λ (m : ℕ). has_bit xs m) t

-- four words that are read from another place on
abbrev pub turned : List ℕ → ℕ → ℕ → ℕ → ℕ → List ℕ
turned xs i j k l = get_or xs i 0 ∷ get_or xs j 0 ∷ get_or xs k 0 ∷ get_or xs l 0 ∷ []

pub moved_one : (xs : List ℕ) (v by : ℕ) → by / 64 ≡ 1 → by < 256 → v < 256 → has_bit (turned xs 3 0 1 2) ((v + 256 - by % 64) % 256) ≡ has_bit xs ((v + 256 - by) % 256)
moved_one xs v by d h n =
    moved_by xs (turned xs 3 0 1 2) 1 v by d h n (λ k l. each_word (λ (w : ℕ). get_or (turned xs 3 0 1 2) w 0 ≡ get_or xs ((w + 4 - 1) % 4) 0) refl refl refl refl k l)

pub moved_two : (xs : List ℕ) (v by : ℕ) → by / 64 ≡ 2 → by < 256 → v < 256 → has_bit (turned xs 2 3 0 1) ((v + 256 - by % 64) % 256) ≡ has_bit xs ((v + 256 - by) % 256)
moved_two xs v by d h n =
    moved_by xs (turned xs 2 3 0 1) 2 v by d h n (λ k l. each_word (λ (w : ℕ). get_or (turned xs 2 3 0 1) w 0 ≡ get_or xs ((w + 4 - 2) % 4) 0) refl refl refl refl k l)

pub moved_three : (xs : List ℕ) (v by : ℕ) → by / 64 ≡ 3 → by < 256 → v < 256 → has_bit (turned xs 1 2 3 0) ((v + 256 - by % 64) % 256) ≡ has_bit xs ((v + 256 - by) % 256)
moved_three xs v by d h n =
    moved_by xs (turned xs 1 2 3 0) 3 v by d h n (λ k l. each_word (λ (w : ℕ). get_or (turned xs 1 2 3 0) w 0 ≡ get_or xs ((w + 4 - 3) % 4) 0) refl refl refl refl k l)
