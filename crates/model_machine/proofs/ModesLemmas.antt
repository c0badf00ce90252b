-- Lists added place by place, and a test computed over a whole table as a test of each of its entries.
use Rattle.std.proofs.Common.{◌≡◌, ℕ, zero, suc, ◌+◌, ◌-◌, ◌^◌, ◌<◌, ◌&&◌, Bool, true, List, [], ◌∷◌, ◌++◌, length, get_or, take, drop, ap, refl, sym, ◌∙◌, inl, inr, arith, subst}
use Rattle.std.specs.Int.Bits.{bit_xor, xor_self, xor_zero_r, xor_assoc}
use Rattle.std.proofs.lemmas.Nat.{xor_lt}
use Rattle.std.proofs.lemmas.Bool.{cases_lt, and_parts}
use Rattle.std.proofs.lemmas.List.{drop-drop}
use Rattle.model_machine.specs.Modes.{bit_sum, blocks_of, last_of_chain, AllBelow}

-- ---- tables

-- whether a test holds of each number below n
unfoldable pub all_below : (ℕ → Bool) → ℕ → Bool
all_below p zero = true
all_below p (suc n) = p n && all_below p n

pub below_at : (p : ℕ → Bool) (n : ℕ) → all_below p n ≡ true → (k : ℕ) → k < n → p k ≡ true
unfolding all_below
below_at p zero e k h = absurd (omega arith)
below_at p (suc n) e k h =
    let parts = and_parts (p n) (all_below p n) e in
    elim (cases_lt k n) [
      | inl low ↦ below_at p n parts.1 k low
      | inr high ↦ let same : n ≡ k = omega arith in subst (λ (i : ℕ). p i ≡ true) same parts.0
    ]

-- ---- added lists

xor_back : (a b : ℕ) → bit_xor (bit_xor a b) b ≡ a
xor_back a b = xor_assoc a b b ∙ ap (λ (x : ℕ). bit_xor a x) (xor_self b) ∙ xor_zero_r a

-- what was added is added again
pub added_back : (xs ys : List ℕ) → bit_sum (bit_sum xs ys) ys ≡ xs
added_back [] ys = refl
added_back (x ∷ xs) [] = refl
added_back (x ∷ xs) (y ∷ ys) = ap (λ (a : ℕ). a ∷ bit_sum (bit_sum xs ys) ys) (xor_back x y) ∙ ap (λ (l : List ℕ). x ∷ l) (added_back xs ys)

pub length_added : (xs ys : List ℕ) → length (bit_sum xs ys) ≡ length xs
length_added [] ys = refl
length_added (x ∷ xs) [] = refl
length_added (x ∷ xs) (y ∷ ys) = ap suc (length_added xs ys)

-- ---- chains

-- one more block of a chain
pub chain_step : (cipher : List ℕ → List ℕ) (size n i at : ℕ) (message last next e block : List ℕ) → i < n
    → last_of_chain cipher last (blocks_of (n - i) size (drop at message)) ≡ e → block ≡ take size (drop at message) → next ≡ cipher (bit_sum block last)
    → last_of_chain cipher next (blocks_of (n - (i + 1)) size (drop (at + size) message)) ≡ e
chain_step cipher size n i at message last next e block h same eb en =
    let left : n - i ≡ suc (n - (i + 1)) = omega arith in
    let opened : last_of_chain cipher last (blocks_of (suc (n - (i + 1))) size (drop at message)) ≡ e = rw left at same in
    ap (λ (l : List ℕ). last_of_chain cipher next (blocks_of (n - (i + 1)) size l)) (sym (drop-drop size at message))
    ∙ ap (λ (l : List ℕ). last_of_chain cipher l (blocks_of (n - (i + 1)) size (drop size (drop at message)))) (en ∙ ap (λ (b : List ℕ). cipher (bit_sum b last)) eb)
    ∙ opened

-- ---- lists of small numbers

pub all_below_append : (m : ℕ) (xs ys : List ℕ) → AllBelow m xs → AllBelow m ys → AllBelow m (xs ++ ys)
all_below_append m [] ys a b = b
all_below_append m (x ∷ xs) ys a b = (a.0, all_below_append m xs ys a.1 b)

pub all_below_take : (m n : ℕ) (xs : List ℕ) → AllBelow m xs → AllBelow m (take n xs)
all_below_take m zero xs a = tt
all_below_take m (suc n) [] a = tt
all_below_take m (suc n) (x ∷ xs) a = (a.0, all_below_take m n xs a.1)

pub all_below_drop : (m n : ℕ) (xs : List ℕ) → AllBelow m xs → AllBelow m (drop n xs)
all_below_drop m zero xs a = a
all_below_drop m (suc n) [] a = tt
all_below_drop m (suc n) (x ∷ xs) a = all_below_drop m n xs a.1

pub all_below_at : (m : ℕ) (xs : List ℕ) (i : ℕ) → 0 < m → AllBelow m xs → get_or xs i 0 < m
all_below_at m [] i h a = h
all_below_at m (x ∷ xs) zero h a = a.0
all_below_at m (x ∷ xs) (suc i) h a = all_below_at m xs i h a.1

pub all_below_added : (k : ℕ) (xs ys : List ℕ) → AllBelow (2 ^ k) xs → AllBelow (2 ^ k) ys → AllBelow (2 ^ k) (bit_sum xs ys)
all_below_added k [] ys a b = tt
all_below_added k (x ∷ xs) [] a b = a
all_below_added k (x ∷ xs) (y ∷ ys) a b = (xor_lt k x y a.0 b.0, all_below_added k xs ys a.1 b.1)

-- a list by its places
unfoldable pub listed_from : ℕ → List ℕ → ℕ → List ℕ
listed_from zero l i = []
listed_from (suc n) l i = get_or l i 0 ∷ listed_from n l (suc i)

listed_cons : (n : ℕ) (x : ℕ) (l : List ℕ) (i : ℕ) → listed_from n (x ∷ l) (suc i) ≡ listed_from n l i
unfolding listed_from
listed_cons zero x l i = refl
listed_cons (suc n) x l i = ap (λ (t : List ℕ). get_or l i 0 ∷ t) (listed_cons n x l (suc i))

pub listed : (n : ℕ) (l : List ℕ) → length l ≡ n → l ≡ listed_from n l 0
unfolding listed_from
listed zero [] h = refl
listed zero (x ∷ l) h = absurd (cc)
listed (suc n) [] h = absurd (cc)
listed (suc n) (x ∷ l) h = ap (λ (t : List ℕ). x ∷ t) (listed n l (omega arith) ∙ sym (listed_cons n x l 0))
