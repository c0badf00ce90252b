-- The least value of four words.
use Rattle.std.specs.Prelude.{◌≡◌, ℕ, zero, suc, ◌+◌, ◌*◌, ◌/◌, ◌%◌, ◌^◌, ◌<◌, ◌==◌, List, [], ◌∷◌, get_or, Some, None, refl}
use Rattle.std.specs.Int.{bit_at, trailing_zeros, w64}
use Rattle.std.proofs.Common.{arith, ap, sym, ◌∙◌}
use Rattle.std.proofs.lemmas.Nat.Bits.{bit_at-trailing_zeros}
use Rattle.prove_facts.specs.Sets.{has_bit, values_of, least_value}
use Rattle.prove_facts.proofs.BitLemmas.{each_word, at_zero, lowest_bit}
use Rattle.prove_facts.proofs.SetLemmas.{none_is, least_is, values_are, rises_values, in_values, out_values}

-- it is the lowest bit of the first word that is not zero
pub least_at : (xs : List ℕ) (k w : ℕ) → k < 4 → get_or xs k 0 ≡ w → 0 < w → w < 2 ^ 64 → ((j : ℕ) → j < k → get_or xs j 0 ≡ 0)
    → least_value (values_of xs) ≡ Some (64 * k + trailing_zeros w64 w)
least_at xs k w l e p f z =
    let t = bit_at-trailing_zeros w64 w p f in
    let n = lowest_bit xs k (trailing_zeros w64 w) l t.0 z (ap (λ (x : ℕ). bit_at x (trailing_zeros w64 w)) e ∙ t.1) (λ i h. ap (λ (x : ℕ). bit_at x i) e ∙ t.2 i h) in
    least_is xs (64 * k + trailing_zeros w64 w) (omega (arith, l, t.0)) n.0 n.1

-- words that are zero have none
pub least_none : (xs : List ℕ) → get_or xs 0 0 ≡ 0 → get_or xs 1 0 ≡ 0 → get_or xs 2 0 ≡ 0 → get_or xs 3 0 ≡ 0 → least_value (values_of xs) ≡ None
least_none xs a b c d = ap least_value (none_is xs (λ v l. at_zero xs v (each_word (λ (k : ℕ). get_or xs k 0 ≡ 0) a b c d (v / 64) (omega (arith, l)))))

-- ---- four words

same_bits : (xs : List ℕ) (v : ℕ) → v < 256 → has_bit xs v ≡ has_bit (get_or xs 0 0 ∷ get_or xs 1 0 ∷ get_or xs 2 0 ∷ get_or xs 3 0 ∷ []) v
unfolding has_bit
same_bits xs v h =
    let ys : List ℕ = get_or xs 0 0 ∷ get_or xs 1 0 ∷ get_or xs 2 0 ∷ get_or xs 3 0 ∷ [] in
    ap (λ (n : ℕ). bit_at n (v % 64) == 1) (each_word (λ (k : ℕ). get_or xs k 0 ≡ get_or ys k 0) refl refl refl refl (v / 64) (omega (arith, h)))

-- the values of words are those of the first four
pub four_values : (xs : List ℕ) → values_of xs ≡ values_of (get_or xs 0 0 ∷ get_or xs 1 0 ∷ get_or xs 2 0 ∷ get_or xs 3 0 ∷ [])
four_values xs =
    let ys : List ℕ = get_or xs 0 0 ∷ get_or xs 1 0 ∷ get_or xs 2 0 ∷ get_or xs 3 0 ∷ [] in
    values_are xs (values_of ys) (rises_values ys) (λ v l. same_bits xs v l ∙ sym (in_values ys v l)) (λ v g. out_values ys v g)

-- ---- what holds of the first words

pub first_word : (P : ℕ → Type 0) → P 0 → (j : ℕ) → j < 1 → P j
first_word P a zero h = a
first_word P a (suc j) h = absurd (omega (arith, h))

pub first_two : (P : ℕ → Type 0) → P 0 → P 1 → (j : ℕ) → j < 2 → P j
first_two h a b j h4 = grind arith

pub first_three : (P : ℕ → Type 0) → P 0 → P 1 → P 2 → (j : ℕ) → j < 3 → P j
first_three h a b c j h5 = grind arith
