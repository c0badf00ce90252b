-- The first index of a byte in a list.
use Rattle.std.proofs.Common.{◌≡◌, ℕ, ◌+◌, ◌==◌, ◌<◌, false, Some, None, List, length, get_or, position, sym, arith, inl, inr, ◌≢◌}
use Rattle.std.proofs.lemmas.Bool.Decides.{nat_tests}
use Rattle.std.specs.List.{position_or_len}
use Rattle.std.proofs.lemmas.List.Sums.{position_or_len_is}
use Rattle.std.proofs.lemmas.Bool.{cases_lt}

-- a byte that is at this index and at none before has it as its first index
pub found_at : (xs : List ℕ) (v i : ℕ) → i < length xs → ((k : ℕ) → k < i → (get_or xs k 0 == v) ≡ false) → get_or xs i 0 ≡ v → Some i ≡ position (λ b. b == v) xs
found_at xs v i fits before here =
    let e : position_or_len (λ b. b == v) xs ≡ i = position_or_len_is (λ b. b == v) xs i 0 (omega arith) before (λ lt. grind (arith, nat_tests)) in
    grind (arith, e)

-- a byte that is at no index has no first index
pub found_nowhere : (xs : List ℕ) (v : ℕ) → ((k : ℕ) → k < length xs → (get_or xs k 0 == v) ≡ false) → None ≡ position (λ b. b == v) xs
found_nowhere xs v none =
    let e : position_or_len (λ b. b == v) xs ≡ length xs = position_or_len_is (λ b. b == v) xs (length xs) 0 (omega arith) none (λ lt. absurd (omega arith)) in
    grind (arith, e)

-- a byte that is neither before this index nor at it is not before the next
pub not_before : (xs : List ℕ) (v i : ℕ) → ((k : ℕ) → k < i → (get_or xs k 0 == v) ≡ false) → get_or xs i 0 ≢ v → (k : ℕ) → k < i + 1 → (get_or xs k 0 == v) ≡ false
not_before xs v i before here k lt =
    elim (cases_lt k i) [
      | inl low ↦ before k low
      | inr high ↦ let same : i ≡ k = omega arith in rw (sym same) (grind (arith, nat_tests))
    ]
