-- The values from one to another, as a set.
use Rattle.std.proofs.Common.{◌≡◌, ℕ, ◌+◌, ◌-◌, ◌<◌, ◌≤◌, Bool, true, false, ◌&&◌, List, [], ◌∷◌, refl, sym, ◌∙◌, inl, inr, arith}
use Rattle.std.specs.Prelude.{nat_le, nat_lt}
use Rattle.std.proofs.lemmas.Bool.{and_parts, and_from, leb-true, le-leb, lt-ltb, ltb-true, cases_lt, both_ways}
use Rattle.prove_facts.specs.model_prove.specs.Sets.{is_in, numbers_from}
use Rattle.prove_facts.specs.model_prove.specs.Between.{values_between}
use Rattle.prove_facts.specs.model_prove.proofs.SetLemmas.{is_between}
use Rattle.prove_facts.specs.Sets.{has_bit, values_of}
use Rattle.prove_facts.proofs.SetLemmas.{rises_lower, rises_numbers, lower_not_in, past_not_in, values_are}

in_number : (v k n : ℕ) → is_in v (numbers_from k n) ≡ true → (k ≤ v) × (v < k + n)
in_number v k n e =
    elim (cases_lt v k) [
      | inl low ↦ absurd (both_ways (is_in v (numbers_from k n)) (lower_not_in v k (numbers_from k n) (rises_numbers k n) low) e)
      | inr from ↦
          elim (cases_lt v (k + n)) [
            | inl below ↦ (from, below)
            | inr past ↦ absurd (both_ways (is_in v (numbers_from k n)) (past_not_in v k n past) e)
          ]
    ]

same_truth : (x y : Bool) → (x ≡ true → y ≡ true) → (y ≡ true → x ≡ true) → x ≡ y
same_truth true y f g = sym (f refl)
same_truth false true f g = g refl
same_truth false false f g = refl

between_is : (low high v : ℕ) → (nat_le low v && nat_le v high) ≡ is_in v (values_between low high)
between_is low high v = same_truth (nat_le low v && nat_le v high) (is_in v (numbers_from low (high + 1 - low))) there back
  where
    there : (nat_le low v && nat_le v high) ≡ true → is_in v (numbers_from low (high + 1 - low)) ≡ true
    there e =
        let p = and_parts (nat_le low v) (nat_le v high) e in
        let from : low ≤ v = leb-true low v p.0 in
        let to : v ≤ high = leb-true v high p.1 in
        is_between v low (high + 1 - low) from (omega arith)

    back : is_in v (numbers_from low (high + 1 - low)) ≡ true → (nat_le low v && nat_le v high) ≡ true
    back e =
        let p = in_number v low (high + 1 - low) e in
        let from : low ≤ v = p.0 in
        let below : v < low + (high + 1 - low) = p.1 in
        and_from (nat_le low v) (nat_le v high) (le-leb low v from) (le-leb v high (omega arith))

-- words with the bits of the values from one to another are their set
pub range_is : (ws : List ℕ) (low high : ℕ) → high < 256 → ((v : ℕ) → v < 256 → has_bit ws v ≡ (nat_le low v && nat_le v high)) → values_of ws ≡ values_between low high
range_is ws low high small h =
    values_are ws (numbers_from low (high + 1 - low)) (rises_lower 0 low (numbers_from low (high + 1 - low)) (omega arith) (rises_numbers low (high + 1 - low)))
    (λ v l. h v l ∙ between_is low high v)
    (λ v l. out v l)
  where
    out : (v : ℕ) → 256 ≤ v → is_in v (numbers_from low (high + 1 - low)) ≡ false
    out v l =
        elim (cases_lt v low) [
          | inl under ↦ lower_not_in v low (numbers_from low (high + 1 - low)) (rises_numbers low (high + 1 - low)) under
          | inr from ↦ past_not_in v low (high + 1 - low) (omega arith)
        ]

below_is : (v : ℕ) → nat_lt v 5 ≡ is_in v (0 ∷ 1 ∷ 2 ∷ 3 ∷ 4 ∷ [])
below_is v = same_truth (nat_lt v 5) (is_in v (numbers_from 0 5)) there back
  where
    there : nat_lt v 5 ≡ true → is_in v (numbers_from 0 5) ≡ true
    there e =
        let below : v < 5 = ltb-true v 5 e in
        is_between v 0 5 (omega arith) (omega arith)

    back : is_in v (numbers_from 0 5) ≡ true → nat_lt v 5 ≡ true
    back e =
        let p = in_number v 0 5 e in
        let below : v < 0 + 5 = p.1 in
        lt-ltb v 5 (omega arith)

-- words with the bits of the values below five are their set
pub five_are : (ws : List ℕ) → ((v : ℕ) → v < 256 → has_bit ws v ≡ nat_lt v 5) → values_of ws ≡ 0 ∷ 1 ∷ 2 ∷ 3 ∷ 4 ∷ []
five_are ws h =
    values_are ws (0 ∷ 1 ∷ 2 ∷ 3 ∷ 4 ∷ []) (rises_numbers 0 5) (λ v l. h v l ∙ below_is v)
    (λ v l. past_not_in v 0 5 (omega arith))
