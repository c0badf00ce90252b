-- Sets: what is in a set with one more value, in a union, and in what two sets have in common.
use Rattle.std.specs.Prelude.{◌≡◌, ◌⊎◌, ℕ, zero, suc, ◌+◌, ◌<◌, ◌≤◌, Bool, true, false, cond, ◌&&◌, ◌||◌, nat_lt, ◌==◌, List, [], ◌∷◌, filter, refl}
use Rattle.std.proofs.Common.{arith, ap, sym, subst, ◌∙◌, inl, inr}
use Rattle.std.proofs.lemmas.Bool.{or_left, or_right, or_cases, eqb-true, eq-eqb, and_parts}
use Rattle.model_prove.specs.Sets.{Set, is_in, numbers_from, all_bytes, put_before, with_value, union, common, is_subset}

-- ---- one value more

-- the first value of a set is in it
pub is_first : (v : ℕ) (s : Set) → is_in v (v ∷ s) ≡ true
is_first v s = or_left (v == v) (is_in v s) (eq-eqb v v refl)

-- a value in a set is in it with another in front
pub is_later : (v x : ℕ) (s : Set) → is_in v s ≡ true → is_in v (x ∷ s) ≡ true
is_later v x s h = or_right (x == v) (is_in v s) h

put_new : (b c : Bool) (v x : ℕ) (xs rest : Set) → (v == x) ≡ c → is_in v rest ≡ true → is_in v (put_before b c v x xs rest) ≡ true
put_new true c v x xs rest e h = is_first v (x ∷ xs)
put_new false true v x xs rest e h = or_left (x == v) (is_in v xs) (eq-eqb x v (sym (eqb-true v x e)))
put_new false false v x xs rest e h = is_later v x rest h

-- a value that is added to a set is in it
pub new_is_in : (v : ℕ) (s : Set) → is_in v (with_value v s) ≡ true
new_is_in v [] = is_first v []
new_is_in v (x ∷ xs) = put_new (nat_lt v x) (v == x) v x xs (with_value v xs) refl (new_is_in v xs)

put_old : (b c : Bool) (w v x : ℕ) (xs rest : Set) → is_in w (x ∷ xs) ≡ true → (is_in w xs ≡ true → is_in w rest ≡ true) → is_in w (put_before b c v x xs rest) ≡ true
put_old true c w v x xs rest h k = is_later w v (x ∷ xs) h
put_old false true w v x xs rest h k = h
put_old false false w v x xs rest h k =
    elim (or_cases (x == w) (is_in w xs) h) [
      | inl e ↦ or_left (x == w) (is_in w rest) e
      | inr e ↦ or_right (x == w) (is_in w rest) (k e)
    ]

-- a value in a set stays in it when one is added
pub old_is_in : (w v : ℕ) (s : Set) → is_in w s ≡ true → is_in w (with_value v s) ≡ true
old_is_in w v [] h = is_later w v [] h
old_is_in w v (x ∷ xs) h = put_old (nat_lt v x) (v == x) w v x xs (with_value v xs) h (λ k. old_is_in w v xs k)

-- ---- unions

-- a value of the second set is in the union
pub in_second : (v : ℕ) (s t : Set) → is_in v t ≡ true → is_in v (union s t) ≡ true
in_second v [] t h = h
in_second v (x ∷ s) t h = old_is_in v x (union s t) (in_second v s t h)

in_first_by : (v x : ℕ) (s t : Set) → (x == v) ≡ true → is_in v (union (x ∷ s) t) ≡ true
in_first_by v x s t e = subst (λ (w : ℕ). is_in v (with_value w (union s t)) ≡ true) (sym (eqb-true x v e)) (new_is_in v (union s t))

-- a value of the first set is in the union
pub in_first : (v : ℕ) (s t : Set) → is_in v s ≡ true → is_in v (union s t) ≡ true
in_first v [] t h = absurd (cc h)
in_first v (x ∷ s) t h =
    elim (or_cases (x == v) (is_in v s) h) [
      | inl e ↦ in_first_by v x s t e
      | inr e ↦ old_is_in v x (union s t) (in_first v s t e)
    ]

-- ---- filters

kept_new : (b : Bool) (v : ℕ) (s : Set) → b ≡ true → is_in v (cond b (v ∷ s) s) ≡ true
kept_new true v s h = is_first v s
kept_new false v s h = absurd (cc h)

kept_old : (b : Bool) (v x : ℕ) (s : Set) → is_in v s ≡ true → is_in v (cond b (x ∷ s) s) ≡ true
kept_old true v x s h = is_later v x s h
kept_old false v x s h = h

-- a value of a set that passes a test is among those that do
pub is_kept : (test : ℕ → Bool) (v : ℕ) (s : Set) → is_in v s ≡ true → test v ≡ true → is_in v (filter test s) ≡ true
is_kept test v [] h e = absurd (cc h)
is_kept test v (x ∷ s) h e =
    elim (or_cases (x == v) (is_in v s) h) [
      | inl k ↦ subst (λ (w : ℕ). is_in v (filter test (w ∷ s)) ≡ true) (sym (eqb-true x v k)) (kept_new (test v) v (filter test s) e)
      | inr k ↦ kept_old (test x) v x (filter test s) (is_kept test v s k e)
    ]

-- a value of both sets is in what they have in common
pub in_common : (v : ℕ) (s t : Set) → is_in v s ≡ true → is_in v t ≡ true → is_in v (common s t) ≡ true
in_common v s t h k = is_kept (λ w. is_in w t) v s h k

-- ---- subsets

-- a value of a set is in each set that includes it
pub in_larger : (v : ℕ) (s t : Set) → is_subset s t ≡ true → is_in v s ≡ true → is_in v t ≡ true
in_larger v [] t h k = absurd (cc k)
in_larger v (x ∷ s) t h k =
    let p = and_parts (is_in x t) (is_subset s t) h in
    elim (or_cases (x == v) (is_in v s) k) [
      | inl e ↦ subst (λ (w : ℕ). is_in w t ≡ true) (eqb-true x v e) p.0
      | inr e ↦ in_larger v s t p.1 e
    ]

-- ---- all values

first_or_later : (v k n : ℕ) → k ≤ v → v < k + suc n → (k ≡ v) ⊎ ((suc k ≤ v) × (v < suc k + n))
first_or_later v k n low high = grind arith

-- a number from k to below k + n is among them
pub is_between : (v k n : ℕ) → k ≤ v → v < k + n → is_in v (numbers_from k n) ≡ true
is_between v k zero low high = absurd (omega (arith, low, high))
is_between v k (suc n) low high =
    elim (first_or_later v k n low high) [
      | inl e ↦ or_left (k == v) (is_in v (numbers_from (suc k) n)) (eq-eqb k v e)
      | inr p ↦ or_right (k == v) (is_in v (numbers_from (suc k) n)) (is_between v (suc k) n p.0 p.1)
    ]

-- a number below 256 is among all bytes
pub is_byte : (v : ℕ) → v < 256 → is_in v all_bytes ≡ true
is_byte v h = is_between v 0 256 (omega arith) h
