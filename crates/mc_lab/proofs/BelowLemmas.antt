-- The last value whose number is below a bound, if the numbers ascend.
use Rattle.std.proofs.Common.{◌≡◌, ◌+◌, ◌<◌, ◌≤◌, refl, ◌∙◌, ap, ℕ, zero, suc, List, [], ◌∷◌, length, drop, Bool, true, false, cond, Option, Some, None, arith}
use Rattle.std.specs.Prelude.{nat_lt, slice_get}
use Rattle.mc_lab.specs.Rising.{Rising, count_below, last_of}
use Rattle.mc_lab.specs.Expectations.{last_below, later_or, where_is}

-- the rest of a list from an element on
pub drop_at : {A : Type 0} (xs : List A) (i : ℕ) (x : A) → slice_get xs i ≡ Some x → drop i xs ≡ x ∷ drop (i + 1) xs
drop_at [] i x e = absurd (cc e)
drop_at {A} (y ∷ xs) zero x e = let same : y ≡ x = cc e in ap (λ (y : A). y ∷ xs) same
drop_at (y ∷ xs) (suc i) x e = grind (arith, drop_at xs i x e)

module _ {A : Type 0} (number : A → ℕ) where
  -- no number is below a bound if the first is not
  none_below : (m n : ℕ) (xs : List A) → n ≤ m → Rising number m xs → last_below number n xs ≡ None
  none_below m n [] h r = refl
  none_below m n (x ∷ xs) h r = grind (arith, none_below (suc (number x)) n xs (omega (arith, h, r.0)) r.1)

  -- the count is at most the length of the list
  pub count_most : (n : ℕ) (xs : List A) → count_below number n xs ≤ length xs
  count_most n [] = omega arith
  count_most n (x ∷ xs) = elim (nat_lt (number x) n) as (λ b. cond b (suc (count_below number n xs)) 0 ≤ suc (length xs)) [ true ↦ omega (arith, count_most n xs) | false ↦ omega arith ]

  there : (k : ℕ) (xs : List A) → k < length xs → (a : A) × (slice_get xs k ≡ Some a)
  there k [] h = absurd (omega (arith, h))
  there zero (x ∷ xs) h = (x, refl)
  there (suc k) (x ∷ xs) h = there k xs (omega (arith, h))

  later_is : (k : ℕ) (x : A) (xs : List A) (l : Option A) → k ≤ length xs → l ≡ last_of k xs → later_or (Some x) l ≡ slice_get (x ∷ xs) k
  later_is zero x xs l h e = ap (later_or (Some x)) e
  later_is (suc j) x xs l h e = grind (arith, there j xs (omega (arith, h)))

  last_is_by : (n : ℕ) (x : A) (xs : List A) (b : Bool) → nat_lt (number x) n ≡ b → last_below number n xs ≡ last_of (count_below number n xs) xs → Rising number (suc (number x)) xs
      → later_or (where_is b x) (last_below number n xs) ≡ last_of (cond b (suc (count_below number n xs)) 0) (x ∷ xs)
  last_is_by n x xs true e h r = later_is (count_below number n xs) x xs (last_below number n xs) (count_most n xs) h
  last_is_by n x xs false e h r = ap (later_or None) (none_below (suc (number x)) n xs (grind (arith, e)) r)

  -- the last value whose number is below a bound is the last of those that are counted below it
  pub last_is : (m n : ℕ) (xs : List A) → Rising number m xs → last_below number n xs ≡ last_of (count_below number n xs) xs
  last_is m n [] r = refl
  last_is m n (x ∷ xs) r = last_is_by n x xs (nat_lt (number x) n) refl (last_is (suc (number x)) n xs r.1) r.1

  -- ---- counting further

  count_here : (n : ℕ) (xs : List A) (i : ℕ) (x : A) (b : Bool) → slice_get xs i ≡ Some x → nat_lt (number x) n ≡ b → count_below number n (drop i xs) ≡ cond b (suc (count_below number n (drop (i + 1) xs))) 0
  count_here n xs i x b e h = ap (count_below number n) (drop_at xs i x e) ∙ ap (λ b. cond b (suc (count_below number n (drop (i + 1) xs))) 0) h

  -- one more number is below the bound
  pub count_step : (n : ℕ) (xs : List A) (i : ℕ) (x : A) → slice_get xs i ≡ Some x → number x < n → i + count_below number n (drop i xs) ≡ count_below number n xs → i + 1 + count_below number n (drop (i + 1) xs) ≡ count_below number n xs
  count_step n xs i x e h k = grind (arith, count_here n xs i x true e (grind (arith, h)))

  -- the next number is not below the bound
  pub count_stop : (n : ℕ) (xs : List A) (i : ℕ) (x : A) → slice_get xs i ≡ Some x → n ≤ number x → i + count_below number n (drop i xs) ≡ count_below number n xs → i ≡ count_below number n xs
  count_stop n xs i x e h k = grind (arith, count_here n xs i x false e (grind (arith, h)))

  count_on_by : (m n : ℕ) (x : A) (xs : List A) (b : Bool) → nat_lt (number x) m ≡ b → m ≤ n → count_below number m xs + count_below number n (drop (count_below number m xs) xs) ≡ count_below number n xs
      → cond b (suc (count_below number m xs)) 0 + count_below number n (drop (cond b (suc (count_below number m xs)) 0) (x ∷ xs)) ≡ count_below number n (x ∷ xs)
  count_on_by m n x xs b e h k = grind arith

  -- the numbers below a bound are below a greater one
  pub count_on : (m n : ℕ) (xs : List A) → m ≤ n → count_below number m xs + count_below number n (drop (count_below number m xs) xs) ≡ count_below number n xs
  count_on m n [] h = refl
  count_on m n (x ∷ xs) h = count_on_by m n x xs (nat_lt (number x) m) refl h (count_on m n xs h)
