-- Lists whose values are related one by one, and values of a list by their places.
use Rattle.std.proofs.Common.{◌≡◌, ◌⊎◌, inl, inr, ℕ, zero, suc, ◌+◌, ◌<◌, ◌≤◌, List, [], ◌∷◌, ◌++◌, length, drop, Some, refl, arith, sym, ap, subst, slice_get, add-one, ◌∙◌}
use Rattle.std.specs.List.{AllByRecursion}
use Rattle.lab_rules.specs.Meanings.{AlikeLists}

-- ---- places

-- a value of a list is one of a longer list, at its place
pub get_front : {X : Type 0} (xs ys : List X) (i : ℕ) (x : X) → slice_get xs i ≡ Some x → slice_get (xs ++ ys) i ≡ Some x
get_front [] ys i x h = absurd (cc h)
get_front (y ∷ xs) ys zero x h = h
get_front (y ∷ xs) ys (suc i) x h = get_front xs ys i x h

-- a value of a list with one more is one of the list, or that one
pub get_more : {X : Type 0} (xs : List X) (y : X) (i : ℕ) (x : X) → slice_get (xs ++ y ∷ []) i ≡ Some x → (slice_get xs i ≡ Some x) ⊎ ((i ≡ length xs) × (x ≡ y))
get_more [] y zero x h = inr (refl, cc h)
get_more [] y (suc i) x h = absurd (cc h)
get_more (z ∷ xs) y zero x h = inl h
get_more (z ∷ xs) y (suc i) x h =
    elim (get_more xs y i x h) [
      | inl e ↦ inl e
      | inr e ↦ inr (ap suc e.0, e.1)
    ]

drop_next : {X : Type 0} (xs : List X) (i : ℕ) (x : X) → slice_get xs i ≡ Some x → drop i xs ≡ x ∷ drop (suc i) xs
drop_next [] i x h = absurd (cc h)
drop_next (y ∷ xs) zero x h = ap (λ z. z ∷ xs) (cc h)
drop_next (y ∷ xs) (suc i) x h = drop_next xs i x h

-- a list from a place on begins with the value there
pub drop_at : {X : Type 0} (xs : List X) (i : ℕ) (x : X) → slice_get xs i ≡ Some x → drop i xs ≡ x ∷ drop (i + 1) xs
drop_at xs i x h = subst (λ (k : ℕ). drop i xs ≡ x ∷ drop k xs) (sym (add-one i)) (drop_next xs i x h)

-- a list from its end on is empty
pub drop_past : {X : Type 0} (xs : List X) (i : ℕ) → length xs ≤ i → drop i xs ≡ []
drop_past [] zero h = refl
drop_past [] (suc i) h = refl
drop_past (y ∷ xs) zero h = absurd (omega (arith, h))
drop_past (y ∷ xs) (suc i) h = drop_past xs i (omega (arith, h))

-- what holds of all values holds of that at a place
pub all_get : {X : Type 0} (P : X → Type 0) (xs : List X) (i : ℕ) (x : X) → AllByRecursion P xs → slice_get xs i ≡ Some x → P x
all_get P [] i x h g = absurd (cc g)
all_get P (y ∷ xs) zero x h g = subst P (cc g) h.0
all_get P (y ∷ xs) (suc i) x h g = all_get P xs i x h.1 g

-- ---- lists

-- a value of the second list has a related one at its place in the first
pub alike_get : {A B : Type 0} (R : A → B → Type 0) (xs : List A) (ys : List B) (i : ℕ) (y : B) → AlikeLists R xs ys → slice_get ys i ≡ Some y
    → (x : A) × (slice_get xs i ≡ Some x) × R x y
alike_get R [] [] i y h g = absurd (cc g)
alike_get R [] (z ∷ ys) i y h g = absurd h
alike_get R (x ∷ xs) [] i y h g = absurd h
alike_get R (x ∷ xs) (z ∷ ys) zero y h g = (x, refl, subst (R x) (cc g) h.0)
alike_get R (x ∷ xs) (z ∷ ys) (suc i) y h g = alike_get R xs ys i y h.1 g

-- a value of the first list has a related one at its place in the second
pub alike_get_second : {A B : Type 0} (R : A → B → Type 0) (xs : List A) (ys : List B) (i : ℕ) (x : A) → AlikeLists R xs ys → slice_get xs i ≡ Some x
    → (y : B) × (slice_get ys i ≡ Some y) × R x y
alike_get_second R [] [] i x h g = absurd (cc g)
alike_get_second R [] (z ∷ ys) i x h g = absurd h
alike_get_second R (z ∷ xs) [] i x h g = absurd h
alike_get_second R (z ∷ xs) (y ∷ ys) zero x h g = (y, refl, subst (λ a. R a y) (cc g) h.0)
alike_get_second R (z ∷ xs) (y ∷ ys) (suc i) x h g = alike_get_second R xs ys i x h.1 g

-- related lists are equally long
pub alike_length : {A B : Type 0} (R : A → B → Type 0) (xs : List A) (ys : List B) → AlikeLists R xs ys → length xs ≡ length ys
alike_length R [] [] h = refl
alike_length R [] (y ∷ ys) h = absurd h
alike_length R (x ∷ xs) [] h = absurd h
alike_length R (x ∷ xs) (y ∷ ys) h = ap suc (alike_length R xs ys h.1)

-- a list that is as long as one is as long as the other
pub as_long : {A B C : Type 0} (R : A → B → Type 0) (xs : List A) (ys : List B) (zs : List C) → AlikeLists R xs ys → length zs ≡ length xs → length zs ≡ length ys
as_long R xs ys zs h e = e ∙ alike_length R xs ys h

-- related lists one after the other are related
pub alike_append : {A B : Type 0} (R : A → B → Type 0) (xs us : List A) (ys vs : List B) → AlikeLists R xs ys → AlikeLists R us vs → AlikeLists R (xs ++ us) (ys ++ vs)
alike_append R [] us [] vs h g = g
alike_append R [] us (y ∷ ys) vs h g = absurd h
alike_append R (x ∷ xs) us [] vs h g = absurd h
alike_append R (x ∷ xs) us (y ∷ ys) vs h g = (h.0, alike_append R xs us ys vs h.1 g)

-- related lists with one more related value each are related
pub alike_more : {A B : Type 0} (R : A → B → Type 0) (xs : List A) (ys : List B) (x : A) (y : B) → AlikeLists R xs ys → R x y → AlikeLists R (xs ++ x ∷ []) (ys ++ y ∷ [])
alike_more R xs ys x y h r = alike_append R xs (x ∷ []) ys (y ∷ []) h (r, tt)

-- lists stay related under a weaker relation
pub alike_other : {A B : Type 0} (R S : A → B → Type 0) → ((x : A) (y : B) → R x y → S x y) → (xs : List A) (ys : List B) → AlikeLists R xs ys → AlikeLists S xs ys
alike_other R S f [] [] h = tt
alike_other R S f [] (y ∷ ys) h = absurd h
alike_other R S f (x ∷ xs) [] h = absurd h
alike_other R S f (x ∷ xs) (y ∷ ys) h = (f x y h.0, alike_other R S f xs ys h.1)

-- there is a value at each place before the end
pub get_within : {X : Type 0} (xs : List X) (i : ℕ) → i < length xs → (x : X) × (slice_get xs i ≡ Some x)
get_within [] i h = absurd (omega (arith, h))
get_within (y ∷ xs) zero h = (y, refl)
get_within (y ∷ xs) (suc i) h = get_within xs i (omega (arith, h))
