-- An element of a list by its place, after a write, after one more element, and before the last one.
use Rattle.std.proofs.Common.{◌≡◌, ◌≢◌, ℕ, zero, suc, ◌<◌, List, [], ◌∷◌, ◌++◌, length, set, take, Some, refl, ap, arith}
use Rattle.std.specs.Prelude.{slice_get}

-- the element at the place of a write
pub get_set_same : {X : Type 0} (xs : List X) (i : ℕ) (x : X) → i < length xs → slice_get (set xs i x) i ≡ Some x
get_set_same [] i x lt = absurd (omega arith)
get_set_same (y ∷ ys) zero x lt = refl
get_set_same (y ∷ ys) (suc i) x lt = get_set_same ys i x (omega arith)

-- the element at any other place
pub get_set_other : {X : Type 0} (xs : List X) (i j : ℕ) (x : X) → j ≢ i → slice_get (set xs i x) j ≡ slice_get xs j
get_set_other [] i j x ne = refl
get_set_other (y ∷ ys) zero zero x ne = absurd (ne refl)
get_set_other (y ∷ ys) zero (suc j) x ne = refl
get_set_other (y ∷ ys) (suc i) zero x ne = refl
get_set_other (y ∷ ys) (suc i) (suc j) x ne = get_set_other ys i j x (λ e. ne (ap suc e))

-- the elements before one more do not change
pub get_push_before : {X : Type 0} (xs : List X) (x y : X) (k : ℕ) → slice_get xs k ≡ Some y → slice_get (xs ++ x ∷ []) k ≡ Some y
get_push_before [] x y k e = cc
get_push_before (z ∷ zs) x y zero e = e
get_push_before (z ∷ zs) x y (suc k) e = get_push_before zs x y k e

-- one more element is the last one
pub get_push_last : {X : Type 0} (xs : List X) (x : X) → slice_get (xs ++ x ∷ []) (length xs) ≡ Some x
get_push_last [] x = refl
get_push_last (z ∷ zs) x = get_push_last zs x

-- an element of a list with one more: it was in the list before, or is the new one
pub data Pushed {X : Type 0} (xs : List X) (x : X) (k : ℕ) (y : X) : Type 0 where
  before : k < length xs → slice_get xs k ≡ Some y → Pushed xs x k y
  last : k ≡ length xs → x ≡ y → Pushed xs x k y

pub pushed_behind : {X : Type 0} (z : X) (zs : List X) (x : X) (k : ℕ) (y : X) → Pushed zs x k y → Pushed (z ∷ zs) x (suc k) y
pushed_behind z zs x k y (before lt e) = before (omega arith) e
pushed_behind z zs x k y (last at e) = last (ap suc at) e

pub get_push : {X : Type 0} (xs : List X) (x : X) (k : ℕ) (y : X) → slice_get (xs ++ x ∷ []) k ≡ Some y → Pushed xs x k y
get_push [] x zero y e = last refl (cc)
get_push [] x (suc k) y e = cc
get_push (z ∷ zs) x zero y e = before (omega arith) e
get_push (z ∷ zs) x (suc k) y e = pushed_behind z zs x k y (get_push zs x k y e)

-- an element of a front of the list
pub get_take : {X : Type 0} (n : ℕ) (xs : List X) (k : ℕ) (y : X) → slice_get (take n xs) k ≡ Some y → (k < n) × (slice_get xs k ≡ Some y)
get_take zero xs k y e = cc
get_take (suc n) [] k y e = cc
get_take (suc n) (x ∷ xs) zero y e = (omega arith, e)
get_take (suc n) (x ∷ xs) (suc k) y e = let behind = get_take n xs k y e in (omega (arith, behind.0), behind.1)

pub take_get : {X : Type 0} (n : ℕ) (xs : List X) (k : ℕ) (y : X) → k < n → slice_get xs k ≡ Some y → slice_get (take n xs) k ≡ Some y
take_get zero xs k y lt e = absurd (omega arith)
take_get (suc n) [] k y lt e = cc
take_get (suc n) (x ∷ xs) zero y lt e = e
take_get (suc n) (x ∷ xs) (suc k) y lt e = take_get n xs k y (omega arith) e
