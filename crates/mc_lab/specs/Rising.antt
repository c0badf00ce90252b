-- Values with ascending numbers, and the values with numbers below a bound.
use Rattle.std.specs.Prelude.{ℕ, zero, suc, ◌≤◌, cond, nat_lt, List, [], ◌∷◌, Option, None, slice_get}

-- the numbers ascend strictly, from at least this number on
abbrev pub Rising : {A : Type 0} → (A → ℕ) → ℕ → List A → Type 0
Rising number n [] = Unit {0}
Rising number n (a ∷ rest) = (n ≤ number a) × Rising number (suc (number a)) rest

-- the number of the first values whose numbers are below n
abbrev pub count_below : {A : Type 0} → (A → ℕ) → ℕ → List A → ℕ
count_below number n [] = 0
count_below number n (a ∷ rest) = cond (nat_lt (number a) n) (suc (count_below number n rest)) 0

-- the last of the first `k` values
abbrev pub last_of : {A : Type 0} → ℕ → List A → Option A
last_of zero xs = None
last_of (suc k) xs = slice_get xs k
