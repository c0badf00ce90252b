-- Sets of byte values: what a byte may be. A set is the ascending list of its values.
use Rattle.std.specs.Prelude.{◌≡◌, ℕ, zero, suc, Bool, true, false, ◌&&◌, ◌||◌, nat_lt, nat_le, ◌==◌, List, [], ◌∷◌, length, filter, Option, Some, None}

-- a set of byte values, ascending
abbrev pub Set : Type 0
Set = List ℕ

-- whether a value is in a set
abbrev pub is_in : ℕ → Set → Bool
is_in v [] = false
is_in v (x ∷ xs) = (x == v) || is_in v xs

-- n numbers from one on
abbrev pub numbers_from : ℕ → ℕ → List ℕ
numbers_from k zero = []
numbers_from k (suc n) = k ∷ numbers_from (suc k) n

-- all values of a byte
abbrev pub all_bytes : Set
all_bytes = numbers_from 0 256

-- a value before a set, equal to its first value, or after it
abbrev pub put_before : Bool → Bool → ℕ → ℕ → Set → Set → Set
put_before true same v x xs rest = v ∷ x ∷ xs
put_before false true v x xs rest = x ∷ xs
put_before false false v x xs rest = x ∷ rest

-- a set with a value
abbrev pub with_value : ℕ → Set → Set
with_value v [] = v ∷ []
with_value v (x ∷ xs) =
    let rest = with_value v xs in
    put_before (nat_lt v x) (v == x) v x xs rest

-- the union of two sets
abbrev pub union : Set → Set → Set
union [] t = t
union (x ∷ s) t = with_value x (union s t)

-- the values of one set that are in another
abbrev pub common : Set → Set → Set
common s t = filter (λ v. is_in v t) s

-- the values of some list, as a set
abbrev pub set_of : List ℕ → Set
set_of [] = []
set_of (v ∷ vs) = with_value v (set_of vs)

-- whether a set has no value
abbrev pub is_empty : Set → Bool
is_empty [] = true
is_empty (v ∷ vs) = false

-- whether a set has every value, so that it says nothing
abbrev pub is_full : Set → Bool
is_full s = nat_le 256 (length s)

-- whether each value of a set is in another
abbrev pub is_subset : Set → Set → Bool
is_subset [] t = true
is_subset (v ∷ s) t = is_in v t && is_subset s t

-- the only value of a set, if it has one alone
abbrev pub only_value : Set → Option ℕ
only_value (v ∷ []) = Some v
only_value other = None
