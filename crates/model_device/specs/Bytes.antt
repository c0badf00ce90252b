-- Bytes, numbers of several bytes, lists changed at a place, and finite maps that are keyed by names.
-- A byte is a number below 256, and every number of several bytes is big endian.
use Rattle.std.specs.Prelude.{◌≡◌, ⊤, ℕ, zero, suc, ◌+◌, ◌-◌, ◌*◌, ◌/◌, ◌%◌, ◌^◌, ◌<◌, Bool, true, false, cond, ◌&&◌, ◌||◌, nat_lt, ◌==◌, List, [], ◌∷◌, ◌++◌, length, take, drop, replicate, slice_index, bytes_eq, Option, Some, None}
use Rattle.std.specs.List.{AllByRecursion}

-- each of these numbers is a byte
abbrev pub AreBytes : List ℕ → Type 0
AreBytes = AllByRecursion (λ b. b < 256)

-- n divided by d, rounded up
abbrev pub up : ℕ → ℕ → ℕ
up n d = (n + (d - 1)) / d

-- n divided by d, rounded down
abbrev pub down : ℕ → ℕ → ℕ
down n d = n / d

-- n zero bytes
abbrev pub zeros : ℕ → List ℕ
zeros n = replicate n 0

-- the big-endian number in the two bytes at i
abbrev pub be2 : List ℕ → ℕ → ℕ
be2 b i = 256 * slice_index b i + slice_index b (i + 1)

-- the two bytes of a number below 65,536
abbrev pub bytes2 : ℕ → List ℕ
bytes2 n = (n / 256 % 256) ∷ (n % 256) ∷ []

-- the number that a block of bytes is in big endian
abbrev pub num : List ℕ → ℕ
num [] = 0
num (b ∷ bs) = b * 256 ^ length bs + num bs

-- the block of n bytes of a number modulo 256 ^ n
abbrev pub bytes : ℕ → ℕ → List ℕ
bytes zero v = []
bytes (suc n) v = (v / 256 ^ n % 256) ∷ bytes n v

-- the list with b written over it from `at` on
abbrev pub splice : {A : Type 0} → List A → ℕ → List A → List A
splice l at b = take at l ++ b ++ drop (at + length b) l

-- ---- names and maps

-- whether a name comes before another in a map: lexicographic by bytes, a proper prefix first
abbrev pub name_before : List ℕ → List ℕ → Bool
name_before [] [] = false
name_before [] (y ∷ ys) = true
name_before (x ∷ xs) [] = false
name_before (x ∷ xs) (y ∷ ys) = nat_lt x y || (x == y && name_before xs ys)

-- whether a name is in a list of names
abbrev pub has_name : List ℕ → List (List ℕ) → Bool
has_name n [] = false
has_name n (k ∷ ks) = bytes_eq k n || has_name n ks

-- a finite map: pairs with distinct names, ascending
abbrev pub Map : Type 0 → Type 0
Map A = List (List ℕ × A)

-- names ascend, so that no two are the same
abbrev pub AscendByName : {A : Type 0} → List (List ℕ × A) → Type 0
AscendByName [] = ⊤
AscendByName (e ∷ es) = AllByRecursion (λ f. name_before e.0 f.0 ≡ true) es × AscendByName es

-- the value under a name
abbrev pub lookup : {A : Type 0} → List (List ℕ × A) → List ℕ → Option A
lookup [] n = None
lookup (e ∷ es) n = cond (bytes_eq e.0 n) (Some e.1) (lookup es n)

-- the map with a value under a name, in the place of an earlier one
abbrev pub insert : {A : Type 0} → List (List ℕ × A) → List ℕ → A → List (List ℕ × A)
insert [] n a = (n, a) ∷ []
insert (e ∷ es) n a = cond (bytes_eq e.0 n) ((n, a) ∷ es) (cond (name_before n e.0) ((n, a) ∷ e ∷ es) (e ∷ insert es n a))

-- the map without the entries of a name
abbrev pub remove : {A : Type 0} → List (List ℕ × A) → List ℕ → List (List ℕ × A)
remove [] n = []
remove (e ∷ es) n = cond (bytes_eq e.0 n) (remove es n) (e ∷ remove es n)

-- the first value if there is one, else the second
abbrev pub or_else : {A : Type 0} → Option A → Option A → Option A
or_else (Some x) y = Some x
or_else None y = y
