-- The last compare: what the flags of a comparison left known of a number of several bytes, beyond what each byte may be.
use Rattle.std.specs.Prelude.{◌≡◌, ℕ, zero, suc, ◌+◌, ◌-◌, ◌^◌, Bool, true, false, cond, not, ◌&&◌, ◌||◌, nat_lt, nat_le, ◌==◌, min, max, List, [], ◌∷◌, length, ⊤}
use Rattle.model_rules.specs.model_device.specs.Bytes.{num}
use Rattle.model_prove.specs.Facts.{Memory}

-- which orders of two numbers are possible
pub record Orders : Type 0 where
  pub less : Bool
  pub equal : Bool
  pub greater : Bool

-- nothing; the n-byte number at an address lies from low to high; or which order it may have to that at another
pub data Compare : Type 0 where
  NoCompare : Compare
  Bounds : (at : ℕ) (n : ℕ) (low : ℕ) (high : ℕ) → Compare
  Ordered : (at : ℕ) (n : ℕ) (other : ℕ) (orders : Orders) → Compare

-- ---- joining

-- one of the orders of two states
abbrev pub join_orders : Orders → Orders → Orders
join_orders o p = record { less = o.less || p.less; equal = o.equal || p.equal; greater = o.greater || p.greater }

-- What holds whichever of two states it is: the wider bounds, the union of the orders; of different bytes nothing.
abbrev pub join_compare : Compare → Compare → Compare
join_compare (Bounds a n l h) (Bounds b m k i) = cond (a == b && n == m) (Bounds a n (min l k) (max h i)) NoCompare
join_compare (Ordered a n c o) (Ordered b m d p) = cond (a == b && n == m && c == d) (Ordered a n c (join_orders o p)) NoCompare
join_compare c d = NoCompare

-- ---- forgetting

-- whether n bytes at one address and m at another have one in common
abbrev pub meet : ℕ → ℕ → ℕ → ℕ → Bool
meet a n b m = nat_lt a (b + m) && nat_lt b (a + n)

-- the last compare after m bytes at an address were written or lost
abbrev pub touched : ℕ → ℕ → Compare → Compare
touched b m NoCompare = NoCompare
touched b m (Bounds a n l h) = cond (meet a n b m) NoCompare (Bounds a n l h)
touched b m (Ordered a n c o) = cond (meet a n b m || meet c n b m) NoCompare (Ordered a n c o)

-- the last compare, if all of its bytes lie below an address
abbrev pub compare_below : ℕ → Compare → Compare
compare_below limit NoCompare = NoCompare
compare_below limit (Bounds a n l h) = cond (nat_le (a + n) limit) (Bounds a n l h) NoCompare
compare_below limit (Ordered a n c o) = cond (nat_le (a + n) limit && nat_le (c + n) limit) (Ordered a n c o) NoCompare

-- ---- what it says

-- n bytes from an address on
abbrev pub bytes_from : Memory → ℕ → ℕ → List ℕ
bytes_from m a zero = []
bytes_from m a (suc n) = m a ∷ bytes_from m (suc a) n

-- one of the orders is that of two numbers
abbrev pub has_order : Orders → ℕ → ℕ → Bool
has_order o x y = (o.less && nat_lt x y) || (o.equal && x == y) || (o.greater && nat_lt y x)

-- what the last compare says is so
abbrev pub IsSo : Compare → Memory → Type 0
IsSo NoCompare m = ⊤
IsSo (Bounds a n l h) m = nat_le l (num (bytes_from m a n)) && nat_le (num (bytes_from m a n)) h ≡ true
IsSo (Ordered a n c o) m = has_order o (num (bytes_from m a n)) (num (bytes_from m c n)) ≡ true

-- ---- what flags it leaves

-- the orders that two flags of a subtraction say: a borrow, zero, or neither
abbrev pub orders_of : Bool → Bool → Orders
orders_of c z = record { less = c; equal = not c && z; greater = not c && not z }

-- whether two sets of orders have one in common
abbrev pub have_common : Orders → Orders → Bool
have_common o p = (o.less && p.less) || (o.equal && p.equal) || (o.greater && p.greater)

-- the flags of a row as the numbers from low to high of its operand that lead to them; low is above high if none does
abbrev pub Span : Type 0
Span = ℕ × ℕ

-- the greatest number of n bytes
abbrev pub greatest : ℕ → ℕ
greatest n = 256 ^ n - 1

-- the numbers of n bytes from which subtracting k leaves these flags
abbrev pub span_subtracted : ℕ → ℕ → Bool → Bool → Span
span_subtracted n k true z = cond z (1, 0) (cond (k == 0) (1, 0) (0, k - 1))
span_subtracted n k false true = (k, k)
span_subtracted n k false false = (k + 1, greatest n)

-- the numbers of n bytes to which adding k leaves these flags
abbrev pub span_added : ℕ → ℕ → Bool → Bool → Span
span_added n k false true = cond (k == 0) (0, 0) (1, 0)
span_added n k false false = cond (k == 0) (1, greatest n) (0, greatest n - k)
span_added n k true true = cond (k == 0) (1, 0) (256 ^ n - k, 256 ^ n - k)
span_added n k true false = (256 ^ n - k + 1, greatest n)

-- whether two spans have a number in common
abbrev pub spans_meet : ℕ → ℕ → ℕ → ℕ → Bool
spans_meet l h k i = nat_le (max l k) (min h i)

-- whether the last compare allows that the n bytes at an address are a number of this span
abbrev pub allows_span : Compare → ℕ → ℕ → Span → Bool
allows_span (Bounds b m l h) a n s = not (a == b && n == m) || spans_meet l h s.0 s.1
allows_span c a n s = true

-- whether it allows that n bytes at two addresses have one of these orders
abbrev pub allows_orders : Compare → ℕ → ℕ → ℕ → Orders → Bool
allows_orders (Ordered b m d o) a n c p = not (a == b && n == m && c == d) || have_common o p
allows_orders c a n d p = true
