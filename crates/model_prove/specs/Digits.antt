-- The digits rule: rows that work on blocks run from the lowest byte up with two flags, the carry and whether all was
-- zero so far. A pair of final flags is an outcome where some way through the values of the bytes leads to it, and in it
-- each byte has the values that lie on such a way.
use Rattle.std.specs.Prelude.{◌≡◌, ℕ, ◌+◌, ◌-◌, ◌%◌, Bool, true, false, cond, not, ◌&&◌, ◌||◌, nat_lt, nat_le, ◌==◌, List, [], ◌∷◌, ◌++◌, map, filter, flat_map, bit_and, bit_or, bit_xor, Option, Some, None, ⊤}
use Rattle.model_prove.specs.Sets.{Set, is_in, is_empty, with_value, union}

-- the operations on two bytes
pub data Operation : Type 0 where
  Plus : Operation
  Minus : Operation
  And : Operation
  Or : Operation
  Xor : Operation

-- the carry, and whether all was zero so far
pub record Flags : Type 0 where
  pub c : Bool
  pub z : Bool

-- a carry as a number
abbrev pub carried : Bool → ℕ
carried true = 1
carried false = 0

-- the result of an operation on two bytes and a carry, and the carry after it
abbrev pub digit : Operation → ℕ → ℕ → Bool → ℕ × Bool
digit Plus x y c = ((x + y + carried c) % 256, nat_le 256 (x + y + carried c))
digit Minus x y c = ((256 + x - y - carried c) % 256, nat_lt x (y + carried c))
digit And x y c = (bit_and x y, c)
digit Or x y c = (bit_or x y, c)
digit Xor x y c = (bit_xor x y, c)

-- the flags after it
abbrev pub flags_after : Operation → ℕ → ℕ → Flags → Flags
flags_after op x y f = record { c = (digit op x y f.c).1; z = f.z && ((digit op x y f.c).0 == 0) }

-- the flags before the lowest byte
abbrev pub first_flags : Flags
first_flags = record { c = false; z = true }

-- all flags
abbrev pub all_flags : List Flags
all_flags = record { c = false; z = false } ∷ record { c = false; z = true } ∷ record { c = true; z = false } ∷ record { c = true; z = true } ∷ []

-- whether two booleans are the same
abbrev pub same : Bool → Bool → Bool
same true b = b
same false b = not b

-- whether flags are the same
abbrev pub same_flags : Flags → Flags → Bool
same_flags f g = same f.c g.c && same f.z g.z

-- ---- ways

-- the values of the bytes of both operands and of the result at one digit
pub record Digits : Type 0 where
  pub a : Set
  pub b : Set
  pub r : Set

-- the values of one digit that lead from flags to flags
pub record Arc : Type 0 where
  pub from : Flags
  pub to : Flags
  pub digits : Digits

-- whether some element of a list passes a test
abbrev pub some : (ℕ → Bool) → List ℕ → Bool
some test [] = false
some test (x ∷ xs) = test x || some test xs

-- the results of a value with those of a set, where they lead to these flags, put into a set
abbrev pub results_with : Operation → ℕ → Set → Flags → Flags → Set → Set
results_with op x [] f g rs = rs
results_with op x (y ∷ ys) f g rs =
    let rest = results_with op x ys f g rs in
    cond (same_flags (flags_after op x y f) g) (with_value (digit op x y f.c).0 rest) rest

-- the results of the values of two sets, where they lead to these flags
abbrev pub results_of : Operation → Set → Set → Flags → Flags → Set
results_of op [] t f g = []
results_of op (x ∷ s) t f g = results_with op x t f g (results_of op s t f g)

-- the digits of two sets that lead from flags to flags
abbrev pub digits_from : Operation → Set → Set → Flags → Flags → Digits
digits_from op s t f g =
    record {
      a = filter (λ x. some (λ y. same_flags (flags_after op x y f) g) t) s;
      b = filter (λ y. some (λ x. same_flags (flags_after op x y f) g) s) t;
      r = results_of op s t f g;
    }

-- an arc, if some value leads along it
abbrev pub arc_if : Flags → Flags → Digits → List Arc
arc_if f g d = cond (is_empty d.a) [] (record { from = f; to = g; digits = d } ∷ [])

-- the arcs of one digit, whose bytes have values of these sets
abbrev pub arcs : Operation → Set × Set → List Arc
arcs op p = flat_map (λ f. flat_map (λ g. arc_if f g (digits_from op p.0 p.1 f g)) all_flags) all_flags

-- the digits, lowest first, that lie on some way from flags to the final ones
pub record Way : Type 0 where
  pub from : Flags
  pub digits : List Digits

-- one of two digits
abbrev pub join_digit : Digits → Digits → Digits
join_digit d e = record { a = union d.a e.a; b = union d.b e.b; r = union d.r e.r }

-- digit by digit one of two
abbrev pub join_digits : List Digits → List Digits → List Digits
join_digits [] es = es
join_digits (d ∷ ds) [] = d ∷ ds
join_digits (d ∷ ds) (e ∷ es) = join_digit d e ∷ join_digits ds es

-- the digits of the ways from flags, if one begins there
abbrev pub way_from : List Way → Flags → Option (List Digits)
way_from [] f = None
way_from (w ∷ ws) f = cond (same_flags w.from f) (Some w.digits) (way_from ws f)

-- the ways with one more, joined with that from the same flags
abbrev pub with_way : Way → List Way → List Way
with_way w [] = w ∷ []
with_way w (v ∷ vs) =
    let rest = with_way w vs in
    cond (same_flags v.from w.from) (record { from = v.from; digits = join_digits w.digits v.digits } ∷ vs) (v ∷ rest)

-- an arc before the ways from where it leads
abbrev pub arc_before : Arc → Option (List Digits) → List Way → List Way
arc_before a None ws = ws
arc_before a (Some ds) ws = with_way (record { from = a.from; digits = a.digits ∷ ds }) ws

-- the ways along one of some arcs
abbrev pub ways_along : List Arc → List Way → List Way
ways_along [] tails = []
ways_along (a ∷ more) tails = arc_before a (way_from tails a.to) (ways_along more tails)

-- the ways to the final flags through digits with these arcs, lowest first
abbrev pub ways : Flags → List (List Arc) → List Way
ways final [] = record { from = final; digits = [] } ∷ []
ways final (more ∷ rest) = ways_along more (ways final rest)

-- The digits, lowest first, that lie on some way from the first flags to the final ones, or none if no way leads there.
abbrev pub digits_to : Flags → List (List Arc) → Option (List Digits)
digits_to final all = way_from (ways final all) first_flags

-- ---- numbers, digit by digit

-- the result and the final flags of two numbers, lowest byte first
abbrev pub run : Operation → List (ℕ × ℕ) → Flags → List ℕ × Flags
run op [] f = ([], f)
run op (p ∷ ps) f =
    let rest = run op ps (flags_after op p.0 p.1 f) in
    ((digit op p.0 p.1 f.c).0 ∷ rest.0, rest.1)

-- the values of two numbers are of these sets, byte by byte
abbrev pub AreOf : List (ℕ × ℕ) → List (Set × Set) → Type 0
AreOf [] [] = ⊤
AreOf [] (s ∷ ss) = ⊥
AreOf (p ∷ ps) [] = ⊥
AreOf (p ∷ ps) (s ∷ ss) = (is_in p.0 s.0 ≡ true) × (is_in p.1 s.1 ≡ true) × AreOf ps ss

-- two numbers and their result lie on the digits, byte by byte
abbrev pub LieOn : List (ℕ × ℕ) → List ℕ → List Digits → Type 0
LieOn [] [] ds = ⊤
LieOn [] (r ∷ rs) ds = ⊥
LieOn (p ∷ ps) [] ds = ⊥
LieOn (p ∷ ps) (r ∷ rs) [] = ⊥
LieOn (p ∷ ps) (r ∷ rs) (d ∷ ds) = (is_in p.0 d.a ≡ true) × (is_in p.1 d.b ≡ true) × (is_in r d.r ≡ true) × LieOn ps rs ds

-- The digits rule: whatever values two numbers have, some way leads to their final flags, and they and their result lie
-- on its digits.
abbrev pub DigitsLaw : Type 0
DigitsLaw =
    (op : Operation) (ps : List (ℕ × ℕ)) (ss : List (Set × Set)) → AreOf ps ss
    → (ds : List Digits) × (digits_to (run op ps first_flags).1 (map (arcs op) ss) ≡ Some ds) × LieOn ps (run op ps first_flags).0 ds
