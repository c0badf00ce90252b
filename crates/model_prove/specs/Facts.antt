-- Facts: which values bytes may have, by their addresses. A byte without a fact has any value. This is the abstract
-- domain of sets of values (Cousot and Cousot, POPL 1977), kept for the bytes alone that something is known of.
use Rattle.std.specs.Prelude.{◌≡◌, ℕ, zero, suc, ◌+◌, ◌-◌, Bool, true, false, cond, not, ◌&&◌, ◌||◌, nat_lt, nat_le, ◌==◌, List, [], ◌∷◌, ◌++◌, length, filter, map, unwrap_or, Option, Some, None, ⊤}
use Rattle.model_prove.specs.Sets.{Set, is_in, all_bytes, union, common, is_empty, is_full, is_subset}

-- facts by address, ascending; no set is full
abbrev pub Facts : Type 0
Facts = List (ℕ × Set)

-- the fact of a byte, if there is one
abbrev pub fact_at : Facts → ℕ → Option Set
fact_at [] a = None
fact_at (e ∷ f) a = cond (e.0 == a) (Some e.1) (fact_at f a)

-- the values that a byte may have
abbrev pub values_at : Facts → ℕ → Set
values_at f a = unwrap_or (fact_at f a) all_bytes

-- the values of n bytes from an address on
abbrev pub values_from : Facts → ℕ → ℕ → List Set
values_from f a zero = []
values_from f a (suc n) = values_at f a ∷ values_from f (suc a) n

-- facts without those of one byte
abbrev pub without_byte : ℕ → Facts → Facts
without_byte a f = filter (λ e. not (e.0 == a)) f

-- facts without those of n bytes from an address on
abbrev pub without_bytes : ℕ → ℕ → Facts → Facts
without_bytes a n f = filter (λ e. not (nat_le a e.0 && nat_lt e.0 (a + n))) f

-- the facts of bytes at addresses from low on, below high
abbrev pub within : ℕ → ℕ → Facts → Facts
within low high f = filter (λ e. nat_le low e.0 && nat_lt e.0 high) f

-- a fact before others or among them, in the order of addresses
abbrev pub fact_before : Bool → ℕ × Set → ℕ × Set → Facts → Facts → Facts
fact_before true e d f rest = e ∷ d ∷ f
fact_before false e d f rest = d ∷ rest

-- facts with one more of a byte that has none
abbrev pub with_fact : ℕ × Set → Facts → Facts
with_fact e [] = e ∷ []
with_fact e (d ∷ f) =
    let rest = with_fact e f in
    fact_before (nat_lt e.0 d.0) e d f rest

-- a fact, unless it says nothing
abbrev pub fact_unless : Bool → ℕ × Set → Facts → Facts
fact_unless true e f = f
fact_unless false e f = with_fact e f

-- the facts after a byte has a value of this set
abbrev pub know : ℕ → Set → Facts → Facts
know a s f = fact_unless (is_full s) (a, s) (without_byte a f)

-- the facts after bytes from an address on have values of these sets
abbrev pub know_all : ℕ → List Set → Facts → Facts
know_all a [] f = f
know_all a (s ∷ ss) f = know_all (suc a) ss (know a s f)

-- the facts after bytes from an address on are these
abbrev pub know_bytes : ℕ → List ℕ → Facts → Facts
know_bytes a bs f = know_all a (map (λ b. b ∷ []) bs) f

-- ---- joining

-- a fact of one byte joined with that of another state, if that has one
abbrev pub joined_fact : ℕ × Set → Option Set → Facts → Facts
joined_fact e None rest = rest
joined_fact e (Some t) rest =
    let s = union e.1 t in
    cond (is_full s) rest ((e.0, s) ∷ rest)

-- What holds whichever of two states it is: for each byte with a fact in both the union.
abbrev pub join : Facts → Facts → Facts
join [] g = []
join (e ∷ f) g = joined_fact e (fact_at g e.0) (join f g)

-- whether a fact follows from the values that a byte may have
abbrev pub fact_follows : Facts → ℕ × Set → Bool
fact_follows f e = is_subset (values_at f e.0) e.1

-- whether all facts of the second list follow from the first
abbrev pub follow : Facts → Facts → Bool
follow f [] = true
follow f (e ∷ g) = fact_follows f e && follow f g

-- ---- narrowing

-- facts narrowed, if a value is left
abbrev pub narrowed_to : ℕ → Set → Facts → Option Facts
narrowed_to a s f = cond (is_empty s) None (Some (know a s f))

-- the facts if besides a byte has a value of this set, or none if it has not
abbrev pub narrow : ℕ → Set → Facts → Option Facts
narrow a s f = narrowed_to a (common (values_at f a) s) f

-- the facts if besides bytes from an address on have values of these sets
abbrev pub narrow_all : ℕ → List Set → Option Facts → Option Facts
narrow_all a ss None = None
narrow_all a [] (Some f) = Some f
narrow_all a (s ∷ ss) (Some f) = narrow_all (suc a) ss (narrow a s f)

-- ---- what facts say

-- The bytes of a state: what each address holds.
abbrev pub Memory : Type 0
Memory = ℕ → ℕ

-- each byte with a fact has one of its values
abbrev pub Holds : Facts → Memory → Type 0
Holds [] m = ⊤
Holds (e ∷ f) m = (is_in (m e.0) e.1 ≡ true) × Holds f m
