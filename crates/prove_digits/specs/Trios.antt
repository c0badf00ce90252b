-- Digits of one byte: what trios of sets stand for, how they grow by one value of the second byte, and what a byte does
-- under a carry.
use Rattle.std.specs.Prelude.{◌≡◌, ◌⊎◌, ℕ, Bool, true, false, cond, [], ◌∷◌}
use Rattle.prove_facts.specs.model_prove.specs.Sets.{Set, is_in, is_empty, union}
use Rattle.prove_facts.specs.model_prove.specs.Digits.{Operation, Plus, Minus, flags_after, same_flags, Digits, join_digit, digits_from}
use Rattle.prove_facts.specs.Sets.{set_of}
use Rattle.prove_digits.specs.declared.trios.Trio.{Trio}
use Rattle.prove_digits.specs.declared.turns.Split.{Split}
use Rattle.prove_digits.specs.declared.turns.Turn.{Turn}

-- the digits that a trio stands for
abbrev pub trio_value : Trio → Digits
trio_value t = record { a = set_of t.x; b = set_of t.y; r = set_of t.r }

-- no values
abbrev pub no_digits : Digits
no_digits = record { a = []; b = []; r = [] }

-- digits with values of the first byte, if there are some, with one of the second, and with their results
abbrev pub grown : Digits → Set → ℕ → Set → Digits
grown d xs y rs = cond (is_empty xs) d (record { a = union d.a xs; b = union d.b (y ∷ []); r = union d.r rs })

-- digits after others: with the values of the first byte that pass a test, with one of the second, and with their
-- results
pub record IsGrown (d e : Digits) (test : ℕ → Bool) (y : ℕ) (result : ℕ → ℕ) : Type 0 where
  pub keeps_a : (v : ℕ) → is_in v d.a ≡ true → is_in v e.a ≡ true
  pub keeps_b : (v : ℕ) → is_in v d.b ≡ true → is_in v e.b ≡ true
  pub keeps_r : (v : ℕ) → is_in v d.r ≡ true → is_in v e.r ≡ true
  pub adds_a : (x : ℕ) → test x ≡ true → is_in x e.a ≡ true
  pub adds_b : (x : ℕ) → test x ≡ true → is_in y e.b ≡ true
  pub adds_r : (x : ℕ) → test x ≡ true → is_in (result x) e.r ≡ true
  pub from_a : (v : ℕ) → is_in v e.a ≡ true → (is_in v d.a ≡ true) ⊎ (test v ≡ true)
  pub from_b : (v : ℕ) → is_in v e.b ≡ true → (is_in v d.b ≡ true) ⊎ ((v ≡ y) × ((x : ℕ) × (test x ≡ true)))
  pub from_r : (v : ℕ) → is_in v e.r ≡ true → (is_in v d.r ≡ true) ⊎ ((x : ℕ) × (test x ≡ true) × (result x ≡ v))

-- whether two bytes lead, under a carry, to a carry, and to a zero or not
abbrev pub leads_on : Operation → Bool → Bool → Bool → ℕ → ℕ → Bool
leads_on op carry c z x y = same_flags (flags_after op x y (record { c = carry; z = true })) (record { c = c; z = z })

-- a sum or a difference
abbrev pub sum_of : Bool → Operation
sum_of true = Minus
sum_of false = Plus

-- what makes a zero or not
abbrev pub trio_in : Split → Bool → Trio
trio_in s false = s.other
trio_in s true = s.zero

-- what makes a carry, and a zero or not
abbrev pub trio_at : Turn → Bool → Bool → Trio
trio_at t false z = trio_in t.clear z
trio_at t true z = trio_in t.set z

-- the digits that lead to flags, if all was zero so far or not
abbrev pub edge_of : Turn → Bool → Bool → Bool → Digits
edge_of t true c z = trio_value (trio_at t c z)
edge_of t false c true = no_digits
edge_of t false c false = join_digit (trio_value (trio_at t c false)) (trio_value (trio_at t c true))

-- what bytes of two sets do under a carry
abbrev pub IsTurn : Operation → Set → Set → Bool → Turn → Type 0
IsTurn op s t carry turn =
    (c z : Bool) → trio_value (trio_at turn c z) ≡ digits_from op s t (record { c = carry; z = true }) (record { c = c; z = z })
