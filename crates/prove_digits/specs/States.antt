-- Walks through bytes: flags that some values lead to, and digits that lie on ways to final flags, as code finds them.
use Rattle.std.specs.Prelude.{◌≡◌, Bool, true, false, cond, not, ◌&&◌, ◌||◌, List, [], ◌∷◌, reverse}
use Rattle.prove_facts.specs.model_prove.specs.Sets.{Set, is_empty}
use Rattle.prove_facts.specs.model_prove.specs.Digits.{Operation, Flags, Digits, join_digit, digits_from}
use Rattle.prove_digits.specs.declared.states.States.{States}
use Rattle.prove_digits.specs.declared.steps.Step.{Step}
use Rattle.prove_digits.specs.declared.turns.Turn.{Turn}
use Rattle.prove_digits.specs.Trios.{no_digits, edge_of}

-- whether flags are in a set
abbrev pub has_state : States → Bool → Bool → Bool
has_state s false false = s.other
has_state s false true = s.zero
has_state s true false = s.carry
has_state s true true = s.both

-- the set of one pair of flags
abbrev pub states_one : Bool → Bool → States
states_one c z = record { other = not c && not z; zero = not c && z; carry = c && not z; both = c && z }

-- what a byte does under a carry
abbrev pub turn_under : Step → Bool → Turn
turn_under s false = s.plain
turn_under s true = s.carried

-- whether some values lead from flags, if they are there, to flags
unfoldable pub leads_from : Step → Bool → Bool → Bool → Bool → Bool
leads_from s c z carry zero = has_state s.before c z && not (is_empty (edge_of (turn_under s c) z carry zero).a)

-- whether some flags pass a test
abbrev pub any_pair : (Bool → Bool → Bool) → Bool
any_pair h = ((h false false || h false true) || h true false) || h true true

-- whether some values lead to flags
unfoldable pub leads_to : Step → Bool → Bool → Bool
leads_to s carry zero = any_pair (λ c z. leads_from s c z carry zero)

-- the flags after a byte
abbrev pub states_after : Step → States
states_after s = record { other = leads_to s false false; zero = leads_to s false true; carry = leads_to s true false; both = leads_to s true true }

-- whether some values lead from flags to some of these
unfoldable pub goes_from : Step → States → Bool → Bool → Bool
goes_from s after c z = any_pair (λ carry zero. has_state after carry zero && leads_from s c z carry zero)

-- the flags before a byte that lead to some of these
abbrev pub states_before : Step → States → States
states_before s after = record { other = goes_from s after false false; zero = goes_from s after false true; carry = goes_from s after true false; both = goes_from s after true true }

-- digits with those that lead from flags to flags, if these are among some
unfoldable pub with_edge : Step → States → Bool → Bool → Bool → Bool → Digits → Digits
with_edge s after c z carry zero d =
    cond (has_state after carry zero && leads_from s c z carry zero) (join_digit d (edge_of (turn_under s c) z carry zero)) d

-- digits with those that lead from flags to some of these
unfoldable pub with_edges : Step → States → Bool → Bool → Digits → Digits
with_edges s after c z d =
    with_edge s after c z true true (with_edge s after c z true false (with_edge s after c z false true (with_edge s after c z false false d)))

-- the digits that lead to some flags after a byte
unfoldable pub found_digits : Step → States → Digits
found_digits s after =
    with_edges s after true true (with_edges s after true false (with_edges s after false true (with_edges s after false false no_digits)))

-- the flags before steps, lowest first, that lead to these after them
abbrev pub back_states : States → List Step → States
back_states f [] = f
back_states f (s ∷ ss) = states_before s (back_states f ss)

-- the digits of steps, lowest first, that lead to these flags after them
abbrev pub back_digits : States → List Step → List Digits
back_digits f [] = []
back_digits f (s ∷ ss) = found_digits s (back_states f ss) ∷ back_digits f ss

-- the flags with the digits that lead to them, the highest first, if they are among the final ones of steps
abbrev pub way_back : States → Bool → Bool → List Step → List (Flags × List Digits)
way_back end c z ss = cond (has_state end c z) ((record { c = c; z = z }, reverse (back_digits (states_one c z) ss)) ∷ []) []

-- a step does what bytes of two sets do, from the flags before it
abbrev pub IsStep : Operation → Set → Set → Step → Type 0
IsStep op s t step =
    (c z : Bool) → has_state step.before c z ≡ true → (carry zero : Bool)
    → edge_of (turn_under step c) z carry zero ≡ digits_from op s t (record { c = c; z = z }) (record { c = carry; z = zero })

-- steps are those of pairs of sets, lowest first, from flags to flags
abbrev pub AreSteps : Operation → States → List (Set × Set) → List Step → States → Type 0
AreSteps op start [] [] end = end ≡ start
AreSteps op start [] (s ∷ ss) end = ⊥
AreSteps op start (p ∷ ps) [] end = ⊥
AreSteps op start (p ∷ ps) (s ∷ ss) end = (s.before ≡ start) × IsStep op p.0 p.1 s × AreSteps op (states_after s) ps ss end
