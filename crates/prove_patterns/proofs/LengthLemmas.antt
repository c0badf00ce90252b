-- Whether a set has a value that passes a test.
use Rattle.std.proofs.Common.{◌≡◌, ◌∙◌, ℕ, ◌<◌, Bool, true, false, cond, List, [], ◌∷◌, ap, sym, refl, arith}
use Rattle.std.specs.Prelude.{not, ◌&&◌, ◌||◌, nat_lt, nat_le, filter}
use Rattle.std.proofs.lemmas.Bool.Decides.{nat_tests}
use Rattle.prove_facts.specs.model_prove.specs.Sets.{Set, is_empty}
use Rattle.prove_facts.specs.model_prove.specs.Arrivals.{some_value}
use Rattle.prove_facts.specs.Sets.{has_bit, values_of}
use Rattle.prove_patterns.specs.Lengths.{lengths_value}
use Rattle.prove_facts.proofs.SetLemmas.{values_are, in_filter, in_values, out_values, rises_values, rises_filter}

filter_is : (ws xs : List ℕ) (p : ℕ → Bool) → ((v : ℕ) → v < 256 → has_bit ws v ≡ has_bit xs v && p v) → values_of ws ≡ filter p (values_of xs)
filter_is ws xs p h =
    values_are ws (filter p (values_of xs)) (rises_filter p 0 (values_of xs) (rises_values xs))
    (λ v l. h v l ∙ sym (in_filter p v (values_of xs) ∙ ap (λ (b : Bool). b && p v) (in_values xs v l)))
    (λ v g. in_filter p v (values_of xs) ∙ ap (λ (b : Bool). b && p v) (out_values xs v g))

some_by : (b r : Bool) (v : ℕ) (f : Set) → r ≡ not (is_empty f) → (b || r) ≡ not (is_empty (cond b (v ∷ f) f))
some_by true r v f e = refl
some_by false r v f e = e

some_filter : (p : ℕ → Bool) (s : Set) → some_value p s ≡ not (is_empty (filter p s))
some_filter p [] = refl
some_filter p (v ∷ vs) = some_by (p v) (some_value p vs) v (filter p vs) (some_filter p vs)

-- the values that pass are none, or some
pub some_is : (ws xs : List ℕ) (p : ℕ → Bool) → ((v : ℕ) → v < 256 → has_bit ws v ≡ has_bit xs v && p v) → not (is_empty (values_of ws)) ≡ some_value p (values_of xs)
some_is ws xs p h = ap (λ (s : Set). not (is_empty s)) (filter_is ws xs p h) ∙ sym (some_filter p (values_of xs))

-- ---- tests of a byte

pub above_0 : (v : ℕ) → v < 256 → nat_lt 0 v ≡ (nat_le 1 v && nat_le v 255)
above_0 v h = grind (arith, nat_tests)

pub below_4 : (v : ℕ) → v < 256 → nat_lt v 4 ≡ (nat_le 0 v && nat_le v 3)
below_4 v h = grind (arith, nat_tests)

pub above_4 : (v : ℕ) → v < 256 → nat_lt 4 v ≡ (nat_le 5 v && nat_le v 255)
above_4 v h = grind (arith, nat_tests)

pub is_small : (4 < 256) × (0 < 256)
is_small = (omega arith, omega arith)

-- lengths that are alike
pub lengths_are : (a x b y c z : Bool) → a ≡ x → b ≡ y → c ≡ z → lengths_value (record { some = a; fitting = b; too_long = c }) ≡ record { some = x; fitting = y; too_long = z }
lengths_are a x b y c z e f g = cc
