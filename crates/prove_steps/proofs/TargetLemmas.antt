-- The places to which a jump or a call from the stack may lead, one by one.
use Rattle.std.specs.Prelude.{◌≡◌, ℕ, suc, ◌+◌, ◌-◌, ◌*◌, ◌<◌, ◌≤◌, Bool, true, false, cond, ◌&&◌, nat_lt, nat_le, List, [], ◌∷◌, ◌++◌, filter, flat_map, map}
use Rattle.std.proofs.Common.{ap, sym, subst, ◌∙◌, refl, arith}
use Rattle.std.proofs.lemmas.Grind.{flat_map-append}
use Rattle.std.proofs.lemmas.List.Elements.{filter-append}
use Rattle.std.proofs.lemmas.Bool.{ltb-true, ltb-false, lt-leb}
use Rattle.std.proofs.lemmas.List.{append_assoc, append-nil}
use Rattle.prove_facts.specs.model_prove.specs.Arrivals.{Arrival}
use Rattle.prove_facts.specs.model_prove.specs.Facts.{Facts, values_at}
use Rattle.prove_facts.specs.model_prove.specs.Keys.{Tables}
use Rattle.prove_facts.specs.model_prove.specs.Reach.{address_choice, greatest_value, target_choices}
use Rattle.prove_facts.specs.model_prove.specs.Sets.{numbers_from, all_bytes}
use Rattle.prove_facts.specs.model_prove.specs.Splits.{Choice}
use Rattle.prove_facts.specs.model_prove.specs.Tables.{includes_all}
use Rattle.prove_facts.specs.declared.values.Values.{Values}
use Rattle.prove_facts.specs.Sets.{has_value, set_of, values_of}
use Rattle.prove_steps.specs.Steps.{is_target, last_targets}
use Rattle.prove_arrivals.proofs.IncludedLemmas.{both_included, mapped_included}

-- the numbers from one on are this one and those after it
numbers_next : (v n : ℕ) → v < n → numbers_from v (n - v) ≡ v ∷ numbers_from (v + 1) (n - (v + 1))
numbers_next v n below = ap (λ k. numbers_from v k) (left v n below) ∙ ap (λ k. v ∷ numbers_from k (n - (v + 1))) (next v)
  where
    left : (v n : ℕ) → v < n → n - v ≡ suc (n - (v + 1))
    left v n below = omega arith

    next : (v : ℕ) → suc v ≡ v + 1
    next v = omega arith

-- from the last number on there are none
numbers_none : (v n : ℕ) → n ≤ v → numbers_from v (n - v) ≡ []
numbers_none v n end = ap (λ k. numbers_from v k) (none v n end)
  where
    none : (v n : ℕ) → n ≤ v → n - v ≡ 0
    none v n end = omega arith

-- what the numbers from one on lead to that pass a test
module _ (t : Tables) (f : ℕ → List Arrival) (p : ℕ → Bool) where
  pub number_next : (v n : ℕ) (W : Type 0) → v < n → includes_all t (flat_map f (filter p (v ∷ []))) ≡ true
      → (includes_all t (flat_map f (filter p (numbers_from v (n - v)))) ≡ true → W)
      → includes_all t (flat_map f (filter p (numbers_from (v + 1) (n - (v + 1))))) ≡ true → W
  number_next v n W below one before rest =
      let more = numbers_from (v + 1) (n - (v + 1)) in
      let parts : flat_map f (filter p (numbers_from v (n - v))) ≡ flat_map f (filter p (v ∷ [])) ++ flat_map f (filter p more) =
      ap (λ (l : List ℕ). flat_map f (filter p l)) (numbers_next v n below)
      ∙ ap (flat_map f) (filter-append p (v ∷ []) more)
      ∙ flat_map-append f (filter p (v ∷ [])) (filter p more) in
      before (subst (λ (l : List Arrival). includes_all t l ≡ true) (sym parts) (both_included t (flat_map f (filter p (v ∷ []))) (flat_map f (filter p more)) one rest))

  pub numbers_end : (v n : ℕ) → n ≤ v → includes_all t (flat_map f (filter p (numbers_from v (n - v)))) ≡ true
  numbers_end v n end = subst (λ (l : List ℕ). includes_all t (flat_map f (filter p l)) ≡ true) (sym (numbers_none v n end)) refl

-- the last place, if it is not below a limit
last_of : (t : Tables) (f : Choice → List Arrival) (g : ℕ → Choice) (b : Bool) (v : ℕ) → includes_all t (flat_map (λ v. f (g v)) (cond b (v ∷ []) [])) ≡ true
    → includes_all t (flat_map f (cond b (g v ∷ []) [])) ≡ true
last_of t f g true v so = so
last_of t f g false v so = so

-- all places
pub targets_included : (t : Tables) (f : Choice → List Arrival) (k : Facts) (a n : ℕ)
    → includes_all t (flat_map (λ v. f (address_choice a v)) (filter (is_target k a) (numbers_from 0 n))) ≡ true
    → includes_all t (flat_map (λ v. f (address_choice a v)) (last_targets k a n)) ≡ true
    → includes_all t (flat_map f (target_choices k a n)) ≡ true
targets_included t f k a n below last =
    let most = greatest_value (values_at k a) * 256 + greatest_value (values_at k (suc a)) in
    let few = map (address_choice a) (filter (is_target k a) (numbers_from 0 n)) in
    let end = cond (nat_le n most) (address_choice a most ∷ []) [] in
    subst (λ (l : List Arrival). includes_all t l ≡ true) (sym (flat_map-append f few end))
    (both_included t (flat_map f few) (flat_map f end) (mapped_included t f (address_choice a) (filter (is_target k a) (numbers_from 0 n)) below)
    (last_of t f (address_choice a) (nat_le n most) most last))

-- from a place that is the one of a frame
pub targets_at : (t : Tables) (f : Choice → List Arrival) (k : Facts) (a d n : ℕ) → a ≡ d
    → includes_all t (flat_map (λ v. f (address_choice a v)) (filter (is_target k a) (numbers_from 0 n))) ≡ true
    → includes_all t (flat_map (λ v. f (address_choice a v)) (last_targets k a n)) ≡ true
    → includes_all t (flat_map f (target_choices k d n)) ≡ true
targets_at t f k a d n e below last = subst (λ (d : ℕ). includes_all t (flat_map f (target_choices k d n)) ≡ true) e (targets_included t f k a n below last)

-- the greater of two numbers, the way that the greatest of a set has it
abbrev pub greater : ℕ → ℕ → ℕ
greater a b = cond (nat_lt b a) a b

greater_from : (b c d : Bool) (g v r : ℕ) → (b ≡ true → r < v) → (b ≡ false → v ≤ r) → (c ≡ true → cond b v r < g) → (c ≡ false → g ≤ cond b v r) → g ≤ v
    → cond c g (cond b v r) ≡ cond b v r
greater_from true true d g v r h i j k l = absurd (omega (arith, j refl, l))
greater_from true false d g v r h i j k l = refl
greater_from false true d g v r h i j k l = absurd (omega (arith, j refl, i refl, l))
greater_from false false d g v r h i j k l = refl

-- one that is not above another does not matter besides it
greater_below : (g v r : ℕ) → g ≤ v → greater g (greater v r) ≡ greater v r
greater_below g v r below =
    greater_from (nat_lt r v) (nat_lt (greater v r) g) true g v r (ltb-true r v) (ltb-false r v) (ltb-true (greater v r) g) (ltb-false (greater v r) g) below

-- the greatest of the values from one on, with the next
module _ (p : ℕ → Bool) where
  greatest_step : (b : Bool) (v n g most : ℕ) → g ≤ v
      → greater g (greatest_value (cond b (v ∷ filter p (numbers_from (v + 1) (n - (v + 1)))) (filter p (numbers_from (v + 1) (n - (v + 1)))))) ≡ most
      → (cond b v g ≤ v + 1) × (greater (cond b v g) (greatest_value (filter p (numbers_from (v + 1) (n - (v + 1))))) ≡ most)
  greatest_step true v n g most low so =
      (omega arith, sym (greater_below g v (greatest_value (filter p (numbers_from (v + 1) (n - (v + 1))))) low) ∙ so)
  greatest_step false v n g most low so = (omega (arith, low), so)

  pub greatest_next : (v n g new most : ℕ) → v < n → g ≤ v → new ≡ cond (p v) v g → greater g (greatest_value (filter p (numbers_from v (n - v)))) ≡ most
      → (new ≤ v + 1) × (greater new (greatest_value (filter p (numbers_from (v + 1) (n - (v + 1))))) ≡ most)
  greatest_next v n g new most below low e so =
      subst (λ (new : ℕ). (new ≤ v + 1) × (greater new (greatest_value (filter p (numbers_from (v + 1) (n - (v + 1))))) ≡ most)) (sym e)
      (greatest_step (p v) v n g most low (ap (λ (l : List ℕ). greater g (greatest_value (filter p l))) (sym (numbers_next v n below)) ∙ so))

  pub greatest_end : (v n g most : ℕ) → n ≤ v → greater g (greatest_value (filter p (numbers_from v (n - v)))) ≡ most → g ≡ most
  greatest_end v n g most end so =
      greater_none g ∙ ap (λ (l : List ℕ). greater g (greatest_value (filter p l))) (sym (numbers_none v n end)) ∙ so
    where
      none_above : (b : Bool) (g : ℕ) → (b ≡ false → g ≤ 0) → g ≡ cond b g 0
      none_above true g h = refl
      none_above false g h = omega (arith, h refl)

      greater_none : (g : ℕ) → g ≡ greater g 0
      greater_none g = none_above (nat_lt 0 g) g (ltb-false 0 g)

-- nothing is less than zero
zero_least : (b : Bool) (r : ℕ) → (b ≡ true → r < 0) → cond b 0 r ≡ r
zero_least true r h = absurd (omega (arith, h refl))
zero_least false r h = refl

-- the greatest value of a set is that of its values from zero on
pub greatest_first : (s : Values) → greater 0 (greatest_value (filter (has_value s) all_bytes)) ≡ greatest_value (set_of s)
unfolding values_of
greatest_first s = zero_least (nat_lt (greatest_value (set_of s)) 0) (greatest_value (set_of s)) (ltb-true (greatest_value (set_of s)) 0)

-- a test of two bytes, the second of which is known to decide
pub both_are : (x y b c : Bool) → b ≡ x → c ≡ y → b ≡ true → c ≡ (x && y)
both_are x y b c e f t = f ∙ sym (ap (λ (x : Bool). x && y) (sym e ∙ t))

-- there is no last place if it is below the limit
pub last_below : (t : Tables) (f : ℕ → List Arrival) (k : Facts) (a n m : ℕ)
    → m ≡ greatest_value (values_at k a) * 256 + greatest_value (values_at k (suc a)) → m < n
    → includes_all t (flat_map f (last_targets k a n)) ≡ true
last_below t f k a n m e below = subst (λ (m : ℕ). includes_all t (flat_map f (cond (nat_le n m) (m ∷ []) [])) ≡ true) e none
  where
    none : includes_all t (flat_map f (cond (nat_le n m) (m ∷ []) [])) ≡ true
    none = subst (λ (b : Bool). includes_all t (flat_map f (cond b (m ∷ []) [])) ≡ true) (sym (lt-leb n m below)) refl

-- what the numbers from one on are mapped to, one after another
module _ {X : Type 0} (f : ℕ → X) where
  pub mapped_next : (v n : ℕ) (old new all : List X) → v < n → new ≡ old ++ f v ∷ [] → old ++ map f (numbers_from v (n - v)) ≡ all
      → new ++ map f (numbers_from (v + 1) (n - (v + 1))) ≡ all
  mapped_next v n old new all below e so =
      let rest = map f (numbers_from (v + 1) (n - (v + 1))) in
      ap (λ (l : List X). l ++ rest) e
      ∙ append_assoc old (f v ∷ []) rest
      ∙ ap (λ (l : List ℕ). old ++ map f l) (sym (numbers_next v n below))
      ∙ so

  pub mapped_end : (v n : ℕ) (old all : List X) → n ≤ v → old ++ map f (numbers_from v (n - v)) ≡ all → old ≡ all
  mapped_end v n old all end so = sym (append-nil old) ∙ ap (λ (l : List ℕ). old ++ map f l) (sym (numbers_none v n end)) ∙ so
