-- Tests that all of a list pass.
use Rattle.std.specs.Prelude.{◌≡◌, ℕ, suc, ◌+◌, ◌-◌, ◌*◌, ◌<◌, ◌≤◌, Bool, true, false, cond, nat_le, List, [], ◌∷◌, ◌++◌, length, drop, get_or, filter, map}
use Rattle.std.proofs.Common.{ap, sym, subst, refl, ◌∙◌, arith}
use Rattle.std.proofs.lemmas.Bool.{and_parts, and_from, lt-leb}
use Rattle.std.proofs.lemmas.List.{append-nil, drop_more, drop_all}
use Rattle.std.proofs.lemmas.List.Elements.{filter-append}
use Rattle.prove_facts.specs.model_prove.specs.Facts.{Facts, values_at}
use Rattle.prove_facts.specs.model_prove.specs.Reach.{address_choice, greatest_value, target_choices}
use Rattle.prove_facts.specs.model_prove.specs.Sets.{numbers_from}
use Rattle.prove_facts.specs.model_prove.specs.Arrivals.{Setting}
use Rattle.prove_facts.specs.model_prove.specs.Splits.{Choice, combinations, few_combinations}
use Rattle.prove_sums.specs.model_sums.specs.Closed.{Turn, all_pass, choices_closed, first_choice_closed}
use Rattle.prove_sums.specs.model_sums.specs.Sums.{SumsTable}
use Rattle.prove_steps.specs.Steps.{is_target, last_targets}

module _ {A : Type 0} (test : A → Bool) where
  -- one, three, and two lists
  pub pass_one : (x : A) → test x ≡ true → all_pass test (x ∷ []) ≡ true
  pass_one x h = and_from _ _ h refl

  pub pass_three : (x y z : A) → test x ≡ true → test y ≡ true → test z ≡ true → all_pass test (x ∷ y ∷ z ∷ []) ≡ true
  pass_three x y z h g k = and_from _ _ h (and_from _ _ g (pass_one z k))

  pub pass_both : (xs ys : List A) → all_pass test xs ≡ true → all_pass test ys ≡ true → all_pass test (xs ++ ys) ≡ true
  pass_both [] ys h g = g
  pass_both (x ∷ xs) ys h g =
      let p = and_parts (test x) (all_pass test xs) h in
      and_from _ _ p.0 (pass_both xs ys p.1 g)

  -- the next of some
  pub next_passes : (xs : List A) (i : ℕ) (d : A) (W : Type 0) → i < length xs → test (get_or xs i d) ≡ true
      → (all_pass test (drop i xs) ≡ true → W) → all_pass test (drop (i + 1) xs) ≡ true → W
  next_passes xs i d W below one before rest =
      before (subst (λ (l : List A). all_pass test l ≡ true) (sym (drop_more xs i d below)) (and_from _ _ one rest))

  pub element_passes : (xs : List A) (i : ℕ) (x : A) (W : Type 0) → i < length xs → x ≡ get_or xs i x → test x ≡ true
      → (all_pass test (drop i xs) ≡ true → W) → all_pass test (drop (i + 1) xs) ≡ true → W
  element_passes xs i x W below e one before rest = next_passes xs i x W below (subst (λ (y : A). test y ≡ true) e one) before rest

  -- none are left
  pub none_pass : (xs : List A) (i : ℕ) → length xs ≤ i → all_pass test (drop i xs) ≡ true
  none_pass xs i h = subst (λ (l : List A). all_pass test l ≡ true) (sym (drop_all i xs h)) refl

-- what a list is made of
pub pass_map : {A B : Type 0} (test : B → Bool) (g : A → B) (xs : List A) → all_pass (λ x. test (g x)) xs ≡ true → all_pass test (map g xs) ≡ true
pass_map test g [] h = h
pass_map test g (x ∷ xs) h =
    let p = and_parts (test (g x)) (all_pass (λ x. test (g x)) xs) h in
    and_from _ _ p.0 (pass_map test g xs p.1)

pub pass_unmap : {A B : Type 0} (test : B → Bool) (g : A → B) (xs : List A) → all_pass test (map g xs) ≡ true → all_pass (λ x. test (g x)) xs ≡ true
pass_unmap test g [] h = h
pass_unmap test g (x ∷ xs) h =
    let p = and_parts (test (g x)) (all_pass test (map g xs)) h in
    and_from _ _ p.0 (pass_unmap test g xs p.1)

-- a test that is passed where another is
pub pass_alike : {A : Type 0} (test other : A → Bool) (xs : List A) → ((x : A) → test x ≡ true → other x ≡ true) → all_pass test xs ≡ true → all_pass other xs ≡ true
pass_alike test other [] f h = h
pass_alike test other (x ∷ xs) f h =
    let p = and_parts (test x) (all_pass test xs) h in
    and_from _ _ (f x p.0) (pass_alike test other xs f p.1)

-- the values of a list, of which the next pass
module _ {X Y : Type 0} (test : Y → Bool) (g : X → Y) (xs : List X) where
  pub item_passes : (i : ℕ) (x : X) (W : Type 0) → i < length xs → x ≡ get_or xs i x → test (g x) ≡ true
      → (all_pass (λ x. test (g x)) (drop i xs) ≡ true → W) → all_pass (λ x. test (g x)) (drop (i + 1) xs) ≡ true → W
  item_passes i x W below e one before rest =
      next_passes (λ x. test (g x)) xs i x W below (subst (λ (y : X). test (g y) ≡ true) e one) before rest

  pub all_passed : (i : ℕ) → length xs ≤ i → (all_pass (λ x. test (g x)) (drop i xs) ≡ true → all_pass test (map g xs) ≡ true)
      → all_pass test (map g xs) ≡ true
  all_passed i end so = so (none_pass (λ x. test (g x)) xs i end)

  pub whole_passes : all_pass (λ x. test (g x)) (drop 0 xs) ≡ true → all_pass test (map g xs) ≡ true
  whole_passes so = pass_map test g xs so

-- ---- numbers

-- the numbers from one on are this one and those after it
numbers_next : (v n : ℕ) → v < n → numbers_from v (n - v) ≡ v ∷ numbers_from (v + 1) (n - (v + 1))
numbers_next v n below = ap (λ k. numbers_from v k) (left v n below) ∙ ap (λ k. v ∷ numbers_from k (n - (v + 1))) (next v)
  where
    left : (v n : ℕ) → v < n → n - v ≡ suc (n - (v + 1))
    left v n below = omega arith

    next : (v : ℕ) → suc v ≡ v + 1
    next v = omega arith

-- from the last number on there are none
numbers_none : (v n : ℕ) → n ≤ v → numbers_from v (n - v) ≡ []
numbers_none v n end = ap (λ k. numbers_from v k) (none v n end)
  where
    none : (v n : ℕ) → n ≤ v → n - v ≡ 0
    none v n end = omega arith

-- the numbers from one on that are picked
module _ (test : ℕ → Bool) (p : ℕ → Bool) where
  pub number_passes : (v n : ℕ) (W : Type 0) → v < n → all_pass test (filter p (v ∷ [])) ≡ true
      → (all_pass test (filter p (numbers_from v (n - v))) ≡ true → W)
      → all_pass test (filter p (numbers_from (v + 1) (n - (v + 1)))) ≡ true → W
  number_passes v n W below one before rest =
      let more = numbers_from (v + 1) (n - (v + 1)) in
      let parts : filter p (numbers_from v (n - v)) ≡ filter p (v ∷ []) ++ filter p more =
      ap (filter p) (numbers_next v n below) ∙ filter-append p (v ∷ []) more in
      before (subst (λ (l : List ℕ). all_pass test l ≡ true) (sym parts) (pass_both test (filter p (v ∷ [])) (filter p more) one rest))

  pub numbers_end : (v n : ℕ) → n ≤ v → all_pass test (filter p (numbers_from v (n - v))) ≡ true
  numbers_end v n end = subst (λ (l : List ℕ). all_pass test (filter p l) ≡ true) (sym (numbers_none v n end)) refl

  pub picked_passes : (v : ℕ) → p v ≡ true → test v ≡ true → all_pass test (filter p (v ∷ [])) ≡ true
  picked_passes v e so = subst (λ (b : Bool). all_pass test (cond b (v ∷ []) []) ≡ true) (sym e) (pass_one test v so)

  pub left_out : (v : ℕ) → p v ≡ false → all_pass test (filter p (v ∷ [])) ≡ true
  left_out v e = subst (λ (b : Bool). all_pass test (cond b (v ∷ []) []) ≡ true) (sym e) refl

-- ---- targets

-- the last place, if it is not below a limit
last_of : (test : Choice → Bool) (g : ℕ → Choice) (b : Bool) (v : ℕ) → all_pass (λ v. test (g v)) (cond b (v ∷ []) []) ≡ true
    → all_pass test (cond b (g v ∷ []) []) ≡ true
last_of test g true v so = so
last_of test g false v so = so

-- all places
pub targets_pass : (test : Choice → Bool) (k : Facts) (a n : ℕ)
    → all_pass (λ v. test (address_choice a v)) (filter (is_target k a) (numbers_from 0 n)) ≡ true
    → all_pass (λ v. test (address_choice a v)) (last_targets k a n) ≡ true
    → all_pass test (target_choices k a n) ≡ true
targets_pass test k a n below last =
    let most = greatest_value (values_at k a) * 256 + greatest_value (values_at k (suc a)) in
    pass_both test (map (address_choice a) (filter (is_target k a) (numbers_from 0 n))) (cond (nat_le n most) (address_choice a most ∷ []) [])
    (pass_map test (address_choice a) (filter (is_target k a) (numbers_from 0 n)) below)
    (last_of test (address_choice a) (nat_le n most) most last)

-- from a place that is the one of a frame
pub targets_at : (test : Choice → Bool) (k : Facts) (a d n : ℕ) → a ≡ d
    → all_pass (λ v. test (address_choice a v)) (filter (is_target k a) (numbers_from 0 n)) ≡ true
    → all_pass (λ v. test (address_choice a v)) (last_targets k a n) ≡ true
    → all_pass test (target_choices k d n) ≡ true
targets_at test k a d n e below last = subst (λ (d : ℕ). all_pass test (target_choices k d n) ≡ true) e (targets_pass test k a n below last)

-- the last place passes, or is below the limit
pub last_passes : (test : ℕ → Bool) (k : Facts) (a n m : ℕ)
    → m ≡ greatest_value (values_at k a) * 256 + greatest_value (values_at k (suc a)) → test m ≡ true
    → all_pass test (last_targets k a n) ≡ true
last_passes test k a n m e so = subst (λ (m : ℕ). all_pass test (cond (nat_le n m) (m ∷ []) []) ≡ true) e (by_test (nat_le n m))
  where
    by_test : (b : Bool) → all_pass test (cond b (m ∷ []) []) ≡ true
    by_test true = pass_one test m so
    by_test false = refl

pub last_below : (test : ℕ → Bool) (k : Facts) (a n m : ℕ)
    → m ≡ greatest_value (values_at k a) * 256 + greatest_value (values_at k (suc a)) → m < n
    → all_pass test (last_targets k a n) ≡ true
last_below test k a n m e below = subst (λ (m : ℕ). all_pass test (cond (nat_le n m) (m ∷ []) []) ≡ true) e none
  where
    none : all_pass test (cond (nat_le n m) (m ∷ []) []) ≡ true
    none = subst (λ (b : Bool). all_pass test (cond b (m ∷ []) []) ≡ true) (sym (lt-leb n m below)) refl

-- ---- choices

-- a first choice after which no bytes decide
pub alone_passes : (test : Choice → Bool) (k : Facts) (c : Choice) (places : List ℕ) → length places ≡ 0
    → test c ≡ true → all_pass (λ d. test (c ++ d)) (combinations k places) ≡ true
alone_passes test k c [] none so =
    pass_one (λ (d : Choice). test (c ++ d)) [] (subst (λ (d : Choice). test d ≡ true) (sym (append-nil c)) so)
alone_passes test k c (a ∷ places) none so = absurd (omega (arith, none))

-- no bytes decide, so that there is one choice, of none
pub few_alone : (jump : Bool) (s : Setting) (u : SumsTable) (w : Turn) (k : Facts) (places : List ℕ) → length places ≡ 0
    → first_choice_closed s u w [] ≡ true → choices_closed (few_combinations k places) jump s u w ≡ true
few_alone jump s u w k [] none so = pass_one (first_choice_closed s u w) [] so
few_alone jump s u w k (a ∷ places) none so = absurd (omega (arith, none))
