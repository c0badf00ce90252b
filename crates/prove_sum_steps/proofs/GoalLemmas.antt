-- Where the code finds a place, the table of sums has it.
use Rattle.std.proofs.Common.{◌≡◌, ℕ, zero, suc, ◌+◌, ◌<◌, Bool, true, false, cond, List, [], ◌∷◌, ◌++◌, length, get_or, drop, map, Some, refl, sym, ap, ◌∙◌, arith}
use Rattle.std.specs.List.{AllByRecursion, position}
use Rattle.std.proofs.lemmas.List.{append_assoc, drop_more}
use Rattle.std.proofs.lemmas.List.Quantifiers.{position-Some}
use Rattle.prove_facts.specs.model_prove.specs.Keys.{same_places}
use Rattle.prove_sums.specs.model_sums.specs.Sums.{sums_at}
use Rattle.prove_keys.specs.declared.keys.PlaceKey.{PlaceKey}
use Rattle.prove_keys.specs.Keys.{place_of}
use Rattle.prove_keys.specs.Tables.{IsWholePlace, AreDistinct}
use Rattle.prove_keys.proofs.ListLemmas.{all_at}
use Rattle.prove_keys.proofs.KeyLemmas.{place_eq, place_whole, place_alike, place_one}
use Rattle.prove_sums.specs.declared.values.Sums.{Sums}
use Rattle.prove_sums.specs.Values.{sums_value}
use Rattle.prove_sum_steps.specs.Tables.{sums_of}

not_true : (b : Bool) → (b ≡ true → ⊥) → b ≡ false
not_true true h = absurd (h refl)
not_true false h = refl

cond_true : {A : Type 0} (b : Bool) (x y : A) → b ≡ true → cond b x y ≡ x
cond_true {A} b x y e = ap (λ (c : Bool). cond c x y) e

cond_false : {A : Type 0} (b : Bool) (x y : A) → b ≡ false → cond b x y ≡ y
cond_false {A} b x y e = ap (λ (c : Bool). cond c x y) e

module _ (names : List (List ℕ)) (classes : List (List Bool)) where
  sums_within : (ks : List PlaceKey) (us : List Sums) (k : PlaceKey) (i : ℕ) (g : Sums)
      → AreDistinct classes → AllByRecursion (IsWholePlace (length names) (length classes)) ks → IsWholePlace (length names) (length classes) k
      → i < length ks → place_eq k (get_or ks i k) ≡ true → ((j : ℕ) → j < i → place_eq k (get_or ks j k) ≡ false) → i < length us → g ≡ get_or us i g
      → sums_at (sums_of names classes ks us) (place_of names classes k) ≡ Some (sums_value g)
  sums_within [] us k i g distinct all whole low here before bound is = absurd (omega arith)
  sums_within (l ∷ ks) [] k i g distinct all whole low here before bound is = absurd (omega arith)
  sums_within (l ∷ ks) (u ∷ us) k zero g distinct all whole low here before bound is =
      let alike = place_alike names classes k l here in
      cond_true (same_places (place_of names classes l) (place_of names classes k)) (Some (sums_value u)) _ alike.0
      ∙ ap (λ (x : Sums). Some (sums_value x)) (sym is)
  sums_within (l ∷ ks) (u ∷ us) k (suc i) g distinct all whole low here before bound is =
      let other : place_eq k l ≡ false = before 0 (omega arith) in
      let no : same_places (place_of names classes l) (place_of names classes k) ≡ false =
      not_true _ (λ e. cc (sym (place_one names classes k l distinct whole all.0 e) ∙ other))
      in
      cond_false (same_places (place_of names classes l) (place_of names classes k)) (Some (sums_value u)) _ no
      ∙ sums_within ks us k i g distinct all.1 whole (omega arith) here (λ j h. before (suc j) (omega arith)) (omega arith) is

  -- the table has what is known at a place where the code finds it
  pub sums_found : (ks : List PlaceKey) (us : List Sums) (k : PlaceKey) (i : ℕ) (g : Sums)
      → AreDistinct classes → AllByRecursion (IsWholePlace (length names) (length classes)) ks → position (place_eq k) ks ≡ Some i → i < length us → g ≡ get_or us i g
      → IsWholePlace (length names) (length classes) k × (sums_at (sums_of names classes ks us) (place_of names classes k) ≡ Some (sums_value g))
  sums_found ks us k i g distinct all found bound is =
      let p = position-Some (place_eq k) ks i k found in
      let P = IsWholePlace (length names) (length classes) in
      let whole = place_whole (length names) (length classes) k (get_or ks i k) p.1 (all_at P ks i k p.0 all) in
      (whole, sums_within ks us k i g distinct all whole p.0 p.1 p.2 bound is)

-- ---- lists of goals

-- the values of one element more, and of those that are left
pub values_next : {X Y : Type 0} (f : X → Y) (old new : List X) (x : X) (ys : List Y) (i : ℕ) (y : Y) → new ≡ old ++ x ∷ [] → f x ≡ y → i < length ys → y ≡ get_or ys i y
    → map f old ++ drop i ys ≡ ys → map f new ++ drop (i + 1) ys ≡ ys
values_next {X} {Y} f old new x ys i y e same below is so =
    ap (λ (l : List X). map f l ++ drop (i + 1) ys) e
    ∙ ap (λ (l : List Y). l ++ drop (i + 1) ys) (longer old)
    ∙ append_assoc (map f old) (f x ∷ []) (drop (i + 1) ys)
    ∙ ap (λ (z : Y). map f old ++ z ∷ drop (i + 1) ys) (same ∙ is)
    ∙ ap (λ (l : List Y). map f old ++ l) (sym (drop_more ys i y below))
    ∙ so
  where
    longer : (l : List X) → map f (l ++ x ∷ []) ≡ map f l ++ f x ∷ []
    longer [] = refl
    longer (z ∷ l) = ap (λ (r : List Y). f z ∷ r) (longer l)
