-- Tables that include lists of outcomes, part by part.
use Rattle.std.specs.Prelude.{◌≡◌, ℕ, ◌+◌, ◌<◌, ◌≤◌, Bool, true, false, cond, List, [], ◌∷◌, ◌++◌, length, drop, get_or, flat_map, map}
use Rattle.std.proofs.Common.{ap, sym, subst, refl}
use Rattle.std.proofs.lemmas.Bool.{and_parts, and_from}
use Rattle.std.proofs.lemmas.List.{drop_more, drop_all}
use Rattle.prove_facts.specs.model_prove.specs.Keys.{Tables}
use Rattle.prove_facts.specs.model_prove.specs.Arrivals.{Arrival}
use Rattle.prove_facts.specs.model_prove.specs.Tables.{includes, includes_all}

-- one outcome
pub one_included : (t : Tables) (a : Arrival) → includes t a ≡ true → includes_all t (a ∷ []) ≡ true
one_included t a h = and_from _ _ h refl

-- an outcome and more
pub more_included : (t : Tables) (a : Arrival) (more : List Arrival) → includes t a ≡ true → includes_all t more ≡ true → includes_all t (a ∷ more) ≡ true
more_included t a more h g = and_from _ _ h g

-- two lists
pub both_included : (t : Tables) (a b : List Arrival) → includes_all t a ≡ true → includes_all t b ≡ true → includes_all t (a ++ b) ≡ true
both_included t [] b h g = g
both_included t (x ∷ a) b h g =
    let p = and_parts _ _ h in
    and_from _ _ p.0 (both_included t a b p.1 g)

-- the parts of two lists
pub parts_included : (t : Tables) (a b : List Arrival) → includes_all t (a ++ b) ≡ true → (includes_all t a ≡ true) × (includes_all t b ≡ true)
parts_included t [] b h = (refl, h)
parts_included t (x ∷ a) b h =
    let p = and_parts _ _ h in
    let q = parts_included t a b p.1 in
    (and_from _ _ p.0 q.0, q.1)

-- what comes if a test passes
pub if_included : (t : Tables) (b : Bool) (a : List Arrival) → (b ≡ true → includes_all t a ≡ true) → includes_all t (cond b a []) ≡ true
if_included t true a h = h refl
if_included t false a h = refl

module _ {X : Type 0} (t : Tables) (f : X → List Arrival) where
  -- the outcomes of the next of some
  pub next_included : (xs : List X) (i : ℕ) (d : X) (W : Type 0) → i < length xs → includes_all t (f (get_or xs i d)) ≡ true
      → (includes_all t (flat_map f (drop i xs)) ≡ true → W) → includes_all t (flat_map f (drop (i + 1) xs)) ≡ true → W
  next_included xs i d W h one before rest =
      let e : flat_map f (drop i xs) ≡ f (get_or xs i d) ++ flat_map f (drop (i + 1) xs) = ap (flat_map f) (drop_more xs i d h) in
      before (subst (λ (l : List Arrival). includes_all t l ≡ true) (sym e) (both_included t (f (get_or xs i d)) (flat_map f (drop (i + 1) xs)) one rest))

  -- no outcomes are left
  pub none_included : (xs : List X) (i : ℕ) → length xs ≤ i → includes_all t (flat_map f (drop i xs)) ≡ true
  none_included xs i h = subst (λ (l : List X). includes_all t (flat_map f l) ≡ true) (sym (drop_all i xs h)) refl

  -- those of one, and of three
  pub one_of : (x : X) → includes_all t (f x) ≡ true → includes_all t (flat_map f (x ∷ [])) ≡ true
  one_of x h = both_included t (f x) [] h refl

  pub three_of : (x y z : X) → includes_all t (f x) ≡ true → includes_all t (f y) ≡ true → includes_all t (f z) ≡ true
      → includes_all t (flat_map f (x ∷ y ∷ z ∷ [])) ≡ true
  three_of x y z h g k = both_included t (f x) (flat_map f (y ∷ z ∷ [])) h (both_included t (f y) (flat_map f (z ∷ [])) g (one_of z k))

-- the outcomes of what a list is made of
pub mapped_included : {X Y : Type 0} (t : Tables) (f : Y → List Arrival) (g : X → Y) (xs : List X) → includes_all t (flat_map (λ x. f (g x)) xs) ≡ true
    → includes_all t (flat_map f (map g xs)) ≡ true
mapped_included t f g [] h = refl
mapped_included t f g (x ∷ xs) h =
    let p = parts_included t (f (g x)) (flat_map (λ y. f (g y)) xs) h in
    both_included t (f (g x)) (flat_map f (map g xs)) p.0 (mapped_included t f g xs p.1)
