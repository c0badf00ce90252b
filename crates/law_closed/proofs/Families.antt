-- A family is closed if its names are known by whether they are in two closed families.
use Rattle.std.proofs.Common.{◌≡◌, ℕ, Bool, true, false, cond, List, [], ◌∷◌, ◌++◌, refl, sym, ap, ◌∙◌, arith}
use Rattle.std.specs.Prelude.{not, ◌&&◌, ◌||◌, bytes_eq, filter}
use Rattle.law_family.specs.model_device.specs.Bytes.{has_name}
use Rattle.law_family.specs.model_device.proofs.MapLemmas.{same_name}
use Rattle.law_family.specs.model_device.proofs.BoolLemmas.{and_false}
use Rattle.law_family.specs.model_play.specs.Family.{ClosedPairs, Closed}
use Rattle.law_family.specs.model_play.specs.Play.{Step}
use Rattle.law_closed.specs.Families.{in_either, in_both, in_first_alone}
use Rattle.law_closed.specs.Laws.{AreNamesOf, AreClosed, FamiliesLaw}

-- ---- names

names_appended : (n : List ℕ) (K J : List (List ℕ)) → has_name n (K ++ J) ≡ has_name n K || has_name n J
names_appended n [] J = refl
names_appended n (k ∷ K) J = by (bytes_eq k n) (names_appended n K J)
  where
    by : (b : Bool) → has_name n (K ++ J) ≡ has_name n K || has_name n J → (b || has_name n (K ++ J)) ≡ (b || has_name n K) || has_name n J
    by true r = refl
    by false r = r

names_filtered : (f : List ℕ → Bool) (n : List ℕ) (K : List (List ℕ)) → has_name n (filter f K) ≡ has_name n K && f n
names_filtered f n [] = refl
names_filtered f n (k ∷ K) = by (f k) (bytes_eq k n) refl refl (names_filtered f n K)
  where
    by : (x y : Bool) → f k ≡ x → bytes_eq k n ≡ y → has_name n (filter f K) ≡ has_name n K && f n → has_name n (cond x (k ∷ filter f K) (filter f K)) ≡ (y || has_name n K) && f n
    by true true e is r = ap (λ (b : Bool). b || has_name n (filter f K)) is ∙ sym (ap f (sym (same_name k n is)) ∙ e)
    by true false e is r = ap (λ (b : Bool). b || has_name n (filter f K)) is ∙ r
    by false true e is r =
        let off : f n ≡ false = ap f (sym (same_name k n is)) ∙ e in
        r ∙ ap (λ (b : Bool). has_name n K && b) off ∙ and_false (has_name n K) ∙ sym off
    by false false e is r = r

-- ---- closed families

module _ (K J L : List (List ℕ)) (f : Bool → Bool → Bool) (names : (n : List ℕ) → has_name n L ≡ f (has_name n K) (has_name n J)) where
  closed_pairs : (ps : List (List ℕ × List ℕ)) → ClosedPairs K ps → ClosedPairs J ps → ClosedPairs L ps
  closed_pairs [] g h = tt
  closed_pairs (p ∷ ps) g h =
      (names p.0 ∙ ap (λ (b : Bool). f b (has_name p.0 J)) g.0 ∙ ap (λ (b : Bool). f (has_name p.1 K) b) h.0 ∙ sym (names p.1), closed_pairs ps g.1 h.1)

  closed_steps : (ts : List Step) → Closed K ts → Closed J ts → Closed L ts
  closed_steps [] g h = tt
  closed_steps (t ∷ ts) g h = (closed_pairs t.pairs g.0 h.0, closed_steps ts g.1 h.1)

-- ---- the law

names_law : (K J : List (List ℕ)) → AreNamesOf K J
names_law K J = grind (arith, names_appended, names_filtered)

closed_law : (K J : List (List ℕ)) (ts : List Step) → Closed K ts → Closed J ts → AreClosed K J ts
closed_law K J ts g h =
    let names : AreNamesOf K J = names_law K J in
    record {
      either = closed_steps K J (in_either K J) (λ x y. x || y) names.either ts g h;
      both = closed_steps K J (in_both K J) (λ x y. x && y) names.both ts g h;
      alone = closed_steps K J (in_first_alone K J) (λ x y. x && not y) names.alone ts g h;
    }

-- a family whose names are known by whether they are in two closed families is closed
pub families_law : FamiliesLaw
families_law = record { names = names_law; closed = closed_law }
