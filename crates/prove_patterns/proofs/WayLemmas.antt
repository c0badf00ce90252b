-- What is left of a pattern.
use Rattle.std.proofs.Common.{◌≡◌, ◌∙◌, ℕ, suc, ◌-◌, ◌<◌, ◌≤◌, Bool, true, false, cond, List, [], ◌∷◌, length, get_or, take, drop, ap, subst, sym, refl, inl, inr, arith, drop-cons, length-drop}
use Rattle.std.specs.Prelude.{◌||◌, ◌==◌, bytes_eq}
use Rattle.std.proofs.lemmas.Bool.{or_cases, eqb-true}
use Rattle.model_device.specs.Bytes.{has_name}
use Rattle.model_device.proofs.MapLemmas.{name_is_itself, same_name}
use Rattle.std.proofs.Math.Seq.{take-length}
use Rattle.prove_facts.specs.model_prove.specs.Texts.{Open, both_ways, with_way, openings}

-- the rest of a list from a place on
pub rest_is : {A : Type 0} (l : List A) (i : ℕ) → take (length l - i) (drop i l) ≡ drop i l
rest_is {A} l i = subst (λ (n : ℕ). take n (drop i l) ≡ drop i l) (length-drop i l) (take-length (drop i l))

-- a star more at the front
pub openings_turn : (p : List ℕ) (i : ℕ) → i < length p → get_or p i 0 ≡ 42 → openings (drop i p) ≡ with_way (drop i p) (openings (drop (suc i) p))
openings_turn p i l e =
    let d : drop i p ≡ 42 ∷ drop (suc i) p = drop-cons p i 0 l ∙ ap (λ (c : ℕ). c ∷ drop (suc i) p) e in
    rw d

-- one place back from stars
pub openings_step : (p : List ℕ) (i : ℕ) (old new : Open) → 0 < i → i ≤ length p → get_or p (i - 1) 0 ≡ 42 → old ≡ openings (drop i p)
    → new ≡ with_way (take (length p - (i - 1)) (drop (i - 1) p)) old → new ≡ openings (drop (i - 1) p)
openings_step p i old new some within star e n =
    let back : i ≡ suc (i - 1) = omega arith in
    let o : old ≡ openings (drop (suc (i - 1)) p) = subst (λ (k : ℕ). old ≡ openings (drop k p)) back e in
    n ∙ ap (λ (w : List ℕ). with_way w old) (rest_is p (i - 1)) ∙ ap (λ (w : Open). with_way (drop (i - 1) p) w) o
    ∙ sym (openings_turn p (i - 1) (omega arith) star)

-- ---- the openings of a pattern before some ways

or_right : (a b : Bool) → b ≡ true → (a || b) ≡ true
or_right true b e = refl
or_right false b e = e

-- a way that is there is there with one more
there_still : (p q : List ℕ) (ps : Open) → has_name p ps ≡ true → has_name p (with_way q ps) ≡ true
there_still p q ps e = by (has_name q ps)
  where
    by : (b : Bool) → has_name p (cond b ps (q ∷ ps)) ≡ true
    by true = e
    by false = or_right (bytes_eq q p) (has_name p ps) e

-- a way that was added is there
added_there : (p : List ℕ) (ps : Open) → has_name p (with_way p ps) ≡ true
added_there p ps = by (has_name p ps) refl
  where
    by : (b : Bool) → has_name p ps ≡ b → has_name p (cond b ps (p ∷ ps)) ≡ true
    by true e = e
    by false e = ap (λ (b : Bool). b || has_name p ps) (name_is_itself p)

-- a way of the first of two lists is a way of both
among_both : (p : List ℕ) (ps qs : Open) → has_name p ps ≡ true → has_name p (both_ways ps qs) ≡ true
among_both p [] qs e = absurd (cc e)
among_both p (q ∷ ps) qs e =
    elim (or_cases (bytes_eq q p) (has_name p ps) e) [
      | inl same ↦ subst (λ (r : List ℕ). has_name r (with_way q (both_ways ps qs)) ≡ true) (same_name q p same) (added_there q (both_ways ps qs))
      | inr more ↦ there_still p q (both_ways ps qs) (among_both p ps qs more)
    ]

-- a way more before the ways of two lists
pub both_with : (p : List ℕ) (ps qs : Open) → both_ways (with_way p ps) qs ≡ with_way p (both_ways ps qs)
both_with p ps qs = by (has_name p ps) refl
  where
    by : (b : Bool) → has_name p ps ≡ b → both_ways (cond b ps (p ∷ ps)) qs ≡ with_way p (both_ways ps qs)
    by true e = sym (ap (λ (b : Bool). cond b (both_ways ps qs) (p ∷ both_ways ps qs)) (among_both p ps qs e))
    by false e = refl

-- a pattern whose front is no star has one opening
one_opening : (l : List ℕ) → (1 ≤ length l → get_or l 0 0 ≡ 42 → ⊥) → openings l ≡ l ∷ []
one_opening [] other = refl
one_opening (c ∷ l) other = by (c == 42) refl
  where
    by : (b : Bool) → (c == 42) ≡ b → cond b (with_way (c ∷ l) (openings l)) ((c ∷ l) ∷ []) ≡ (c ∷ l) ∷ []
    by true e = absurd (other (omega arith) (eqb-true c 42 e))
    by false e = refl

-- the openings of what stands after the stars of a pattern
pub added_first : (p : List ℕ) (i : ℕ) (old new : Open) → i ≤ length p → (i < length p → get_or p i 0 ≡ 42 → ⊥)
    → new ≡ with_way (take (length p - i) (drop i p)) old → new ≡ both_ways (openings (drop i p)) old
added_first p i old new within other e =
    e ∙ ap (λ (w : List ℕ). with_way w old) (rest_is p i)
    ∙ sym (ap (λ (ps : Open). both_ways ps old) (one_opening (drop i p) none))
  where
    none : 1 ≤ length (drop i p) → get_or (drop i p) 0 0 ≡ 42 → ⊥
    none some star = other (omega (arith, some, length-drop i p)) (sym (ap (λ (l : List ℕ). get_or l 0 0) (drop-cons p i 0 (omega (arith, some, length-drop i p)))) ∙ star)

-- one place back from stars
pub added_step : (p : List ℕ) (i : ℕ) (start old new : Open) → 0 < i → i ≤ length p → get_or p (i - 1) 0 ≡ 42 → old ≡ both_ways (openings (drop i p)) start
    → new ≡ with_way (take (length p - (i - 1)) (drop (i - 1) p)) old → new ≡ both_ways (openings (drop (i - 1) p)) start
added_step p i start old new some within star e n =
    let back : i ≡ suc (i - 1) = omega arith in
    let o : old ≡ both_ways (openings (drop (suc (i - 1)) p)) start = subst (λ (k : ℕ). old ≡ both_ways (openings (drop k p)) start) back e in
    n ∙ ap (λ (w : List ℕ). with_way w old) (rest_is p (i - 1)) ∙ ap (λ (w : Open). with_way (drop (i - 1) p) w) o
    ∙ sym (both_with (drop (i - 1) p) (openings (drop (suc (i - 1)) p)) start)
    ∙ sym (ap (λ (ps : Open). both_ways ps start) (openings_turn p (i - 1) (omega arith) star))
