-- What tables include, after an event.
use Rattle.std.proofs.Common.{◌≡◌, ℕ, Bool, true, ◌&&◌, List, [], ◌∷◌, ◌++◌, length, None, Result, Ok, sym, subst, ap, ◌∙◌}
use Rattle.std.proofs.lemmas.Bool.{and_parts, and_from}
use Rattle.prove_facts.specs.model_rules.specs.Keeping.{Amounts, Break}
use Rattle.prove_facts.specs.model_prove.specs.Compares.{NoCompare}
use Rattle.prove_facts.specs.model_prove.specs.Facts.{Facts}
use Rattle.prove_facts.specs.model_prove.specs.Keys as known
use Rattle.prove_facts.specs.model_prove.specs.Keys.{Start}
use Rattle.prove_facts.specs.model_prove.specs.Arrivals.{Arrival, AtPlace, AtMoment, Setting, after_session, arrive}
use Rattle.prove_facts.specs.model_prove.specs.Between as between
use Rattle.prove_facts.specs.model_prove.specs.Between.{first_place}
use Rattle.prove_facts.specs.model_prove.specs.Tables.{includes, includes_all}
use Rattle.prove_keys.specs.Keys.{amounts_of}
use Rattle.prove_keys.specs.Known.{settled_of}
use Rattle.prove_occasions.specs.Amounts.{AreAfter}
use Rattle.prove_arrivals.specs.declared.subject.Subject.{Subject}
use Rattle.prove_arrivals.specs.Subjects.{Accepts, IsOver, IsSubject, tables_in}

pub one_accepted : (t : known.Tables) (a : Arrival) → includes t a ≡ true → includes_all t (a ∷ []) ≡ true
one_accepted t a e = ap (λ (b : Bool). b && true) e

pub all_accepted : (t : known.Tables) (xs ys : List Arrival) → includes_all t xs ≡ true → includes_all t ys ≡ true → includes_all t (xs ++ ys) ≡ true
all_accepted t [] ys p q = q
all_accepted t (x ∷ xs) ys p q =
    let r = and_parts (includes t x) (includes_all t xs) p in
    and_from (includes t x) (includes_all t (xs ++ ys)) r.0 (all_accepted t xs ys r.1 q)

-- what follows an event that breaks no rule
arrived : (t : known.Tables) (r : Result Amounts Break) (b : Amounts) (next : Amounts → List Arrival) → r ≡ Ok b → includes_all t (next b) ≡ true
    → includes_all t (arrive None r next) ≡ true
arrived t r b next e h = ap (λ (x : Result Amounts Break). includes_all t (arrive None x next)) e ∙ h

-- ---- subjects

module _ (names : List (List ℕ)) (s : Setting) (u : Subject) (amounts : List ℕ) (over : IsOver names s u amounts) where
  -- other amounts after an event, in a list
  pub over_after : (after list : List ℕ) → list ≡ after → length after ≡ length names → IsOver names s u list
  over_after after list is size = record { subject = over.subject; size = ap (λ (l : List ℕ). length l) is ∙ size }

  -- the moment after a session begins or ends
  pub session_there : (selected : Bool) (f : Facts) (after list : List ℕ) → AreAfter names (after_session s (amounts_of names amounts)) after → list ≡ after
      → (IsOver names s u list → includes (tables_in names u) (AtMoment (record { selected = selected; allowances = amounts_of names list }) f) ≡ true)
      → Accepts names u (arrive None (after_session s (amounts_of names amounts)) (λ b. AtMoment (record { selected = selected; allowances = b }) f ∷ []))
  session_there selected f after list kept is h =
      let t = tables_in names u in
      let event : after_session s (amounts_of names amounts) ≡ Ok (amounts_of names list) =
      kept.0 ∙ ap (λ (l : List ℕ). Ok (amounts_of names l)) (sym is)
      in
      arrived t (after_session s (amounts_of names amounts)) (amounts_of names list) (λ b. AtMoment (record { selected = selected; allowances = b }) f ∷ []) event
      (one_accepted t (AtMoment (record { selected = selected; allowances = amounts_of names list }) f) (h (over_after after list is kept.1)))

-- the beginning of a frame at its first place
pub begins_there : (names : List (List ℕ)) (s : Setting) (u : Subject) (start : Start) (a : Amounts) (key : known.PlaceKey) (f : Facts) → IsSubject names s u
    → key ≡ first_place s start a → includes (tables_in names u) (AtPlace key (settled_of u.sizes.fixed f NoCompare)) ≡ true
    → includes (tables_in names u) (between.begun s start a f) ≡ true
begins_there names s u start a key f is at h =
    let t = tables_in names u in
    subst (λ (n : ℕ). includes t (AtPlace (first_place s start a) (settled_of n f NoCompare)) ≡ true) (sym is.sized.fixed)
    (subst (λ (k : known.PlaceKey). includes t (AtPlace k (settled_of u.sizes.fixed f NoCompare)) ≡ true) at h)
