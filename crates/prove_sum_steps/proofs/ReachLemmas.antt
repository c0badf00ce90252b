-- What leads to a place of tables leads to one of their keys: what holds at each of these, holds wherever it leads.
use Rattle.std.proofs.Common.{◌≡◌, ℕ, Bool, true, false, ◌&&◌, cond, List, [], ◌∷◌, map, Option, Some, refl, subst}
use Rattle.std.proofs.lemmas.Bool.{and_parts, and_from}
use Rattle.mc_isa.specs.model_machine.specs.Primitives.{Then}
use Rattle.prove_facts.specs.model_prove.specs.Arrivals.{Setting, Arrival, AtPlace, AtMoment, Breaks, Lost}
use Rattle.prove_facts.specs.model_prove.specs.Between.{Class, moment_arrivals}
use Rattle.prove_facts.specs.model_prove.specs.Facts.{Facts}
use Rattle.prove_facts.specs.model_prove.specs.Keys.{Known, MomentKey, PlaceKey, Tables, same_places}
use Rattle.prove_facts.specs.model_prove.specs.Tables.{has_known, includes, includes_all, keeps_ranges, moments_closed, place_at}
use Rattle.prove_sums.specs.model_sums.specs.Closed as closed
use Rattle.prove_sums.specs.model_sums.specs.Closed.{all_pass, arrival_closed, has_sums, start_closed, starts_closed}
use Rattle.prove_sums.specs.model_sums.specs.Sums.{Sums, SumsTable, first_known, sums_at}
use Rattle.prove_arrivals.specs.declared.subject.Subject.{Subject}
use Rattle.prove_arrivals.specs.Subjects.{classes_in}
use Rattle.prove_keys.specs.declared.keys.PlaceKey as code
use Rattle.prove_keys.specs.declared.known.PackedKnown.{PackedKnown}
use Rattle.prove_keys.specs.Keys.{place_of}
use Rattle.prove_keys.specs.Tables.{places_of}
use Rattle.prove_keys.proofs.SameLemmas.{places_are}
use Rattle.prove_sum_steps.specs.declared.goals.Goal.{Goal}
use Rattle.prove_sum_steps.specs.Tables.{goal_key}
use Rattle.prove_sum_steps.proofs.PassLemmas.{pass_map}

-- places that are the same are equal
same_equal : (k l : PlaceKey) → same_places k l ≡ true → k ≡ l
same_equal k l e =
    let p = places_are k l e in
    let at : k.at ≡ l.at = p.at in
    let start : k.start ≡ l.start = p.start in
    let allowances : k.allowances ≡ l.allowances = p.allowances in
    let c : k.c ≡ l.c = p.c in
    let z : k.z ≡ l.z = p.z in
    let dt : k.dt ≡ l.dt = p.dt in
    let lb : k.lb ≡ l.lb = p.lb in
    let protected : k.protected ≡ l.protected = p.protected in
    let calls : k.calls ≡ l.calls = p.calls in
    λ i. record { at = at i; start = start i; allowances = allowances i; c = c i; z = z i; dt = dt i; lb = lb i; protected = protected i; calls = calls i }

-- a test of outcomes is one of the places to which they lead
record IsOfPlaces (test : Arrival → Bool) (P : PlaceKey → Bool) : Type 0 where
  place : (k : PlaceKey) (n : Known) → P k ≡ true → test (AtPlace k n) ≡ true
  moment : (k : MomentKey) (f : Facts) → test (AtMoment k f) ≡ true

module _ (P : PlaceKey → Bool) where
  -- it holds of a place that a table has
  by_test : (e : PlaceKey × Known) (k : PlaceKey) (n : Known) (rest : Option Known) (b : Bool) → same_places e.0 k ≡ b → P e.0 ≡ true → (has_known n rest ≡ true → P k ≡ true)
      → has_known n (cond b (Some e.1) rest) ≡ true → P k ≡ true
  by_test e k n rest true same here more h = subst (λ (x : PlaceKey). P x ≡ true) (same_equal e.0 k same) here
  by_test e k n rest false same here more h = more h

  at_key : (ps : List (PlaceKey × Known)) (k : PlaceKey) (n : Known) → all_pass (λ e. P e.0) ps ≡ true → has_known n (place_at ps k) ≡ true → P k ≡ true
  at_key [] k n all h = absurd (cc h)
  at_key (e ∷ ps) k n all h =
      let p = and_parts (P e.0) (all_pass (λ e. P e.0) ps) all in
      by_test e k n (place_at ps k) (same_places e.0 k) refl p.0 (λ more. at_key ps k n p.1 more) h

  -- and of the places of each outcome that tables include
  one_included : (test : Arrival → Bool) (t : Tables) → IsOfPlaces test P → all_pass (λ e. P e.0) t.places ≡ true → (a : Arrival) → includes t a ≡ true → test a ≡ true
  one_included test t is all (AtPlace k n) e = is.place k n (at_key t.places k n all e)
  one_included test t is all (AtMoment k f) e = is.moment k f
  one_included test t is all (Breaks b at) e = absurd (cc e)
  one_included test t is all (Lost at) e = absurd (cc e)

  of_included : (test : Arrival → Bool) (t : Tables) → IsOfPlaces test P → all_pass (λ e. P e.0) t.places ≡ true → (more : List Arrival)
      → includes_all t more ≡ true → all_pass test more ≡ true
  of_included test t is all [] h = refl
  of_included test t is all (a ∷ more) h =
      let p = and_parts (includes t a) (includes_all t more) h in
      and_from _ _ (one_included test t is all a p.0) (of_included test t is all more p.1)

  -- it holds of the places of tables if it does of their keys
  of_keys : (names : List (List ℕ)) (classes : List (List Bool)) (fixed : ℕ) (ks : List code.PlaceKey) (ps : List PackedKnown)
      → all_pass (λ k. P (place_of names classes k)) ks ≡ true → all_pass (λ e. P e.0) (places_of names classes fixed ks ps) ≡ true
  of_keys names classes fixed [] ps h = refl
  of_keys names classes fixed (k ∷ ks) [] h = refl
  of_keys names classes fixed (k ∷ ks) (p ∷ ps) h =
      let q = and_parts (P (place_of names classes k)) (all_pass (λ k. P (place_of names classes k)) ks) h in
      and_from _ _ q.0 (of_keys names classes fixed ks ps q.1)

  -- of their keys, if it does of goals at these
  of_goals : (names : List (List ℕ)) (u : Subject) (goals : List Goal) (ks : List code.PlaceKey) → map (λ g. g.key.now) goals ≡ ks
      → all_pass (λ g. P (goal_key names u g)) goals ≡ true → all_pass (λ k. P (place_of names (classes_in u) k)) ks ≡ true
  of_goals names u goals ks e h =
      subst (λ (ks : List code.PlaceKey). all_pass (λ k. P (place_of names (classes_in u) k)) ks ≡ true) e
      (pass_map (λ k. P (place_of names (classes_in u) k)) (λ (g : Goal). g.key.now) goals h)

-- ---- outcomes of a place

module _ (names : List (List ℕ)) (s : Setting) (t : SumsTable) (u : Subject) (fixed : ℕ) (goals : List Goal) (ks : List code.PlaceKey) (ps : List PackedKnown)
    (ms : List (MomentKey × Facts)) (keys : map (λ g. g.key.now) goals ≡ ks) where
  abbrev pub near : Tables
  near = record { moments = ms; places = places_of names (classes_in u) fixed ks ps }

  -- where each outcome leads to one of some goals, what is checked at these is checked of all outcomes
  pub outcomes_pass : (w : closed.Turn) (next : Then) (after : Sums) (n : Known) (more : List Arrival) → includes_all near more ≡ true
      → all_pass (λ g. arrival_closed s t w next after (AtPlace (goal_key names u g) n)) goals ≡ true
      → all_pass (arrival_closed s t w next after) more ≡ true
  outcomes_pass w next after n more h all =
      let P : PlaceKey → Bool = λ k. arrival_closed s t w next after (AtPlace k n) in
      of_included P (arrival_closed s t w next after) near (record { place = λ k m e. e; moment = λ k f. refl })
      (of_keys P names (classes_in u) fixed ks ps (of_goals P names u goals ks keys all)) more h

  -- and where beginnings do
  pub beginnings_pass : (cs : List Class) (more : List (MomentKey × Facts)) → moments_closed s cs near more ≡ true
      → all_pass (λ g. has_sums s.rules.totals (first_known s.rules.totals) (sums_at t (goal_key names u g))) goals ≡ true
      → starts_closed s cs t more ≡ true
  beginnings_pass cs [] h all = refl
  beginnings_pass cs (m ∷ more) h all =
      let first = includes_all near (moment_arrivals s cs m.0 m.1) in
      let p = and_parts (first && keeps_ranges s.rules.ranges m.1) (moments_closed s cs near more) h in
      let q = and_parts first (keeps_ranges s.rules.ranges m.1) p.0 in
      let P : PlaceKey → Bool = λ k. has_sums s.rules.totals (first_known s.rules.totals) (sums_at t k) in
      and_from _ _
      (of_included P (start_closed s t) near (record { place = λ k n e. e; moment = λ k f. refl })
      (of_keys P names (classes_in u) fixed ks ps (of_goals P names u goals ks keys all)) (moment_arrivals s cs m.0 m.1) q.0)
      (beginnings_pass cs more p.1 all)
