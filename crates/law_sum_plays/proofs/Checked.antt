-- What a closed table of sums has: of each place what its turn was compared with, and of each beginning of a frame.
use Rattle.std.specs.Prelude.{◌≡◌, ◌+◌, Bool, true, false, cond, ◌&&◌, ◌||◌, List, [], ◌∷◌, ◌++◌, unwrap_or, nat_le, Option, Some, refl}
use Rattle.std.proofs.Common.{ap, subst, ◌∙◌}
use Rattle.std.proofs.lemmas.Bool.{and_parts}
use Rattle.law_prove_closed.specs.model_rules.specs.Keeping.{first_sums, are_totals}
use Rattle.law_prove_closed.specs.model_prove.specs.Facts.{Facts}
use Rattle.law_prove_closed.specs.model_prove.specs.Keys.{PlaceKey, MomentKey, Known, Tables, same_places, same_moments}
use Rattle.law_prove_closed.specs.model_prove.specs.Arrivals.{Setting, Arrival, AtPlace, AtMoment, Breaks, Lost, static_size}
use Rattle.law_prove_closed.specs.model_prove.specs.Between.{Class, classes, moment_arrivals}
use Rattle.law_prove_closed.specs.model_prove.specs.Tables.{moment_at, place_at}
use Rattle.law_prove_closed.specs.law_prove.proofs.Keys.{moments_are, places_are}
use Rattle.law_prove_closed.specs.Outcomes.{some_outcome, leads_to}
use Rattle.law_sums.specs.model_sums.specs.Sums.{SumsTable, sums_at}
use Rattle.law_sums.specs.model_sums.specs.Closed.{all_pass, is_sum, place_closed, places_closed, start_closed, starts_closed, sums_closed}
use Rattle.law_sum_plays.proofs.Totals.{AreWithin, within_by}

-- ---- lists that pass a test

-- if two lists pass a test, so does the first
pub pass_first : {A : Type 0} (test : A → Bool) (xs ys : List A) → all_pass test (xs ++ ys) ≡ true → all_pass test xs ≡ true
pass_first test [] ys e = refl
pass_first test (x ∷ xs) ys e =
    let p = and_parts (test x) (all_pass test (xs ++ ys)) e in
    ap (λ (b : Bool). b && all_pass test xs) p.0 ∙ pass_first test xs ys p.1

-- if two lists pass a test, so does the second
pub pass_second : {A : Type 0} (test : A → Bool) (xs ys : List A) → all_pass test (xs ++ ys) ≡ true → all_pass test ys ≡ true
pass_second test [] ys e = e
pass_second test (x ∷ xs) ys e = pass_second test xs ys (and_parts (test x) (all_pass test (xs ++ ys)) e).1

-- an outcome that leads to a place, with what is known there
pub record Led (test : Arrival → Bool) (k : PlaceKey) : Type 0 where
  pub known : Known
  pub passes : test (AtPlace k known) ≡ true

led_by : (b : Bool) (test : Arrival → Bool) (k l : PlaceKey) (known : Known) (more : List Arrival) → same_places l k ≡ b → (b || some_outcome (leads_to k) more) ≡ true → test (AtPlace l known) ≡ true
    → (some_outcome (leads_to k) more ≡ true → Led test k) → Led test k
led_by true test k l known more same some passes rest = subst (Led test) (places_are l k same) (record { known = known; passes = passes })
led_by false test k l known more same some passes rest = rest some

-- if one of some outcomes leads to a place, and all pass a test, one that leads there does
pub led : (test : Arrival → Bool) (k : PlaceKey) (outcomes : List Arrival) → some_outcome (leads_to k) outcomes ≡ true → all_pass test outcomes ≡ true → Led test k
led test k [] some all = absurd (cc some)
led test k (AtPlace l known ∷ more) some all =
    let p = and_parts (test (AtPlace l known)) (all_pass test more) all in
    led_by (same_places l k) test k l known more refl some p.0 (λ rest. led test k more rest p.1)
led test k (AtMoment m f ∷ more) some all = led test k more some (and_parts (test (AtMoment m f)) (all_pass test more) all).1
led test k (Breaks b at ∷ more) some all = led test k more some (and_parts (test (Breaks b at)) (all_pass test more) all).1
led test k (Lost at ∷ more) some all = led test k more some (and_parts (test (Lost at)) (all_pass test more) all).1

-- ---- tables

-- what a closed table of sums is
pub record SumsClosed (s : Setting) (t : Tables) (u : SumsTable) : Type 0 where
  pub names : all_pass (λ l. is_sum s.rules.sums l.name) s.rules.moves ≡ true
  pub static : AreWithin (static_size s) s.rules.totals
  pub first : are_totals s.app.fixed (first_sums s.rules.sums) s.rules.totals ≡ true
  pub starts : starts_closed s (classes s.rules) u t.moments ≡ true
  pub places : places_closed s u t.places ≡ true

-- a table of sums that the test finds closed is closed, part by part
pub closed_parts : (s : Setting) (t : Tables) (u : SumsTable) → sums_closed s t u ≡ true → SumsClosed s t u
unfolding sums_closed
closed_parts s t u e =
    let names = all_pass (λ l. is_sum s.rules.sums l.name) s.rules.moves in
    let static = all_pass (λ t. nat_le (t.at + t.n) (static_size s)) s.rules.totals in
    let first = are_totals s.app.fixed (first_sums s.rules.sums) s.rules.totals in
    let starts = starts_closed s (classes s.rules) u t.moments in
    let p4 = and_parts (names && static && first && starts) (places_closed s u t.places) e in
    let p3 = and_parts (names && static && first) starts p4.0 in
    let p2 = and_parts (names && static) first p3.0 in
    let p1 = and_parts names static p2.0 in
    record { names = p1.0; static = within_by (static_size s) s.rules.totals p1.1; first = p2.1; starts = p3.1; places = p4.1 }

-- ---- a place

place_by : (b : Bool) (s : Setting) (u : SumsTable) (n k : PlaceKey) (g known : Known) (rest : Option Known) → same_places n k ≡ b → cond b (Some g) rest ≡ Some known → place_closed s u (record { key = n; known = g }) (sums_at u n) ≡ true
    → (rest ≡ Some known → place_closed s u (record { key = k; known = known }) (sums_at u k) ≡ true) → place_closed s u (record { key = k; known = known }) (sums_at u k) ≡ true
place_by true s u n k g known rest same found closed again =
    let is : g ≡ known = ap (λ (z : Option Known). unwrap_or z g) found in
    subst (λ (z : PlaceKey). place_closed s u (record { key = z; known = known }) (sums_at u z) ≡ true) (places_are n k same)
    (subst (λ (z : Known). place_closed s u (record { key = n; known = z }) (sums_at u n) ≡ true) is closed)
place_by false s u n k g known rest same found closed again = again found

-- a place that the tables of facts have was compared
pub place_checked : (s : Setting) (u : SumsTable) (ps : List (PlaceKey × Known)) (k : PlaceKey) (known : Known) → places_closed s u ps ≡ true → place_at ps k ≡ Some known
    → place_closed s u (record { key = k; known = known }) (sums_at u k) ≡ true
place_checked s u [] k known closed found = absurd (cc found)
place_checked s u (p ∷ ps) k known closed found =
    let q = and_parts (place_closed s u (record { key = p.0; known = p.1 }) (sums_at u p.0)) (places_closed s u ps) closed in
    place_by (same_places p.0 k) s u p.0 k p.1 known (place_at ps k) refl found q.0 (λ rest. place_checked s u ps k known q.1 rest)

-- ---- beginnings

start_by : (b : Bool) (s : Setting) (cs : List Class) (u : SumsTable) (n k : MomentKey) (g f : Facts) (rest : Option Facts) → same_moments n k ≡ b → cond b (Some g) rest ≡ Some f → all_pass (start_closed s u) (moment_arrivals s cs n g) ≡ true
    → (rest ≡ Some f → all_pass (start_closed s u) (moment_arrivals s cs k f) ≡ true) → all_pass (start_closed s u) (moment_arrivals s cs k f) ≡ true
start_by true s cs u n k g f rest same found closed again =
    let is : g ≡ f = ap (λ (z : Option Facts). unwrap_or z g) found in
    subst (λ (z : MomentKey). all_pass (start_closed s u) (moment_arrivals s cs z f) ≡ true) (moments_are n k same)
    (subst (λ (z : Facts). all_pass (start_closed s u) (moment_arrivals s cs n z) ≡ true) is closed)
start_by false s cs u n k g f rest same found closed again = again found

-- at each moment that the tables of facts have beginnings of frames were compared
pub starts_checked : (s : Setting) (cs : List Class) (u : SumsTable) (ms : List (MomentKey × Facts)) (k : MomentKey) (f : Facts) → starts_closed s cs u ms ≡ true → moment_at ms k ≡ Some f
    → all_pass (start_closed s u) (moment_arrivals s cs k f) ≡ true
starts_checked s cs u [] k f closed found = absurd (cc found)
starts_checked s cs u (m ∷ ms) k f closed found =
    let q = and_parts (all_pass (start_closed s u) (moment_arrivals s cs m.0 m.1)) (starts_closed s cs u ms) closed in
    start_by (same_moments m.0 k) s cs u m.0 k m.1 f (moment_at ms k) refl found q.0 (λ rest. starts_checked s cs u ms k f q.1 rest)
