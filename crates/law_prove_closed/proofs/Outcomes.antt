-- The outcomes of one place are in the tables of their keys, so the row of its instruction leads into them.
use Rattle.std.proofs.Common.{◌≡◌, ℕ, Bool, true, false, cond, List, [], ◌∷◌, Option, Some, None, refl, sym, ap, subst, ◌∙◌}
use Rattle.std.specs.Prelude.{◌&&◌, ◌||◌, filter}
use Rattle.std.proofs.lemmas.Bool.{and_parts, and_from}
use Rattle.law_prove.specs.model_machine.specs.Frame.{Frame}
use Rattle.law_prove.specs.law_promise.specs.Outline.{Entry}
use Rattle.law_prove.specs.model_rules.specs.Happenings.{Event, History}
use Rattle.law_prove.specs.model_prove.specs.Facts.{Facts}
use Rattle.law_prove.specs.model_prove.specs.Keys.{PlaceKey, MomentKey, Known, Tables, same_places, same_moments}
use Rattle.law_prove.specs.model_prove.specs.Arrivals.{Setting, Arrival, AtPlace, AtMoment, Breaks, Lost}
use Rattle.law_prove.specs.model_prove.specs.Steps.{place_arrivals}
use Rattle.law_prove.specs.model_prove.specs.Tables.{moment_at, place_at, has_facts, has_known, includes, includes_all}
use Rattle.law_prove.specs.Coverings.{IsMoment, IsPlace, key_of, IsKnown}
use Rattle.law_prove.specs.Laws.{LeadsInto}
use Rattle.law_prove.proofs.Keys.{moments_are, places_are}
use Rattle.law_prove.proofs.Moments.{from_memory}
use Rattle.law_prove.proofs.Places.{places_in, place_closed, is_spent, is_unfetched}
use Rattle.law_prove_closed.specs.Outcomes.{some_outcome, leads_to, ends_at, tables_of, LeftLaw, NextLaw, NextEndLaw, ClosedNextLaw}
use Rattle.law_prove_closed.proofs.Rows.{all_leads}

or_first : (a b : Bool) → a ≡ true → (a || b) ≡ true
or_first a b e = ap (λ (z : Bool). z || b) e

or_second : (a b : Bool) → b ≡ true → (a || b) ≡ true
or_second true b e = refl
or_second false b e = e

-- ---- keys of the tables

-- a key that a table has is the same as itself
own_place_by : (b : Bool) (p : PlaceKey × Known) (ps : List (PlaceKey × Known)) (k : PlaceKey) (l : Known) → same_places p.0 k ≡ b → cond b (Some p.1) (place_at ps k) ≡ Some l → (place_at ps k ≡ Some l → same_places k k ≡ true) → same_places k k ≡ true
own_place_by true p ps k l is e again = subst (λ (z : PlaceKey). same_places z k ≡ true) (places_are p.0 k is) is
own_place_by false p ps k l is e again = again e

own_place : (ps : List (PlaceKey × Known)) (k : PlaceKey) (l : Known) → place_at ps k ≡ Some l → same_places k k ≡ true
own_place [] k l e = absurd (cc e)
own_place (p ∷ ps) k l e = own_place_by (same_places p.0 k) p ps k l refl e (own_place ps k l)

own_moment_by : (b : Bool) (m : MomentKey × Facts) (ms : List (MomentKey × Facts)) (k : MomentKey) (f : Facts) → same_moments m.0 k ≡ b → cond b (Some m.1) (moment_at ms k) ≡ Some f → (moment_at ms k ≡ Some f → same_moments k k ≡ true) → same_moments k k ≡ true
own_moment_by true m ms k f is e again = subst (λ (z : MomentKey). same_moments z k ≡ true) (moments_are m.0 k is) is
own_moment_by false m ms k f is e again = again e

own_moment : (ms : List (MomentKey × Facts)) (k : MomentKey) (f : Facts) → moment_at ms k ≡ Some f → same_moments k k ≡ true
own_moment [] k f e = absurd (cc e)
own_moment (m ∷ ms) k f e = own_moment_by (same_moments m.0 k) m ms k f refl e (own_moment ms k f)

had_place : (found : Option Known) (ps : List (PlaceKey × Known)) (k : PlaceKey) (known : Known) → place_at ps k ≡ found → has_known known found ≡ true → same_places k k ≡ true
had_place None ps k known is e = absurd (cc e)
had_place (Some l) ps k known is e = own_place ps k l is

had_moment : (found : Option Facts) (ms : List (MomentKey × Facts)) (k : MomentKey) (f : Facts) → moment_at ms k ≡ found → has_facts f found ≡ true → same_moments k k ≡ true
had_moment None ms k f is e = absurd (cc e)
had_moment (Some g) ms k f is e = own_moment ms k g is

-- ---- tables without some keys

-- a key that passes the test is found as it was
place_left_by : (b c : Bool) (test : PlaceKey → Bool) (p : PlaceKey × Known) (rest : List (PlaceKey × Known)) (k : PlaceKey) (later : Option Known) → test p.0 ≡ b → same_places p.0 k ≡ c → test k ≡ true → place_at rest k ≡ later
    → place_at (cond b (p ∷ rest) rest) k ≡ cond c (Some p.1) later
place_left_by true c test p rest k later passes is picked same = ap (λ (z : Bool). cond z (Some p.1) (place_at rest k)) is ∙ ap (λ (z : Option Known). cond c (Some p.1) z) same
place_left_by false true test p rest k later passes is picked same = absurd (cc (sym passes ∙ (ap test (places_are p.0 k is) ∙ picked)))
place_left_by false false test p rest k later passes is picked same = same

place_left : (test : PlaceKey → Bool) (ps : List (PlaceKey × Known)) (k : PlaceKey) → test k ≡ true → place_at (filter (λ p. test p.0) ps) k ≡ place_at ps k
place_left test [] k picked = refl
place_left test (p ∷ ps) k picked = place_left_by (test p.0) (same_places p.0 k) test p (filter (λ p. test p.0) ps) k (place_at ps k) refl refl picked (place_left test ps k picked)

moment_left_by : (b c : Bool) (test : MomentKey → Bool) (m : MomentKey × Facts) (rest : List (MomentKey × Facts)) (k : MomentKey) (later : Option Facts) → test m.0 ≡ b → same_moments m.0 k ≡ c → test k ≡ true → moment_at rest k ≡ later
    → moment_at (cond b (m ∷ rest) rest) k ≡ cond c (Some m.1) later
moment_left_by true c test m rest k later passes is picked same = ap (λ (z : Bool). cond z (Some m.1) (moment_at rest k)) is ∙ ap (λ (z : Option Facts). cond c (Some m.1) z) same
moment_left_by false true test m rest k later passes is picked same = absurd (cc (sym passes ∙ (ap test (moments_are m.0 k is) ∙ picked)))
moment_left_by false false test m rest k later passes is picked same = same

moment_left : (test : MomentKey → Bool) (ms : List (MomentKey × Facts)) (k : MomentKey) → test k ≡ true → moment_at (filter (λ m. test m.0) ms) k ≡ moment_at ms k
moment_left test [] k picked = refl
moment_left test (m ∷ ms) k picked = moment_left_by (test m.0) (same_moments m.0 k) test m (filter (λ m. test m.0) ms) k (moment_at ms k) refl refl picked (moment_left test ms k picked)

-- a place that is found passes the test, and was there before; so is a moment
found_by : (b c : Bool) (test : PlaceKey → Bool) (p : PlaceKey × Known) (ps rest : List (PlaceKey × Known)) (k : PlaceKey) (l : Known) → test p.0 ≡ b → same_places p.0 k ≡ c → place_at (cond b (p ∷ rest) rest) k ≡ Some l
    → (place_at rest k ≡ Some l → (test k ≡ true) × (place_at ps k ≡ Some l)) → (test k ≡ true) × (cond c (Some p.1) (place_at ps k) ≡ Some l)
found_by true true test p ps rest k l passes is e again =
    (sym (ap test (places_are p.0 k is)) ∙ passes, sym (ap (λ (z : Bool). cond z (Some p.1) (place_at rest k)) is) ∙ e)
found_by true false test p ps rest k l passes is e again = again (sym (ap (λ (z : Bool). cond z (Some p.1) (place_at rest k)) is) ∙ e)
found_by false true test p ps rest k l passes is e again = absurd (cc (sym passes ∙ (ap test (places_are p.0 k is) ∙ (again e).0)))
found_by false false test p ps rest k l passes is e again = again e

-- a place of the tables without some keys is one of the tables, and its key is not among them
pub found : (test : PlaceKey → Bool) (ps : List (PlaceKey × Known)) (k : PlaceKey) (l : Known) → place_at (filter (λ p. test p.0) ps) k ≡ Some l → (test k ≡ true) × (place_at ps k ≡ Some l)
found test [] k l e = absurd (cc e)
found test (p ∷ ps) k l e = found_by (test p.0) (same_places p.0 k) test p ps (filter (λ p. test p.0) ps) k l refl refl e (found test ps k l)

moment_found_by : (b c : Bool) (test : MomentKey → Bool) (m : MomentKey × Facts) (ms rest : List (MomentKey × Facts)) (k : MomentKey) (f : Facts) → test m.0 ≡ b → same_moments m.0 k ≡ c → moment_at (cond b (m ∷ rest) rest) k ≡ Some f
    → (moment_at rest k ≡ Some f → (test k ≡ true) × (moment_at ms k ≡ Some f)) → (test k ≡ true) × (cond c (Some m.1) (moment_at ms k) ≡ Some f)
moment_found_by true true test m ms rest k f passes is e again =
    (sym (ap test (moments_are m.0 k is)) ∙ passes, sym (ap (λ (z : Bool). cond z (Some m.1) (moment_at rest k)) is) ∙ e)
moment_found_by true false test m ms rest k f passes is e again = again (sym (ap (λ (z : Bool). cond z (Some m.1) (moment_at rest k)) is) ∙ e)
moment_found_by false true test m ms rest k f passes is e again = absurd (cc (sym passes ∙ (ap test (moments_are m.0 k is) ∙ (again e).0)))
moment_found_by false false test m ms rest k f passes is e again = again e

moment_found : (test : MomentKey → Bool) (ms : List (MomentKey × Facts)) (k : MomentKey) (f : Facts) → moment_at (filter (λ m. test m.0) ms) k ≡ Some f → (test k ≡ true) × (moment_at ms k ≡ Some f)
moment_found test [] k f e = absurd (cc e)
moment_found test (m ∷ ms) k f e = moment_found_by (test m.0) (same_moments m.0 k) test m ms (filter (λ m. test m.0) ms) k f refl refl e (moment_found test ms k f)

left_place : (s : Setting) (t : Tables) (outcomes : List Arrival) (e : Entry Event) (h : History) (f : Frame) (public : List ℕ) (p : IsPlace s (tables_of outcomes t) e h f public)
    → IsPlace s t e h f public × (some_outcome (leads_to (key_of s (tables_of outcomes t) e h f public p)) outcomes ≡ true)
left_place s t outcomes e h f public p =
    let key : PlaceKey = key_of s (tables_of outcomes t) e h f public p in
    let is = found (λ k. some_outcome (leads_to k) outcomes) t.places key p.known p.there in (
      record {
        standing = p.standing;
        stands = p.stands;
        start = p.start;
        starts = p.starts;
        calls = p.calls;
        open_calls = p.open_calls;
        known = p.known;
        there = is.1;
        holds = p.holds;
        compares = p.compares;
        keeps = p.keeps;
        frame = p.frame;
        bytes = p.bytes;
        dynamic = p.dynamic;
      },
      is.0,
    )

left_moment : (s : Setting) (t : Tables) (outcomes : List Arrival) (x : Bool) (h : History) (fixed session : List ℕ) (m : IsMoment s (tables_of outcomes t) x h fixed session)
    → IsMoment s t x h fixed session × (some_outcome (ends_at (record { selected = x; allowances = m.standing.allowances })) outcomes ≡ true)
left_moment s t outcomes x h fixed session m =
    let key : MomentKey = record { selected = x; allowances = m.standing.allowances } in
    let is = moment_found (λ k. some_outcome (ends_at k) outcomes) t.moments key m.facts m.there in
    (from_memory s t x h fixed session m.standing m.stands m.size m.static m.dynamic (record { facts = m.facts; there = is.1; holds = m.holds }), is.0)

-- a key that is left is one of the tables', and one of the outcomes leads to it
pub left_law : LeftLaw
left_law = (left_place, left_moment)

-- ---- the outcomes of a place

-- an outcome is in the tables that are left by some of which it is one
left_one : (t : Tables) (outcomes : List Arrival) (a : Arrival) → ((test : Arrival → Bool) → test a ≡ true → some_outcome test outcomes ≡ true) → includes t a ≡ true → includes (tables_of outcomes t) a ≡ true
left_one t outcomes (AtPlace k known) among e =
    let own : same_places k k ≡ true = had_place (place_at t.places k) t.places k known refl e in
    ap (λ (z : Option Known). has_known known z) (place_left (λ l. some_outcome (leads_to l) outcomes) t.places k (among (leads_to k) own)) ∙ e
left_one t outcomes (AtMoment k f) among e =
    let own : same_moments k k ≡ true = had_moment (moment_at t.moments k) t.moments k f refl e in
    ap (λ (z : Option Facts). has_facts f z) (moment_left (λ l. some_outcome (ends_at l) outcomes) t.moments k (among (ends_at k) own)) ∙ e
left_one t outcomes (Breaks b at) among e = absurd (cc e)
left_one t outcomes (Lost at) among e = absurd (cc e)

left_all : (t : Tables) (outcomes xs : List Arrival) → ((test : Arrival → Bool) → some_outcome test xs ≡ true → some_outcome test outcomes ≡ true) → includes_all t xs ≡ true → includes_all (tables_of outcomes t) xs ≡ true
left_all t outcomes [] among e = refl
left_all t outcomes (x ∷ xs) among e =
    let p = and_parts (includes t x) (includes_all t xs) e in
    and_from (includes (tables_of outcomes t) x) (includes_all (tables_of outcomes t) xs)
    (left_one t outcomes x (λ test is. among test (or_first (test x) (some_outcome test xs) is)) p.0)
    (left_all t outcomes xs (λ test is. among test (or_second (test x) (some_outcome test xs) is)) p.1)

-- the table of one place
abbrev one_place : PlaceKey → Known → Tables
one_place k known = record { moments = []; places = (k, known) ∷ [] }

-- it leads into tables that include its outcomes
one_leads : (s : Setting) (t : Tables) (k : PlaceKey) (known : Known) → includes_all t (place_arrivals s k known) ≡ true → LeadsInto s (one_place k known) t
one_leads s t k known e l other there = places_in s t ((k, known) ∷ []) l other (ap (λ (b : Bool). b && true) e) there

-- it has a frame of which this is known
one_is : (s : Setting) (t : Tables) (e : Entry Event) (h : History) (f : Frame) (public : List ℕ) (p : IsPlace s t e h f public) (known : Known) → IsKnown known f public
    → IsPlace s (one_place (key_of s t e h f public p) known) e h f public
one_is s t e h f public p known is =
    record {
      standing = p.standing;
      stands = p.stands;
      start = p.start;
      starts = p.starts;
      calls = p.calls;
      open_calls = p.open_calls;
      known = known;
      there = ap (λ (b : Bool). cond b (Some known) None) (own_place t.places (key_of s t e h f public p) p.known p.there);
      holds = is.holds;
      compares = is.compares;
      keeps = is.keeps;
      frame = p.frame;
      bytes = p.bytes;
      dynamic = p.dynamic;
    }

-- what the row of a place leads to is covered by the keys of its outcomes
pub next_law : NextLaw
next_law i r g t loadable e h f public depth x next p known is included entry deep names segment at =
    let s : Setting = record { rules = r; app = g.app } in
    let key : PlaceKey = key_of s t e h f public p in
    let outcomes : List Arrival = place_arrivals s key known in
    let left : Tables = tables_of outcomes t in
    all_leads i r g (one_place key known) left loadable (one_leads s left key known (left_all t outcomes outcomes (λ test some. some) included)) e h f public depth x next
    (one_is s t e h f public p known is) entry deep names segment at

-- so is the end, if the budget ends there or no instruction can be fetched
pub next_end_law : NextEndLaw
next_end_law r g t loadable e h f public p known is included =
    let s : Setting = record { rules = r; app = g.app } in
    let key : PlaceKey = key_of s t e h f public p in
    let outcomes : List Arrival = place_arrivals s key known in
    let left : Tables = tables_of outcomes t in
    let leads : LeadsInto s (one_place key known) left = one_leads s left key known (left_all t outcomes outcomes (λ test some. some) included) in
    let here : IsPlace s (one_place key known) e h f public = one_is s t e h f public p known is in
    (is_spent s (one_place key known) left g loadable leads e h f public here, λ fault at. is_unfetched s (one_place key known) left g loadable leads e h f public fault here at)

-- so it is at each place of closed tables
pub closed_next_law : ClosedNextLaw
closed_next_law i r g t loadable closed e h f public depth x next p entry deep names segment at =
    let s : Setting = record { rules = r; app = g.app } in
    next_law i r g t loadable e h f public depth x next p p.known (record { holds = p.holds; compares = p.compares; keeps = p.keeps })
    (place_closed s t (key_of s t e h f public p) p.known closed p.there) entry deep names segment at
