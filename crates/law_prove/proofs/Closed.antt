-- What closed tables include: each outcome of each moment, and no broken rule.
use Rattle.std.proofs.Common.{◌≡◌, ℕ, Bool, true, false, cond, List, [], ◌∷◌, ◌++◌, Option, Some, None, Result, Ok, Err, refl, ap, ◌∙◌, arith}
use Rattle.std.specs.Prelude.{◌&&◌, unwrap_or}
use Rattle.std.proofs.lemmas.Bool.{and_parts}
use Rattle.model_prove.specs.model_rules.specs.Keeping.{Amounts, Break}
use Rattle.model_prove.specs.Facts.{Facts, Memory, Holds}
use Rattle.model_prove.specs.Laws.{HoldsBytes}
use Rattle.model_prove.specs.Keys.{MomentKey, Tables, same_moments}
use Rattle.model_prove.specs.Arrivals.{Setting, Arrival, AtMoment, arrive}
use Rattle.model_prove.specs.Between.{Class, classes, moment_arrivals, created}
use Rattle.model_prove.specs.Tables.{moment_at, has_facts, includes, includes_all, keeps_ranges, moments_closed, places_closed, is_closed}
use Rattle.model_prove.proofs.FactLemmas.{follow_holds}
use Rattle.law_prove.proofs.Keys.{moments_are}

-- ---- lists of outcomes

-- if two lists of outcomes are included, so is the first
pub included_first : (t : Tables) (xs ys : List Arrival) → includes_all t (xs ++ ys) ≡ true → includes_all t xs ≡ true
included_first t [] ys e = refl
included_first t (x ∷ xs) ys e =
    let p = and_parts (includes t x) (includes_all t (xs ++ ys)) e in
    ap (λ (b : Bool). b && includes_all t xs) p.0 ∙ included_first t xs ys p.1

-- if two lists of outcomes are included, so is the second
pub included_second : (t : Tables) (xs ys : List Arrival) → includes_all t (xs ++ ys) ≡ true → includes_all t ys ≡ true
included_second t [] ys e = e
included_second t (x ∷ xs) ys e = included_second t xs ys (and_parts (includes t x) (includes_all t (xs ++ ys)) e).1

-- an event that breaks nothing, with what follows it
pub record Arrives (t : Tables) (r : Result Amounts Break) (next : Amounts → List Arrival) : Type 0 where
  pub allowances : Amounts
  pub is : r ≡ Ok allowances
  pub rest : includes_all t (next allowances) ≡ true

-- if what follows an event is included, the event breaks nothing
pub arrives : (t : Tables) (at : Option ℕ) (r : Result Amounts Break) (next : Amounts → List Arrival) → includes_all t (arrive at r next) ≡ true → Arrives t r next
arrives t at (Err b) next e = absurd (cc e)
arrives t at (Ok a) next e = record { allowances = a; is = refl; rest = e }

-- ---- moments

-- a key of the tables, with facts that hold of a state
pub record HasMoment (t : Tables) (k : MomentKey) (m : Memory) : Type 0 where
  pub facts : Facts
  pub there : moment_at t.moments k ≡ Some facts
  pub holds : Holds facts m

has_moment : (t : Tables) (k : MomentKey) (f : Facts) (m : Memory) (found : Option Facts) → moment_at t.moments k ≡ found → has_facts f found ≡ true → Holds f m → HoldsBytes m → HasMoment t k m
has_moment t k f m None is e holds bytes = absurd (cc e)
has_moment t k f m (Some g) is e holds bytes = record { facts = g; there = is; holds = follow_holds f g m e holds bytes }

-- a moment that is included is one of the tables'
pub moment_included : (t : Tables) (k : MomentKey) (f : Facts) (m : Memory) → includes_all t (AtMoment k f ∷ []) ≡ true → Holds f m → HoldsBytes m → HasMoment t k m
moment_included t k f m e holds bytes = has_moment t k f m (moment_at t.moments k) refl (and_parts (has_facts f (moment_at t.moments k)) true e).0 holds bytes

-- the outcomes of a moment of the tables are included, and it keeps the ranges
pub record MomentClosed (s : Setting) (cs : List Class) (t : Tables) (k : MomentKey) (f : Facts) : Type 0 where
  pub outcomes : includes_all t (moment_arrivals s cs k f) ≡ true
  pub ranges : keeps_ranges s.rules.ranges f ≡ true

closed_by : (s : Setting) (cs : List Class) (t : Tables) (n k : MomentKey) (g f : Facts) (b : Bool) (rest : Option Facts) → same_moments n k ≡ b → cond b (Some g) rest ≡ Some f
    → includes_all t (moment_arrivals s cs n g) ≡ true → keeps_ranges s.rules.ranges g ≡ true → (rest ≡ Some f → MomentClosed s cs t k f) → MomentClosed s cs t k f
closed_by s cs t n k g f true rest is e outcomes ranges again = grind (arith, moments_are n k is, ap (λ (z : Option Facts). unwrap_or z []) e)
closed_by s cs t n k g f false rest is e outcomes ranges again = again e

closed_in : (s : Setting) (cs : List Class) (t : Tables) (ms : List (MomentKey × Facts)) (k : MomentKey) (f : Facts) → moments_closed s cs t ms ≡ true → moment_at ms k ≡ Some f → MomentClosed s cs t k f
closed_in s cs t [] k f c e = absurd (cc e)
closed_in s cs t (n ∷ ms) k f c e =
    let p = and_parts (includes_all t (moment_arrivals s cs n.0 n.1) && keeps_ranges s.rules.ranges n.1) (moments_closed s cs t ms) c in
    let q = and_parts (includes_all t (moment_arrivals s cs n.0 n.1)) (keeps_ranges s.rules.ranges n.1) p.0 in
    closed_by s cs t n.0 k n.1 f (same_moments n.0 k) (moment_at ms k) refl e q.0 q.1 (λ rest. closed_in s cs t ms k f p.1 rest)

-- the outcomes of a moment of closed tables are included, and it keeps the ranges
pub moment_closed : (s : Setting) (t : Tables) (k : MomentKey) (f : Facts) → is_closed s t ≡ true → moment_at t.moments k ≡ Some f → MomentClosed s (classes s.rules) t k f
unfolding is_closed
moment_closed s t k f c e =
    let p = and_parts (includes t (created s) && moments_closed s (classes s.rules) t t.moments) (places_closed s t t.places) c in
    closed_in s (classes s.rules) t t.moments k f (and_parts (includes t (created s)) (moments_closed s (classes s.rules) t t.moments) p.0).1 e

-- the moment of a creation is included
pub created_included : (s : Setting) (t : Tables) → is_closed s t ≡ true → includes_all t (created s ∷ []) ≡ true
unfolding is_closed
created_included s t c =
    let p = and_parts (includes t (created s) && moments_closed s (classes s.rules) t t.moments) (places_closed s t t.places) c in
    ap (λ (b : Bool). b && true) (and_parts (includes t (created s)) (moments_closed s (classes s.rules) t t.moments) p.0).0
