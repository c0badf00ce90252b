-- The bytes of the runs of what differs.
use Rattle.std.proofs.Common.{◌≡◌, ◌≢◌, ℕ, zero, suc, ◌+◌, ◌-◌, ◌<◌, ◌≤◌, Bool, true, false, cond, ◌==◌, List, [], ◌∷◌, length, Option, Some, None, refl, arith, sym, ap, subst, ◌∙◌}
use Rattle.std.proofs.lemmas.Bool.Decides.{nat_tests}
use Rattle.std.specs.Prelude.{nat_le, slice_get}
use Rattle.std.specs.List.{AllByRecursion}
use Rattle.law_family.specs.model_device.specs.Bytes.{or_else}
use Rattle.law_family.specs.model_device.specs.Pieces.{covering_byte}
use Rattle.law_steps.specs.Runs.{before_if, before_runs, changes}
use Rattle.law_steps.specs.Laws.{AreApart, ExactSetsLaw, LongestRunsLaw}

-- the address of a run of bytes, and the bytes
abbrev pub Run : Type 0
Run = ℕ × List ℕ

-- the byte of one run at an address
abbrev pub run_byte : Run → ℕ → Option ℕ
run_byte r k = cond (nat_le r.0 k) (slice_get r.1 (k - r.0)) None

-- ---- where runs begin

-- all runs begin at an address or later
abbrev pub From : ℕ → List Run → Type 0
From a rs = AllByRecursion (λ r. a ≤ r.0) rs

from_sooner : (a : ℕ) (rs : List Run) → From (a + 1) rs → From a rs
from_sooner a [] h = tt
from_sooner a (r ∷ rs) h = let first = h.0 in (omega arith, from_sooner a rs h.1)

from_joined : (a b : ℕ) (r : Run) (rs : List Run) (c : Bool) → From (a + 1) (r ∷ rs) → From a (cond c ((a, b ∷ r.1) ∷ rs) ((a, b ∷ []) ∷ r ∷ rs))
from_joined a b r rs true h = (omega arith, from_sooner a rs h.1)
from_joined a b r rs false h = (omega arith, from_sooner a (r ∷ rs) h)

from_before : (a b : ℕ) (rs : List Run) → From (a + 1) rs → From a (before_runs a b rs)
from_before a b [] h = (omega arith, tt)
from_before a b (r ∷ rs) h = from_joined a b r rs (r.0 == a + 1) h

from_if : (same : Bool) (a b : ℕ) (rs : List Run) → From (a + 1) rs → From a (before_if same a b rs)
from_if true a b rs h = from_sooner a rs h
from_if false a b rs h = from_before a b rs h

-- the runs of what differs begin at the address that the lists begin at, or later
pub changes_from : (a : ℕ) (old new : List ℕ) → From a (changes a old new)
changes_from a old [] = tt
changes_from a [] (b ∷ bs) = from_if (b == 0) a b (changes (a + 1) [] bs) (changes_from (a + 1) [] bs)
changes_from a (o ∷ os) (b ∷ bs) = from_if (b == o) a b (changes (a + 1) os bs) (changes_from (a + 1) os bs)

-- no run has a byte before the first address
run_none : (r : Run) (k : ℕ) → k < r.0 → run_byte r k ≡ None
run_none r k h = let e : nat_le r.0 k ≡ false = grind (arith, nat_tests, h) in ap (λ (b : Bool). cond b (slice_get r.1 (k - r.0)) None) e

-- no run has a byte before all of them
pub before_none : (a k : ℕ) (rs : List Run) → From a rs → k < a → covering_byte rs k ≡ None
before_none a k [] h less = refl
before_none a k (r ∷ rs) h less =
    let first = h.0 in
    let one : run_byte r k ≡ None = run_none r k (omega arith) in
    ap (λ (o : Option ℕ). or_else o (run_byte r k)) (before_none a k rs h.1 less) ∙ one

-- ---- a byte before runs

-- a byte that is joined to a run after it
joined_byte : (a b k : ℕ) (bs : List ℕ) → k ≢ a → run_byte (a, b ∷ bs) k ≡ run_byte (a + 1, bs) k
joined_byte a b k bs other = by (nat_le (a + 1) k) refl
  where
    by : (t : Bool) → nat_le (a + 1) k ≡ t → run_byte (a, b ∷ bs) k ≡ cond t (slice_get bs (k - (a + 1))) None
    by true e =
        let low : nat_le a k ≡ true = grind (arith, nat_tests, e) in
        let next : k - a ≡ suc (k - (a + 1)) = grind (arith, nat_tests, e) in
        ap (λ (t : Bool). cond t (slice_get (b ∷ bs) (k - a)) None) low ∙ ap (λ (i : ℕ). slice_get (b ∷ bs) i) next
    by false e =
        let less : nat_le a k ≡ false = grind (arith, nat_tests, e, other) in
        ap (λ (t : Bool). cond t (slice_get (b ∷ bs) (k - a)) None) less

own_byte : (a b : ℕ) (bs : List ℕ) → run_byte (a, b ∷ bs) a ≡ Some b
own_byte a b bs =
    let low : nat_le a a ≡ true = grind (arith, nat_tests) in
    let here : a - a ≡ 0 = omega arith in
    ap (λ (t : Bool). cond t (slice_get (b ∷ bs) (a - a)) None) low ∙ ap (λ (i : ℕ). slice_get (b ∷ bs) i) here

no_byte : (t : Bool) (xs : List ℕ) (i : ℕ) → xs ≡ [] → cond t (slice_get xs i) None ≡ None
no_byte true [] i e = refl
no_byte false [] i e = refl
no_byte t (x ∷ xs) i e = absurd (cc e)

single_byte : (a b k : ℕ) → k ≢ a → run_byte (a, b ∷ []) k ≡ None
single_byte a b k other = joined_byte a b k [] other ∙ no_byte (nat_le (a + 1) k) [] (k - (a + 1)) refl

-- nothing after a choice leaves the choice
pub else_none : (o : Option ℕ) → or_else o None ≡ o
else_none None = refl
else_none (Some x) = refl

-- at another address
joined_other : (a b k : ℕ) (r : Run) (rs : List Run) (c : Bool) → (r.0 == a + 1) ≡ c → k ≢ a → covering_byte (cond c ((a, b ∷ r.1) ∷ rs) ((a, b ∷ []) ∷ r ∷ rs)) k ≡ covering_byte (r ∷ rs) k
joined_other a b k r rs true e other =
    let at : r.0 ≡ a + 1 = grind (arith, nat_tests, e) in
    ap (λ (o : Option ℕ). or_else (covering_byte rs k) o) (joined_byte a b k r.1 other ∙ ap (λ (n : ℕ). run_byte (n, r.1) k) (sym at))
joined_other a b k r rs false e other = ap (λ (o : Option ℕ). or_else (covering_byte (r ∷ rs) k) o) (single_byte a b k other) ∙ else_none (covering_byte (r ∷ rs) k)

other_byte : (a b k : ℕ) (rs : List Run) → k ≢ a → covering_byte (before_runs a b rs) k ≡ covering_byte rs k
other_byte a b k [] other = single_byte a b k other
other_byte a b k (r ∷ rs) other = joined_other a b k r rs (r.0 == a + 1) refl other

-- at its own
joined_own : (a b : ℕ) (r : Run) (rs : List Run) (c : Bool) → From (a + 1) (r ∷ rs) → covering_byte (cond c ((a, b ∷ r.1) ∷ rs) ((a, b ∷ []) ∷ r ∷ rs)) a ≡ Some b
joined_own a b r rs true h = ap (λ (o : Option ℕ). or_else o (run_byte (a, b ∷ r.1) a)) (before_none (a + 1) a rs h.1 (omega arith)) ∙ own_byte a b r.1
joined_own a b r rs false h = ap (λ (o : Option ℕ). or_else o (run_byte (a, b ∷ []) a)) (before_none (a + 1) a (r ∷ rs) h (omega arith)) ∙ own_byte a b []

before_own : (a b : ℕ) (rs : List Run) → From (a + 1) rs → covering_byte (before_runs a b rs) a ≡ Some b
before_own a b [] h = own_byte a b []
before_own a b (r ∷ rs) h = joined_own a b r rs (r.0 == a + 1) h

-- ---- bytes that differ

-- the byte at its own address, if it differs
if_own : (same : Bool) (a b : ℕ) (rs : List Run) → From (a + 1) rs → covering_byte (before_if same a b rs) a ≡ cond same None (Some b)
if_own true a b rs h = before_none (a + 1) a rs h (omega arith)
if_own false a b rs h = before_own a b rs h

-- at another address
if_other : (same : Bool) (a b k : ℕ) (rs : List Run) → k ≢ a → covering_byte (before_if same a b rs) k ≡ covering_byte rs k
if_other true a b k rs other = refl
if_other false a b k rs other = other_byte a b k rs other

at_first : (a : ℕ) → a + 0 ≡ a
at_first a = omega arith

next_address : (a i : ℕ) → a + suc i ≡ a + 1 + i
next_address a i = omega arith

-- the runs of what differs have exactly the addresses whose bytes differ
pub exact_sets : ExactSetsLaw
exact_sets a i old [] h = absurd (omega (arith, h))
exact_sets a zero [] (b ∷ bs) h = ap (λ (k : ℕ). covering_byte (changes a [] (b ∷ bs)) k) (at_first a) ∙ if_own (b == 0) a b (changes (a + 1) [] bs) (changes_from (a + 1) [] bs)
exact_sets a zero (o ∷ os) (b ∷ bs) h = ap (λ (k : ℕ). covering_byte (changes a (o ∷ os) (b ∷ bs)) k) (at_first a) ∙ if_own (b == o) a b (changes (a + 1) os bs) (changes_from (a + 1) os bs)
exact_sets a (suc i) [] (b ∷ bs) h =
    if_other (b == 0) a b (a + suc i) (changes (a + 1) [] bs) (λ e. absurd (omega (arith, e))) ∙ ap (λ (k : ℕ). covering_byte (changes (a + 1) [] bs) k) (next_address a i)
    ∙ exact_sets (a + 1) i [] bs (omega (arith, h))
exact_sets a (suc i) (o ∷ os) (b ∷ bs) h =
    if_other (b == o) a b (a + suc i) (changes (a + 1) os bs) (λ e. absurd (omega (arith, e))) ∙ ap (λ (k : ℕ). covering_byte (changes (a + 1) os bs) k) (next_address a i)
    ∙ exact_sets (a + 1) i os bs (omega (arith, h))

-- no byte of the runs is at or after the end
pub after_none : (a k : ℕ) (old new : List ℕ) → a + length new ≤ k → covering_byte (changes a old new) k ≡ None
after_none a k old [] h = refl
after_none a k [] (b ∷ bs) h = if_other (b == 0) a b k (changes (a + 1) [] bs) (λ e. absurd (omega (arith, h, e))) ∙ after_none (a + 1) k [] bs (omega (arith, h))
after_none a k (o ∷ os) (b ∷ bs) h = if_other (b == o) a b k (changes (a + 1) os bs) (λ e. absurd (omega (arith, h, e))) ∙ after_none (a + 1) k os bs (omega (arith, h))

-- ---- runs that do not touch

apart_sooner : (a : ℕ) (rs : List Run) → AreApart (a + 1) rs → AreApart a rs
apart_sooner a [] h = tt
apart_sooner a (r ∷ rs) h = let first = h.0 in (omega arith, h.1, h.2)

apart_joined : (a b : ℕ) (r : Run) (rs : List Run) (c : Bool) → (r.0 == a + 1) ≡ c → AreApart (a + 1) (r ∷ rs) → AreApart a (cond c ((a, b ∷ r.1) ∷ rs) ((a, b ∷ []) ∷ r ∷ rs))
apart_joined a b r rs true e h =
    let at : r.0 ≡ a + 1 = grind (arith, nat_tests, e) in
    let end : r.0 + length r.1 + 1 ≡ a + suc (length r.1) + 1 = omega (arith, at) in
    (omega arith, omega arith, subst (λ (n : ℕ). AreApart n rs) end h.2)
apart_joined a b r rs false e h =
    let first = h.0 in
    let far : a + 1 + 1 ≤ r.0 = grind (arith, nat_tests, e, first) in
    (omega arith, omega arith, (far, h.1, h.2))

apart_before : (a b : ℕ) (rs : List Run) → AreApart (a + 1) rs → AreApart a (before_runs a b rs)
apart_before a b [] h = (omega arith, omega arith, tt)
apart_before a b (r ∷ rs) h = apart_joined a b r rs (r.0 == a + 1) refl h

apart_if : (same : Bool) (a b : ℕ) (rs : List Run) → AreApart (a + 1) rs → AreApart a (before_if same a b rs)
apart_if true a b rs h = apart_sooner a rs h
apart_if false a b rs h = apart_before a b rs h

-- the runs of what differs are the longest
pub longest_runs : LongestRunsLaw
longest_runs a old [] = tt
longest_runs a [] (b ∷ bs) = apart_if (b == 0) a b (changes (a + 1) [] bs) (longest_runs (a + 1) [] bs)
longest_runs a (o ∷ os) (b ∷ bs) = apart_if (b == o) a b (changes (a + 1) os bs) (longest_runs (a + 1) os bs)
