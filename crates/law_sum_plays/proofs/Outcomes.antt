-- Where one of the outcomes of a place leads to the next place, what the turn was compared with there.
use Rattle.std.specs.Prelude.{◌≡◌, ℕ, ◌≤◌, Bool, true, false, not, ◌&&◌, ◌||◌, ◌==◌, bytes_eq, List, [], ◌∷◌, Option, Some, None, Result, Ok, refl}
use Rattle.std.proofs.Common.{arith, ap, ◌∙◌}
use Rattle.std.proofs.lemmas.Bool.{and_parts, and_from, eq-eqb}
use Rattle.law_prove_closed.specs.model_device.proofs.MapLemmas.{name_is_itself}
use Rattle.law_prove_closed.specs.model_machine.specs.Frame.{Frame}
use Rattle.law_prove_closed.specs.law_promise.specs.Outline.{Entry}
use Rattle.law_prove_closed.specs.law_promise.specs.Domain.{FitsDepth}
use Rattle.law_prove_closed.specs.model_rules.specs.Rules.{Total, AppRules}
use Rattle.law_prove_closed.specs.model_rules.specs.Happenings.{Event, History}
use Rattle.law_prove_closed.specs.model_rules.specs.Keeping.{Amounts, Break}
use Rattle.law_prove_closed.specs.model_prove.specs.Keys.{Start, Tables, same_amounts}
use Rattle.law_prove_closed.specs.model_prove.specs.Arrivals.{Setting, Arrival, depths}
use Rattle.law_prove_closed.specs.model_prove.specs.Tables.{place_at}
use Rattle.law_prove_closed.specs.law_prove.specs.Coverings.{StartsAs, IsPlace, key_of}
use Rattle.law_prove_closed.specs.Outcomes.{some_outcome, leads_to, tables_of}
use Rattle.law_prove_closed.proofs.Outcomes.{found}
use Rattle.law_sums.specs.model_sums.specs.Sums.{Sums, sums_follow}
use Rattle.law_sums.specs.model_sums.specs.Closed.{all_pass, has_sums, event_leads_to}

-- ---- tests

-- what a test says if its premise holds
pub given : (a b : Bool) → (not a || b) ≡ true → a ≡ true → b ≡ true
given true b e is = e
given false b e is = absurd (cc is)

-- allowances are the same as themselves
pub same_itself : (a : Amounts) → same_amounts a a ≡ true
same_itself [] = refl
same_itself (x ∷ more) =
    and_from (bytes_eq x.0 x.0 && x.1 == x.1) (same_amounts more more) (and_from (bytes_eq x.0 x.0) (x.1 == x.1) (name_is_itself x.0) (eq-eqb x.1 x.1 refl)) (same_itself more)

-- an event that leaves these allowances leads to them
pub event_leads : (o : Result Amounts Break) (a b : Amounts) → o ≡ Ok a → b ≡ a → event_leads_to o b ≡ true
event_leads o a b is same =
    ap (λ (z : Result Amounts Break). event_leads_to z b) is ∙ (ap (λ (z : Amounts). same_amounts a z) same ∙ same_itself a)

-- a test of all depths of a place is one of the depth of its frame
delegated_depth : (depth : ℕ) (test : ℕ → Bool) → 2 ≤ depth → depth ≤ 4 → all_pass test (2 ∷ 3 ∷ 4 ∷ []) ≡ true → test depth ≡ true
delegated_depth depth test low high all = grind (arith, and_parts)

-- what passes for all depths of a beginning passes for the depth of its frame
pub at_depth : (r : AppRules) (e : Entry Event) (start : Start) (depth : ℕ) (test : ℕ → Bool) → StartsAs r e start → FitsDepth e depth → all_pass test (depths start) ≡ true → test depth ≡ true
at_depth r e start depth test starts deep all = grind (arith, and_parts, delegated_depth)

-- ---- what a table of sums has at a place

-- what a table of sums has at a place, and that it follows from what is known
pub record Follows (ts : List Total) (v : Sums) (found : Option Sums) : Type 0 where
  pub known : Sums
  pub is : found ≡ Some known
  pub follows : sums_follow ts v known ≡ true

-- a test of a place of a table of sums finds what follows
pub follows_of : (ts : List Total) (v : Sums) (found : Option Sums) → has_sums ts v found ≡ true → Follows ts v found
follows_of ts v None e = absurd (cc e)
follows_of ts v (Some known) e = record { known = known; is = refl; follows = e }

-- ---- a place of the tables that some outcomes leave

-- its key is one of the tables, and one of the outcomes leads to it
pub record IsLeft (s : Setting) (t : Tables) (outcomes : List Arrival) (e : Entry Event) (h : History) (f : Frame) (public : List ℕ) (p : IsPlace s (tables_of outcomes t) e h f public) : Type 0 where
  pub there : place_at t.places (key_of s (tables_of outcomes t) e h f public p) ≡ Some p.known
  pub leads : some_outcome (leads_to (key_of s (tables_of outcomes t) e h f public p)) outcomes ≡ true

-- a place that outcomes leave is one of the tables, and one of the outcomes leads to it
pub is_left : (s : Setting) (t : Tables) (outcomes : List Arrival) (e : Entry Event) (h : History) (f : Frame) (public : List ℕ) (p : IsPlace s (tables_of outcomes t) e h f public) → IsLeft s t outcomes e h f public p
is_left s t outcomes e h f public p =
    let is = found (λ k. some_outcome (leads_to k) outcomes) t.places (key_of s (tables_of outcomes t) e h f public p) p.known p.there in
    record { there = is.1; leads = is.0 }

-- so it is a place of the tables, with the same key
abbrev pub left_place : (s : Setting) (t : Tables) (outcomes : List Arrival) (e : Entry Event) (h : History) (f : Frame) (public : List ℕ) (p : IsPlace s (tables_of outcomes t) e h f public) → IsLeft s t outcomes e h f public p → IsPlace s t e h f public
left_place s t outcomes e h f public p left =
    record {
      standing = p.standing;
      stands = p.stands;
      start = p.start;
      starts = p.starts;
      calls = p.calls;
      open_calls = p.open_calls;
      known = p.known;
      there = left.there;
      holds = p.holds;
      compares = p.compares;
      keeps = p.keeps;
      frame = p.frame;
      bytes = p.bytes;
      dynamic = p.dynamic;
    }
