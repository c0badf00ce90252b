-- A spot that covers the frame after an instruction, and is among the outcomes that closed tables include, is one of their
-- places; and the event of an instruction that was done breaks nothing.
use Rattle.std.proofs.Common.{◌≡◌, ℕ, ◌+◌, ◌≤◌, Bool, true, false, List, [], ◌∷◌, Some, Result, Ok, ap, ◌∙◌, arith}
use Rattle.std.specs.Prelude.{◌&&◌, ◌||◌, not, nat_le, flat_map}
use Rattle.std.proofs.lemmas.Bool.{and_parts, and_from, eqb-true, leb-true, le-leb}
use Rattle.model_prove.specs.model_device.specs.Bytes.{AreBytes}
use Rattle.model_prove.specs.model_text.specs.Text.{◌>>=◌}
use Rattle.model_prove.specs.model_machine.specs.declared.instruction.Ins.{Ins}
use Rattle.model_prove.specs.model_machine.specs.Frame.{Frame, dynamic_base}
use Rattle.model_prove.specs.model_events.specs.Deeds.{Deed}
use Rattle.law_rules.specs.law_promise.specs.Outline.{Entry}
use Rattle.law_rules.specs.law_promise.specs.Domain.{FitsDepth}
use Rattle.model_prove.specs.model_rules.specs.Happenings.{Event, History, Did}
use Rattle.model_prove.specs.model_rules.specs.Keeping.{Amounts, Break, Standing, after_occasion, OnTurn, line_of, line_of_deed, after_deed, with_allowances, after_event, standing_after}
use Rattle.model_prove.specs.Facts.{Memory, Holds, follow}
use Rattle.model_prove.specs.Compares.{Compare, Orders, has_order, IsSo}
use Rattle.model_prove.specs.Keys.{Start, Call, PlaceKey, Known, Tables, compare_follows}
use Rattle.model_prove.specs.Arrivals.{Setting, Arrival, AtPlace, arrive, depths, after_turn}
use Rattle.model_prove.specs.Steps.{Spot}
use Rattle.model_prove.specs.Tables.{includes_all}
use Rattle.model_prove.specs.Laws.{HoldsBytes}
use Rattle.model_prove.proofs.FactLemmas.{follow_holds}
use Rattle.law_prove.specs.Coverings.{moment_memory, frame_memory, StartsAs, AreOpen, IsFrameOf, IsPlace}
use Rattle.law_prove.proofs.Moments.{memory_bytes}
use Rattle.law_prove.proofs.Places.{HasPlace, place_included}
use Rattle.law_prove.proofs.Closed.{included_first, included_second, Arrives, arrives}

-- ---- the last compare

or_both : (a b x y : Bool) → (a ≡ true → x ≡ true) → (b ≡ true → y ≡ true) → (a || b) ≡ true → (x || y) ≡ true
or_both a b x y f g e = grind arith

and_first : (a x l : Bool) → (not a || x) ≡ true → (a && l) ≡ true → (x && l) ≡ true
and_first true x l i e = ap (λ (z : Bool). z && l) i ∙ e
and_first false x l i e = absurd (cc e)

wider_orders : (o p : Orders) (x y : ℕ) → (not o.less || p.less) ≡ true → (not o.equal || p.equal) ≡ true → (not o.greater || p.greater) ≡ true → has_order o x y ≡ true → has_order p x y ≡ true
wider_orders o p x y l e g h = grind (arith, or_both, and_first)

wider_bounds : (l h k i v : ℕ) → nat_le k l ≡ true → nat_le h i ≡ true → (nat_le l v && nat_le v h) ≡ true → (nat_le k v && nat_le v i) ≡ true
wider_bounds l h k i v low high e = grind (arith, and_parts, leb-true, and_from, le-leb)

-- what a compare says follows from one that says as much or more
pub compare_so : (c d : Compare) (m : Memory) → compare_follows c d ≡ true → IsSo c m → IsSo d m
compare_so c d m e x = grind (arith, and_parts, eqb-true, wider_bounds, wider_orders)

-- ---- the event of an instruction that was done

-- what stands after it, if it breaks nothing
pub did_stands : (s : Setting) (h : History) (d : Deed) (x : Standing) (b : Amounts) → standing_after s.rules h ≡ Ok x → after_occasion s.rules.ons (OnTurn (line_of_deed d)) x.allowances ≡ Ok b
    → standing_after s.rules (Did d ∷ h) ≡ Ok (record (after_deed s.rules d.frame.protected d x) { allowances = b })
did_stands s h d x b is e =
    ap (λ (z : Result Standing Break). z >>= after_event s.rules (Did d)) is ∙ ap (λ (z : Result Amounts Break). z >>= with_allowances (after_deed s.rules d.frame.protected d x)) e

-- the outcomes of each depth are among those of a turn
three : (t : Tables) (f : ℕ → List Arrival) → includes_all t (flat_map f (2 ∷ 3 ∷ 4 ∷ [])) ≡ true → (depth : ℕ) → 2 ≤ depth → depth ≤ 4 → includes_all t (f depth) ≡ true
three t f e depth low high = grind (arith, included_first, included_second)

-- so are those of the depth that a frame has
at_depth : (s : Setting) (t : Tables) (f : ℕ → List Arrival) (e : Entry Event) (start : Start) (depth : ℕ) → StartsAs s.rules e start → FitsDepth e depth → includes_all t (flat_map f (depths start)) ≡ true → includes_all t (f depth) ≡ true
at_depth s t f e start depth starts fits e' = grind (arith, included_first, three)

-- a turn at this depth breaks nothing, and what follows it is included
pub turn_arrives : (s : Setting) (t : Tables) (e : Entry Event) (key : PlaceKey) (i : Ins) (dt : ℕ) (c z : Bool) (next : Amounts → List Arrival) (depth : ℕ) → StartsAs s.rules e key.start → FitsDepth e depth
    → includes_all t (after_turn s key i dt c z next) ≡ true → Arrives t (after_occasion s.rules.ons (OnTurn (line_of depth key.at i dt c z)) key.allowances) next
turn_arrives s t e key i dt c z next depth starts fits includes =
    arrives t (Some key.at) (after_occasion s.rules.ons (OnTurn (line_of depth key.at i dt c z)) key.allowances) next
    (at_depth s t (λ d. arrive (Some key.at) (after_occasion s.rules.ons (OnTurn (line_of d key.at i dt c z)) key.allowances) next) e key.start depth starts fits includes)

-- ---- the place after an instruction

-- the key of a frame
abbrev pub place_key : Start → Amounts → Frame → List Call → PlaceKey
place_key start a f calls = record { at = f.at; start = start; allowances = a; c = f.c; z = f.z; dt = f.dt; lb = f.lb; protected = f.protected; calls = calls }

-- a spot has the registers of a frame, and what it knows is so
pub record Covers (p : Spot) (f : Frame) (public : List ℕ) : Type 0 where
  pub key : (a : Amounts) → record p.key { allowances = a } ≡ place_key p.key.start a f p.key.calls
  pub open_calls : AreOpen (dynamic_base + f.session) f.dt f.lb f.dyn p.key.calls
  pub holds : Holds p.known.bytes (frame_memory f public)
  pub compares : IsSo p.known.compare (frame_memory f public)
  pub keeps : (session : List ℕ) → AreBytes session → Holds p.known.kept (moment_memory f.fixed session)

-- a spot that covers a frame and is included is one of the tables' places
pub spot_arrives : (s : Setting) (t : Tables) (e : Entry Event) (h : History) (f : Frame) (public : List ℕ) (p : Spot) (x : Standing) → Covers p f public → StartsAs s.rules e p.key.start → standing_after s.rules h ≡ Ok x
    → IsFrameOf s.app f → HoldsBytes (frame_memory f public) → AreBytes f.dyn → includes_all t (AtPlace (record p.key { allowances = x.allowances }) p.known ∷ []) ≡ true → IsPlace s t e h f public
spot_arrives s t e h f public p x covers starts stands frame bytes dyn includes =
    let has : HasPlace t (record p.key { allowances = x.allowances }) p.known = place_included t (record p.key { allowances = x.allowances }) p.known includes in
    let l : Known = has.found in
    let a = and_parts (follow p.known.bytes l.bytes && follow p.known.kept l.kept) (compare_follows p.known.compare l.compare) has.follows in
    let b = and_parts (follow p.known.bytes l.bytes) (follow p.known.kept l.kept) a.0 in
    record {
      standing = x;
      stands = stands;
      start = p.key.start;
      starts = starts;
      calls = p.key.calls;
      open_calls = covers.open_calls;
      known = l;
      there = rw (← covers.key x.allowances) has.there;
      holds = follow_holds p.known.bytes l.bytes (frame_memory f public) b.0 covers.holds bytes;
      compares = compare_so p.known.compare l.compare (frame_memory f public) a.1 covers.compares;
      keeps = λ session d. follow_holds p.known.kept l.kept (moment_memory f.fixed session) b.1 (covers.keeps session d) (memory_bytes f.fixed session frame.static d);
      frame = frame;
      bytes = bytes;
      dynamic = dyn;
    }
