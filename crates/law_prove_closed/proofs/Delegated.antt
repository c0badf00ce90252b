-- What follows a delegation is covered: the place after it, with any public segment; the abends of a delegate; a stop.
use Rattle.std.proofs.Common.{◌≡◌, inl, inr, ℕ, zero, suc, ◌+◌, ◌-◌, ◌<◌, ◌≤◌, Bool, true, false, cond, List, [], ◌∷◌, ◌++◌, length, Ok, refl, sym, ap, subst, ◌∙◌, arith}
use Rattle.std.specs.Prelude.{◌&&◌, nat_lt, nat_le, flat_map, slice_index}
use Rattle.std.proofs.lemmas.Bool.{and_parts, leb-true, lt-ltb}
use Rattle.law_prove.specs.model_device.specs.Bytes.{num}
use Rattle.law_prove.specs.model_machine.specs.declared.instruction.Ins.{Ins}
use Rattle.law_prove.specs.model_machine.specs.declared.machine.Abend.{Abend}
use Rattle.law_prove.specs.model_machine.specs.declared.machine.Abend.TheVariants.{A01, A02, A03, A04, A05, A06, A07, A08, A09, A0A}
use Rattle.law_prove.specs.model_machine.specs.Frame.{Frame, dynamic_base, public_base, static_bytes}
use Rattle.law_prove.specs.model_machine.specs.Primitives.{Delegates, frame_effect}
use Rattle.law_prove.specs.model_machine.specs.Row.{Does}
use Rattle.law_prove.specs.law_bytes.specs.OfBytes.{IsByteFrame}
use Rattle.law_prove.specs.model_rules.specs.model_events.specs.Deeds.{Deed}
use Rattle.law_prove.specs.law_promise.specs.Outline.{Entry, is_direct}
use Rattle.law_prove.specs.law_promise.specs.Domain.{RowCovered, FitsDepth, IsRowCause}
use Rattle.law_prove.specs.model_rules.specs.Rules.{Target}
use Rattle.law_prove.specs.model_rules.specs.Happenings.{Event, History, Did}
use Rattle.law_prove.specs.model_rules.specs.Keeping.{Amounts, Standing, after_occasion, OnTurn, line_of, line_of_deed, after_deed, standing_after}
use Rattle.law_prove.specs.law_rules.specs.Law.{domain_of_rules}
use Rattle.law_prove.specs.model_prove.specs.Facts.{Memory}
use Rattle.law_prove.specs.model_prove.specs.Compares.{Compare, NoCompare, Bounds, Ordered, bytes_from, compare_below, has_order, IsSo}
use Rattle.law_prove.specs.model_prove.specs.Keys.{Start, PlaceKey, Tables}
use Rattle.law_prove.specs.model_prove.specs.Laws.{Among}
use Rattle.law_prove.specs.model_prove.specs.Arrivals.{Setting, Arrival, stopped, abended}
use Rattle.law_prove.specs.model_prove.specs.Steps.{Spot, after_delegation, arrived, delegate_abends, follows}
use Rattle.law_prove.specs.model_rules.specs.Loadable.{IsLoadable}
use Rattle.law_prove.specs.model_prove.specs.Tables.{includes, includes_all}
use Rattle.law_prove.specs.Coverings.{frame_memory, IsFrameOf, IsPlace, StartsAs, covering_of}
use Rattle.law_prove.specs.Laws.{LeadsInto}
use Rattle.law_prove.proofs.Closed.{included_first, included_second, Arrives}
use Rattle.law_prove.proofs.Moments.{within_holds}
use Rattle.law_prove.proofs.Places.{abend_arrives}
use Rattle.law_prove.proofs.Spots.{place_key, did_stands, turn_arrives, Covers, spot_arrives}
use Rattle.law_prove.proofs.Turns.{memory_of_bytes, stopped_arrives, before_it}
use Rattle.law_prove.proofs.Choices.{one_of}

-- ---- lists of outcomes

-- each abend but 09 is one of a delegate
among_abends : (cause : Abend) → IsRowCause cause → Among cause delegate_abends
among_abends A01 h = inl refl
among_abends A02 h = inr (inl refl)
among_abends A03 h = inr (inr (inl refl))
among_abends A04 h = inr (inr (inr (inl refl)))
among_abends A05 h = inr (inr (inr (inr (inl refl))))
among_abends A06 h = inr (inr (inr (inr (inr (inl refl)))))
among_abends A07 h = inr (inr (inr (inr (inr (inr (inl refl))))))
among_abends A08 h = inr (inr (inr (inr (inr (inr (inr (inl refl)))))))
among_abends A09 h = absurd h
among_abends A0A h = inr (inr (inr (inr (inr (inr (inr (inr (inl refl))))))))

-- ---- bytes below the public segment

same_below : (m k : Memory) (end a n : ℕ) → ((b : ℕ) → b < end → m b ≡ k b) → a + n ≤ end → bytes_from m a n ≡ bytes_from k a n
same_below m k end a zero same low = refl
same_below m k end a (suc n) same low =
    ap (λ (v : ℕ). v ∷ bytes_from m (suc a) n) (same a (omega (arith, low))) ∙ ap (λ (t : List ℕ). k a ∷ t) (same_below m k end (suc a) n same (omega (arith, low)))

so_if : (b : Bool) (c : Compare) (m : Memory) → (b ≡ true → IsSo c m) → IsSo (cond b c NoCompare) m
so_if true c m h = h refl
so_if false c m h = tt

-- the last compare is so of a state with the same bytes below an address, if all of its bytes lie there
below_holds : (limit : ℕ) (c : Compare) (m k : Memory) → ((b : ℕ) → b < limit → m b ≡ k b) → IsSo c m → IsSo (compare_below limit c) k
below_holds limit NoCompare m k same i = tt
below_holds limit (Bounds a n low high) m k same i =
    so_if (nat_le (a + n) limit) (Bounds a n low high) k (λ e.
    subst (λ (t : List ℕ). nat_le low (num t) && nat_le (num t) high ≡ true) (same_below m k limit a n same (leb-true (a + n) limit e)) i)
below_holds limit (Ordered a n c o) m k same i =
    so_if (nat_le (a + n) limit && nat_le (c + n) limit) (Ordered a n c o) k (λ e.
    let p = and_parts (nat_le (a + n) limit) (nat_le (c + n) limit) e in
    subst (λ (t : List ℕ). has_order o (num (bytes_from k a n)) (num t) ≡ true) (same_below m k limit c n same (leb-true (c + n) limit p.1))
    (subst (λ (t : List ℕ). has_order o (num t) (num (bytes_from m c n)) ≡ true) (same_below m k limit a n same (leb-true (a + n) limit p.0)) i))

-- bytes below the public segment are not those of it
pub other_public : (f : Frame) (public other : List ℕ) (a : ℕ) → a < public_base → frame_memory f public a ≡ frame_memory f other a
other_public f public other a low =
    let e = lt-ltb a public_base low in
    let x = slice_index (static_bytes f) a in
    let y = slice_index f.dyn (a - dynamic_base) in
    let u = slice_index public (a - public_base) in
    let v = slice_index other (a - public_base) in
    ap (λ (b : Bool). cond (nat_lt a (length f.fixed)) x (cond (nat_lt a dynamic_base) 0 (cond b y u))) e
    ∙ sym (ap (λ (b : Bool). cond (nat_lt a (length f.fixed)) x (cond (nat_lt a dynamic_base) 0 (cond b y v))) e)

-- what a delegation leaves covers its frame with any public segment
back_covers : (r : Spot) (f : Frame) (public other : List ℕ) → Covers r f public → Covers (after_delegation r) f other
back_covers r f public other covers =
    record {
      key = covers.key;
      open_calls = covers.open_calls;
      holds = within_holds 0 public_base r.known.bytes (frame_memory f public) (frame_memory f other) (λ a low high. other_public f public other a high) covers.holds;
      compares = below_holds public_base r.known.compare (frame_memory f public) (frame_memory f other) (λ a low. other_public f public other a low) covers.compares;
      keeps = covers.keeps;
    }

-- ---- what follows

module _ (s : Setting) (u t : Tables) (g : Target) (loadable : IsLoadable s.app) (leads : LeadsInto s u t) (e : Entry Event) (h : History) (f : Frame) (public : List ℕ) (depth : ℕ) (p : IsPlace s u e h f public) (deep : FitsDepth e depth) (i : Ins) where
  -- what follows a delegation is covered: the place after it, its abends and a stop
  pub delegates_covered : (n name : List ℕ) (r : Spot) (after : Frame) → r.key.start ≡ p.start → Covers r after public → IsFrameOf s.app after → IsByteFrame after
      → includes_all t (follows s i false (Delegates n) (before_it s u t g loadable leads e h f public depth p deep i) r) ≡ true
      → RowCovered (domain_of_rules g (covering_of s t)) e h f public depth i (Does (record { effect = frame_effect after public; next = Delegates name }))
  delegates_covered n name r after same covers frame bytes all =
      let k : PlaceKey = place_key p.start p.standing.allowances f p.calls in
      let deed : Deed = record { frame = f; public = public; direct = is_direct e; depth = depth; ins = i; effect = frame_effect after public } in
      let ends : Amounts → Abend → List Arrival = λ a cause. abended s p.start a r.known cause in
      let stop : Amounts → List Arrival = λ a. stopped s p.start a r.known.kept in
      let next : Amounts → List Arrival = λ a. arrived (after_delegation r) a ∷ (flat_map (ends a) delegate_abends ++ stop a) in
      let line : List ℕ = line_of depth f.at i r.key.dt r.key.c r.key.z in
      let m : Arrives t (after_occasion s.rules.ons (OnTurn line) p.standing.allowances) next = turn_arrives s t e k i r.key.dt r.key.c r.key.z next depth p.starts deep all in
      let alike : line ≡ line_of_deed deed = ap (λ (z : PlaceKey). line_of depth f.at i z.dt z.c z.z) (covers.key []) in
      let is : after_occasion s.rules.ons (OnTurn (line_of_deed deed)) p.standing.allowances ≡ Ok m.allowances = sym (ap (λ (z : List ℕ). after_occasion s.rules.ons (OnTurn z) p.standing.allowances) alike) ∙ m.is in
      let x : Standing = record (after_deed s.rules f.protected deed p.standing) { allowances = m.allowances } in
      let stands : standing_after s.rules (Did deed ∷ h) ≡ Ok x = did_stands s h deed p.standing m.allowances p.stands is in
      let parts = and_parts (includes t (arrived (after_delegation r) m.allowances)) (includes_all t (flat_map (ends m.allowances) delegate_abends ++ stop m.allowances)) m.rest in
      let abends : includes_all t (flat_map (ends m.allowances) delegate_abends) ≡ true = included_first t (flat_map (ends m.allowances) delegate_abends) (stop m.allowances) parts.1 in
      let stops : includes_all t (stop m.allowances) ≡ true = included_second t (flat_map (ends m.allowances) delegate_abends) (stop m.allowances) parts.1 in
      let starts : StartsAs s.rules e r.key.start = subst (λ (z : Start). StartsAs s.rules e z) (sym same) p.starts in
      record {
        write = tt;
        next = record {
          back = λ other segment. spot_arrives s t e (Did deed ∷ h) after other (after_delegation r) x (back_covers r after public other covers) starts stands frame
              (memory_of_bytes after other bytes (segment.1 tt)) bytes.stack (ap (λ (b : Bool). b && true) parts.0);
          abends = λ cause row. abend_arrives s t g loadable e (Did deed ∷ h) after public p.start x r.known cause p.starts stands covers.keeps covers.holds frame bytes.stack
              (one_of t (ends m.allowances) cause delegate_abends (among_abends cause row) abends);
          stops = stopped_arrives s u t g loadable leads e (Did deed ∷ h) after.fixed p.start x r.known.kept p.starts stands covers.keeps frame.size frame.static stops;
        };
      }
