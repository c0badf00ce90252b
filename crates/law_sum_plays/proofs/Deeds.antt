-- After an instruction that was done, with its event: what the table of sums says of the next place holds, and each
-- total holds of the static bytes that power would leave.
use Rattle.std.specs.Prelude.{◌≡◌, ℕ, ◌+◌, ◌-◌, ◌≤◌, Bool, true, false, ◌&&◌, List, ◌∷◌, length, slice_index, refl}
use Rattle.std.specs.List.{AllByRecursion}
use Rattle.std.proofs.Common.{arith, ap, sym, subst, ◌∙◌}
use Rattle.std.proofs.lemmas.Bool.{and_parts}
use Rattle.law_prove_closed.specs.model_machine.specs.declared.instruction.Ins.{Ins}
use Rattle.law_prove_closed.specs.model_machine.specs.Frame.{Frame, Effect, dynamic_base, public_base, static_bytes}
use Rattle.law_prove_closed.specs.model_machine.specs.Primitives.{Then}
use Rattle.law_prove_closed.specs.model_rules.specs.model_events.specs.Deeds.{Deed}
use Rattle.law_prove_closed.specs.law_promise.specs.Outline.{Entry, is_direct}
use Rattle.law_prove_closed.specs.law_promise.specs.Domain.{FitsDepth}
use Rattle.law_prove_closed.specs.model_rules.specs.Rules.{SumLine, Total, AppRules, Target}
use Rattle.law_prove_closed.specs.model_rules.specs.Happenings.{Event, Did, History}
use Rattle.law_prove_closed.specs.model_rules.specs.Keeping.{Sum, Standing, OnTurn, after_occasion, line_of_deed, mode_of, after_deed, are_totals}
use Rattle.law_prove_closed.specs.model_prove.specs.Facts.{Memory}
use Rattle.law_prove_closed.specs.model_prove.specs.Keys.{Tables}
use Rattle.law_prove_closed.specs.model_prove.specs.Splits.{Scene}
use Rattle.law_prove_closed.specs.model_prove.specs.Arrivals.{Setting, Arrival, static_size}
use Rattle.law_prove_closed.specs.model_rules.specs.Loadable.{IsLoadable}
use Rattle.law_prove_closed.specs.law_prove.specs.Coverings.{frame_memory, IsPlace, key_of}
use Rattle.law_prove_closed.specs.law_prove.proofs.Parts.{memory_public}
use Rattle.law_prove_closed.specs.Outcomes.{some_outcome, leads_to}
use Rattle.law_sums.specs.model_sums.specs.Origins.{Origins, origin_at}
use Rattle.law_sums.specs.model_sums.specs.Sums.{Sums, SumsTable, sums_at, are_even}
use Rattle.law_sums.specs.model_sums.specs.Says.{IsFrom, OriginsHold, MoreHolds, OffsHold, Holds, read_sums}
use Rattle.law_sums.specs.model_sums.specs.Writes.{delegated}
use Rattle.law_sums.specs.model_sums.specs.Moves.{after_next}
use Rattle.law_sums.specs.model_sums.specs.Events.{public_size, drops, asks, counted}
use Rattle.law_sums.specs.model_sums.specs.Closed.{Turn, is_settled, has_sums, event_leads_to, all_pass, depth_closed, arrival_closed}
use Rattle.law_sums.specs.EventLaws.{PublicHolds}
use Rattle.law_sums.specs.TurnLaws.{row_sums, TurnHolds}
use Rattle.law_sums.proofs.KnownLemmas.{follow_holds}
use Rattle.law_sums.proofs.LossLemmas.{delegated_holds}
use Rattle.law_sums.proofs.TurnLemmas.{turn_holds}
use Rattle.law_sum_plays.specs.Rows.{spot_at}
use Rattle.law_sum_plays.specs.Laws.{Guards}
use Rattle.law_sum_plays.specs.Coverings.{IsSumPlace}
use Rattle.law_sum_plays.proofs.Standings.{IsDone, done_stands, moves_have_sums}
use Rattle.law_sum_plays.proofs.Totals.{AreWithin, totals_are, within_more, reads_static}
use Rattle.law_sum_plays.proofs.Checked.{SumsClosed, Led, led}
use Rattle.law_sum_plays.proofs.Kept.{Keeps}
use Rattle.law_sum_plays.proofs.Outcomes.{given, event_leads, at_depth, Follows, follows_of}
use Rattle.law_prove_closed.proofs.Delegated.{other_public}

-- ---- what is known after an event

counted_holds : (b : Bool) (ts : List Total) (ls : List SumLine) (line : List ℕ) (o : Origins) (after : Sums) (first : List ℕ) (m : Memory) (sums : List Sum) → OriginsHold after.origins first m → AllByRecursion (MoreHolds first m) after.mores
    → OffsHold first m sums ts (counted b ts ls line o after).offs → Holds ts (counted b ts ls line o after) first m sums
counted_holds true ts ls line o after first m sums origins mores offs = record { origins = origins; mores = mores; offs = offs }
counted_holds false ts ls line o after first m sums origins mores offs = record { origins = origins; mores = mores; offs = offs }

module _ (r : AppRules) (g : Target) (t : Tables) (u : SumsTable) (loadable : IsLoadable g.app) (closed : SumsClosed (record { rules = r; app = g.app }) t u) where
  abbrev setting : Setting
  setting = record { rules = r; app = g.app }

  module _ (e : Entry Event) (h : History) (f : Frame) (public : List ℕ) (depth : ℕ) (p : IsSumPlace setting t u e h f public) (deep : FitsDepth e depth) (whole : public_size ≤ length public) (i : Ins) (d : Effect) where
    -- what was done
    abbrev pub deed : Deed
    deed = record { frame = f; public = public; direct = is_direct e; depth = depth; ins = i; effect = d }

    -- the turn that closed tables compare, in a scene
    abbrev pub turn_in : Scene → Turn
    turn_in z = record { ins = i; scene = z; spot = spot_at setting t e h f public p.place; sums = p.known }

    -- what is known after the event, from what is known after the row
    abbrev pub after_event_of : Sums → Sums
    after_event_of after = counted (drops f.protected (mode_of i)) r.totals r.moves (line_of_deed deed) p.known.origins after

    -- what the row leaves: the bytes, with what is known of them for sums, and what it does to the protection
    pub record Left (after : Sums) : Type 0 where
      pub holds : Holds r.totals after p.sums.first (frame_memory d.frame d.public) (row_sums f.protected (mode_of i) p.place.standing)
      pub guards : Guards (mode_of i) f.protected f.fixed f.pieces d

    -- ---- the sums

    public_byte : (k : ℕ) → frame_memory f public (public_base + k) ≡ slice_index public k
    public_byte k =
        let size : length f.fixed ≡ length g.app.fixed = p.place.frame.size in
        let low : length g.app.fixed ≤ dynamic_base = loadable.static in
        let place : public_base + k - public_base ≡ k = omega arith in
        memory_public (length f.fixed) (static_bytes f) f.dyn public (public_base + k) (omega (arith, size, low)) (omega arith) ∙ ap (λ (j : ℕ). slice_index public j) place

    public_holds : PublicHolds p.known.origins p.sums.first public
    public_holds k = subst (λ (v : ℕ). IsFrom p.sums.first (origin_at p.known.origins (public_base + k)) v) (public_byte k) (p.sums.holds.origins (public_base + k))

    turned : (after : Sums) → Left after
        → TurnHolds r f.protected d.frame.protected (mode_of i) p.sums.first (frame_memory d.frame d.public) (after_event_of after) p.place.standing (after_deed r f.protected deed p.place.standing)
    turned after left =
        turn_holds r deed p.place.standing d.frame.protected after p.known.origins p.sums.first (frame_memory d.frame d.public)
        (moves_have_sums r h p.place.standing f.protected p.place.stands closed.names) public_holds whole left.guards.stays left.holds.offs

    -- ---- what power would leave

    kept_by : (b : Bool) (after : Sums) → asks f.protected (mode_of i) ≡ b → Left after → (asks f.protected (mode_of i) ≡ true → are_even r.totals (after_event_of after).offs ≡ true) → length d.frame.fixed ≡ static_size setting
        → are_totals d.frame.fixed (after_deed r f.protected deed p.place.standing).kept r.totals ≡ true
    kept_by true after asked left even size =
        let turn = turned after left in
        totals_are (frame_memory d.frame d.public) d.frame.fixed (after_deed r f.protected deed p.place.standing).kept r.totals (reads_static d.frame d.public (left.guards.settled asked p.place.frame.settled))
        (subst (λ (n : ℕ). AreWithin n r.totals) (sym size) closed.static) (turn.asked asked (even asked))
    kept_by false after asked left even size =
        let turn = turned after left in
        subst (λ (z : List ℕ). are_totals z (after_deed r f.protected deed p.place.standing).kept r.totals ≡ true) (sym (left.guards.fixed asked))
        (subst (λ (sums : List Sum). are_totals f.fixed sums r.totals ≡ true) (sym (turn.kept asked)) p.sums.kept)

    -- each total holds of it, if those that are asked are not off
    pub deed_keeps : (z : Scene) (after : Sums) → Left after → is_settled setting (turn_in z) (after_event_of after) ≡ true → length d.frame.fixed ≡ static_size setting → Keeps setting (Did deed ∷ h) d.frame.fixed
    deed_keeps z after left settled size y is =
        let x : IsDone r deed p.place.standing y = done_stands r deed h p.place.standing y p.place.stands is in
        let even : asks f.protected (mode_of i) ≡ true → are_even r.totals (after_event_of after).offs ≡ true = given (asks f.protected (mode_of i)) (are_even r.totals (after_event_of after).offs) settled in
        subst (λ (w : Standing). are_totals d.frame.fixed w.kept r.totals ≡ true) (sym x.stands) (kept_by (asks f.protected (mode_of i)) after refl left even size)

    -- ---- the next place

    module _ (segment : List ℕ) (q : IsPlace setting t e (Did deed ∷ h) d.frame segment) where
      done : IsDone r deed p.place.standing q.standing
      done = done_stands r deed h p.place.standing q.standing p.place.stands q.stands

      -- the totals that are asked are not off, and what the table has at the place follows
      pub compared : (z : Scene) (after : Sums) (n : Then) (outcomes : List Arrival) → some_outcome (leads_to (key_of setting t e (Did deed ∷ h) d.frame segment q)) outcomes ≡ true
          → all_pass (arrival_closed setting u (turn_in z) n after) outcomes ≡ true
          → (is_settled setting (turn_in z) (after_event_of after) && has_sums r.totals (after_next n (after_event_of after)) (sums_at u (key_of setting t e (Did deed ∷ h) d.frame segment q))) ≡ true
      compared z after n outcomes some all =
          let key = key_of setting t e (Did deed ∷ h) d.frame segment q in
          let one : Led (arrival_closed setting u (turn_in z) n after) key = led (arrival_closed setting u (turn_in z) n after) key outcomes some all in
          let deepest : depth_closed setting u (turn_in z) n after key depth ≡ true = at_depth r e p.place.start depth (depth_closed setting u (turn_in z) n after key) p.place.starts deep one.passes in
          given (event_leads_to (after_occasion r.ons (OnTurn (line_of_deed deed)) p.place.standing.allowances) q.standing.allowances)
          (is_settled setting (turn_in z) (after_event_of after) && has_sums r.totals (after_next n (after_event_of after)) (sums_at u key)) deepest
          (event_leads (after_occasion r.ons (OnTurn (line_of_deed deed)) p.place.standing.allowances) done.allowances q.standing.allowances done.is (ap (λ (w : Standing). w.allowances) done.stands))

      -- what is known after the event holds of the sums that then stand
      standing_holds : (after : Sums) → Left after → Holds r.totals (after_event_of after) p.sums.first (frame_memory d.frame d.public) (read_sums d.frame.protected q.standing)
      standing_holds after left =
          let turn = turned after left in
          let x : Standing = after_deed r f.protected deed p.place.standing in
          let k : Memory = frame_memory d.frame d.public in
          let v : Sums = after_event_of after in
          let held : Holds r.totals v p.sums.first k (read_sums d.frame.protected x) =
          counted_holds (drops f.protected (mode_of i)) r.totals r.moves (line_of_deed deed) p.known.origins after p.sums.first k (read_sums d.frame.protected x) left.holds.origins left.holds.mores turn.offs
          in
          subst (λ (w : Standing). Holds r.totals v p.sums.first k (read_sums d.frame.protected w)) (sym done.stands) held

      found_place : (v : Sums) → Holds r.totals v p.sums.first (frame_memory d.frame segment) (read_sums d.frame.protected q.standing) → are_totals d.frame.fixed q.standing.kept r.totals ≡ true
          → has_sums r.totals v (sums_at u (key_of setting t e (Did deed ∷ h) d.frame segment q)) ≡ true → IsSumPlace setting t u e (Did deed ∷ h) d.frame segment
      found_place v held kept has =
          let found : Follows r.totals v (sums_at u (key_of setting t e (Did deed ∷ h) d.frame segment q)) = follows_of r.totals v (sums_at u (key_of setting t e (Did deed ∷ h) d.frame segment q)) has in
          record {
            place = q;
            known = found.known;
            there = found.is;
            sums = record {
              first = p.sums.first;
              holds = follow_holds r.totals v found.known p.sums.first (frame_memory d.frame segment) (read_sums d.frame.protected q.standing) found.follows held;
              kept = kept;
            };
          }

      -- after a delegation, whatever the public bytes are
      pub delegated_place : (z : Scene) (after : Sums) → Left after → (is_settled setting (turn_in z) (after_event_of after) && has_sums r.totals (delegated (after_event_of after)) (sums_at u (key_of setting t e (Did deed ∷ h) d.frame segment q))) ≡ true
          → IsSumPlace setting t u e (Did deed ∷ h) d.frame segment
      delegated_place z after left e2 =
          let v : Sums = after_event_of after in
          let c = and_parts (is_settled setting (turn_in z) v) (has_sums r.totals (delegated v) (sums_at u (key_of setting t e (Did deed ∷ h) d.frame segment q))) e2 in
          let within : AreWithin public_base r.totals = within_more (static_size setting) public_base r.totals (let low : static_size setting ≤ dynamic_base = loadable.static in omega (arith, low)) closed.static in
          let held : Holds r.totals (delegated v) p.sums.first (frame_memory d.frame segment) (read_sums d.frame.protected q.standing) =
          delegated_holds r.totals v p.sums.first (frame_memory d.frame d.public) (frame_memory d.frame segment) (read_sums d.frame.protected q.standing) (λ a low. other_public d.frame d.public segment a low) within (standing_holds after left)
          in
          found_place (delegated v) held (deed_keeps z after left c.0 q.frame.size q.standing q.stands) c.1

    -- where the frame goes on
    pub next_place : (q : IsPlace setting t e (Did deed ∷ h) d.frame d.public) (z : Scene) (after : Sums) → Left after
        → (is_settled setting (turn_in z) (after_event_of after) && has_sums r.totals (after_event_of after) (sums_at u (key_of setting t e (Did deed ∷ h) d.frame d.public q))) ≡ true
        → IsSumPlace setting t u e (Did deed ∷ h) d.frame d.public
    next_place q z after left e2 =
        let v : Sums = after_event_of after in
        let c = and_parts (is_settled setting (turn_in z) v) (has_sums r.totals v (sums_at u (key_of setting t e (Did deed ∷ h) d.frame d.public q))) e2 in
        found_place d.public q v (standing_holds d.public q after left) (deed_keeps z after left c.0 q.frame.size q.standing q.stands) c.1
