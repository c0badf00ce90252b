-- A proof outline is a domain: what keeps holds of all moments, and of each place besides.
use Rattle.std.proofs.Common.{◌≡◌, ℕ, ◌≤◌, Bool, true, false, cond, List, [], ◌∷◌, length, Option, Some, None, Result, Ok, Err, refl, sym, subst, arith, inl}
use Rattle.std.specs.Prelude.{⊤, bytes_eq, nat_lt}
use Rattle.std.proofs.lemmas.List.{length-replicate}
use Rattle.model_events.specs.model_machine.specs.declared.instruction.Ins.{Ins}
use Rattle.model_events.specs.model_machine.specs.declared.instruction.DecodeFault.{DecodeFault}
use Rattle.model_events.specs.model_machine.specs.declared.machine.Abend.{Abend}
use Rattle.model_events.specs.model_machine.specs.declared.machine.Abend.TheVariants.{A09}
use Rattle.model_events.specs.model_device.specs.Bytes.{zeros, lookup}
use Rattle.model_events.specs.model_device.specs.Card.{App}
use Rattle.model_events.specs.model_device.specs.PowerUp.{Base, OnCard, AtFault}
use Rattle.model_events.specs.model_machine.specs.Apdu.{ApduParts}
use Rattle.model_events.specs.model_machine.specs.Code.{instruction_at}
use Rattle.model_events.specs.model_machine.specs.Frame.{Frame, session_of, la_of}
use Rattle.model_events.specs.model_machine.specs.Primitives.{Around, Then, Goes, Exits, Delegates, Done}
use Rattle.model_events.specs.model_machine.specs.Row.{RowEnd, Abends, Does, row}
use Rattle.model_events.specs.model_machine.specs.Chain.{Outcome, Abended, frame_at}
use Rattle.law_bytes.specs.model_card.specs.Manager.{Selected}
use Rattle.law_bytes.specs.model_play.specs.DeckGrammar.{DeckLine}
use Rattle.law_bytes.specs.model_play.specs.Play.{Live, State, BeforePower, AfterPower, Step, plays, start}
use Rattle.model_events.specs.Deeds.{Deed}
use Rattle.law_promise.specs.History.{with_event, is_too_long, done_event, fetch_cause, after_step}
use Rattle.law_promise.specs.Along.{stopped_step, Along, BringsOnly, FindsNone}
use Rattle.law_promise.specs.Outline.{Entry, BySelection, ByDelegation, Outline, is_direct, reply_to, public_size, NextShown, RowShown, FetchShown, IsShown}
use Rattle.law_promise.specs.Kept.{KeptIn, SessionIf, SelectedKept, LiveKept, BaseKept, StateKept, LineKept, IsKept}
use Rattle.law_promise.specs.Domain.{Domain, IsSound, AnswerCovered, EndCovered, NextCovered, WriteCovered, AbendCovered, RowCovered, FetchCovered, IdleCovered, CoveredIf, SelectedCovered, LiveCovered, BaseCovered}
use Rattle.law_bytes.specs.law_rows.specs.Keeping.{OnLeave, Leaves, OnDone}
use Rattle.law_bytes.specs.law_rows.proofs.Keeping.{row_leaves}
use Rattle.law_promise.specs.Found.{AlongFound, AlongFrom, BeginsIn, BringsCovered, BringsFrom, FindsCovered, FindsFrom, IsKeptFrom, LineFound, StateFound}
use Rattle.law_promise.proofs.FoundLines.{covered_from}

-- the domain of an outline
abbrev pub domain_of : {E : Type 0} → Outline E → Domain E
domain_of o =
    record {
      watch = o.watch;
      app = o.app;
      anywhere = ⊤;
      of_bytes = ⊥;
      gone = λ h. ⊤;
      idle = o.keeps;
      session = λ h fixed session. o.keeps h fixed × o.holds h fixed session;
      at = λ e h f p. o.at e h f p × o.keeps h f.fixed;
      answers = o.answers;
    }

module _ {E : Type 0} (o : Outline E) (shown : IsShown o) where
  -- ---- ends

  -- an answer after which the session goes on
  session_on : (bytes : List ℕ) (outcome : Outcome) (k : List E) (fixed session : List ℕ) → o.keeps k fixed → o.holds k fixed session
      → o.keeps (with_event (o.watch.of_answer bytes outcome) k) fixed × o.holds (with_event (o.watch.of_answer bytes outcome) k) fixed session
  session_on bytes outcome k fixed session keeps holds = ((shown.answered bytes outcome k fixed).keeps keeps, (shown.answered bytes outcome k fixed).holds session keeps holds)

  -- the end of a frame at a place
  place_ends : (e : Entry E) (h : List E) (f : Frame) (p : List ℕ) (cause : Abend) → o.at e h f p → o.keeps h f.fixed → EndCovered (domain_of o) e h f.fixed (session_of f) (Abended cause)
  place_ends (BySelection bytes apdu before) h f p cause at keeps = session_on bytes (Abended cause) h f.fixed (session_of f) keeps (shown.abends bytes apdu before h f p at keeps)
  place_ends ByDelegation h f p cause at keeps = keeps

  -- an abend of an instruction whose bytes are these after it
  abend_ends : (e : Entry E) (h : List E) (f : Frame) (p : List ℕ) (cause : Abend) → o.at e h f p → o.keeps h f.fixed → EndCovered (domain_of o) e (with_event (o.watch.of_abend f.at cause) h) f.fixed (session_of f) (Abended cause)
  abend_ends (BySelection bytes apdu before) h f p cause at keeps =
      let on = shown.failed f.at cause h f.fixed in
      session_on bytes (Abended cause) (with_event (o.watch.of_abend f.at cause) h) f.fixed (session_of f) (on.keeps keeps) (on.holds (session_of f) keeps (shown.abends bytes apdu before h f p at keeps))
  abend_ends ByDelegation h f p cause at keeps = (shown.failed f.at cause h f.fixed).keeps keeps

  abend_from : (e : Entry E) (h : List E) (f : Frame) (p : List ℕ) (cause : Abend) → o.at e h f p → o.keeps h f.fixed → AbendCovered (domain_of o) e (with_event (o.watch.of_abend f.at cause) h) f cause
  abend_from e h f p cause at keeps =
      record { ends = abend_ends e h f p cause at keeps; stops = λ any. shown.ended (is_direct e) (with_event (o.watch.of_abend f.at cause) h) f.fixed ((shown.failed f.at cause h f.fixed).keeps keeps) }

  -- ---- an instruction that was done

  -- what it leads to: its bytes keep, and the next place, exit or delegation
  LeadsTo : Entry E → List E → Frame → Done → Then → Type 0
  LeadsTo e k f d next = o.keeps k d.effect.frame.fixed × NextCovered (domain_of o) e k f d next

  -- an exit of a command: its reply is too long, or not
  exit_by : (t : Bool) (bytes : List ℕ) (apdu : ApduParts) (before h : List E) (f : Frame) (p : List ℕ) (d : Done) (deed : Deed) (reply : Outcome) → deed.frame ≡ f → d.effect.frame.fixed ≡ f.fixed
      → o.at (BySelection bytes apdu before) h f p → o.keeps h f.fixed
      → o.keeps (with_event (o.watch.of_deed deed) h) d.effect.frame.fixed → o.holds (with_event (o.watch.of_deed deed) h) d.effect.frame.fixed (session_of f)
      → AnswerCovered (domain_of o) bytes apdu before (with_event (o.watch.of_deed deed) h) reply
      → let k = with_event (done_event t o.watch deed) h in
      let outcome = cond t (Abended A09) reply in
      o.keeps k d.effect.frame.fixed
      × EndCovered (domain_of o) (BySelection bytes apdu before) k d.effect.frame.fixed (session_of f) outcome
      × AnswerCovered (domain_of o) bytes apdu before k outcome
  exit_by true bytes apdu before h f p d deed reply its same at keeps kept holds answers =
      let on = shown.failed f.at A09 h f.fixed in
      let k : Frame → List E = λ g. with_event (o.watch.of_abend g.at A09) h in
      let moved : EndCovered (domain_of o) (BySelection bytes apdu before) (k f) d.effect.frame.fixed (session_of f) (Abended A09) =
      subst (λ (z : List ℕ). EndCovered (domain_of o) (BySelection bytes apdu before) (k f) z (session_of f) (Abended A09)) (sym same) (abend_ends (BySelection bytes apdu before) h f p A09 at keeps)
      in (
        subst (λ (g : Frame). o.keeps (k g) d.effect.frame.fixed) (sym its) (subst (o.keeps (k f)) (sym same) (on.keeps keeps)),
        subst (λ (g : Frame). EndCovered (domain_of o) (BySelection bytes apdu before) (k g) d.effect.frame.fixed (session_of f) (Abended A09)) (sym its) moved,
        tt,
      )
  exit_by false bytes apdu before h f p d deed reply its same at keeps kept holds answers =
      (kept, session_on bytes reply (with_event (o.watch.of_deed deed) h) d.effect.frame.fixed (session_of f) kept holds, answers)

  no_segment : public_size ≤ length (zeros 1041)
  no_segment = omega (arith, length-replicate {A = ℕ} 1041 0)

  deed_by : (e : Entry E) (h : List E) (f : Frame) (p : List ℕ) (d : Done) (deed : Deed) (next : Then) → deed.frame ≡ f → o.at e h f p → o.keeps h f.fixed → OnLeave next (d.effect.frame.fixed ≡ f.fixed)
      → o.keeps (with_event (o.watch.of_deed deed) h) d.effect.frame.fixed → NextShown o e (with_event (o.watch.of_deed deed) h) f d next
      → LeadsTo e (with_event (done_event (is_too_long (is_direct e) next d.effect.public) o.watch deed) h) f d next
  unfolding LeadsTo
  deed_by e h f p d deed Goes its at keeps leaves kept x = (kept, (x, kept))
  deed_by (BySelection bytes apdu before) h f p d deed Exits its at keeps same kept x =
      let y = exit_by (nat_lt 1024 (la_of d.effect.public)) bytes apdu before h f p d deed (reply_to apdu d.effect.public) its same at keeps kept x.0 x.1 in
      (y.0, (y.1, y.2, λ any. shown.ended true _ d.effect.frame.fixed y.0))
  deed_by ByDelegation h f p d deed Exits its at keeps same kept x = (kept, kept)
  deed_by e h f p d deed (Delegates n) its at keeps same kept x =
      let k = with_event (o.watch.of_deed deed) h in (
        kept,
        record {
          back = λ p l. (x p l.0, kept);
          abends = λ cause ok. place_ends e k d.effect.frame (zeros 1041) cause (x (zeros 1041) no_segment) kept;
          stops = shown.ended (is_direct e) k d.effect.frame.fixed kept;
        },
      )

  -- a stop in a write leaves what keeps before it or after it
  write_from : (e : Entry E) (h k : List E) (f : Frame) (d : Done) (c : Option (List (ℕ × List ℕ))) → o.keeps h f.fixed → o.keeps k d.effect.frame.fixed → WriteCovered (domain_of o) e h k f d c
  write_from e h k f d None keeps kept = tt
  write_from e h k f d (Some ps) keeps kept = (shown.ended (is_direct e) h f.fixed keeps, shown.ended (is_direct e) k d.effect.frame.fixed kept)

  left_fixed : (f g : Frame) (d : Done) (next : Then) → g.fixed ≡ f.fixed → OnLeave next (Leaves g d.effect) → OnLeave next (d.effect.frame.fixed ≡ f.fixed)
  left_fixed f g d next e x = grind arith

  row_from : (e : Entry E) (h : List E) (f g : Frame) (public : List ℕ) (depth : ℕ) (i : Ins) (r : RowEnd) → g.fixed ≡ f.fixed → o.at e h f public → o.keeps h f.fixed → OnDone r (λ d. OnLeave d.next (Leaves g d.effect)) → RowShown o e h f public depth i r
      → RowCovered (domain_of o) e h f public depth i r
  unfolding LeadsTo
  row_from e h f g public depth i (Abends cause) same at keeps leaves x = abend_from e h f public cause at keeps
  row_from e h f g public depth i (Does d) same at keeps leaves x =
      let deed : Deed = record { frame = f; public = public; direct = is_direct e; depth = depth; ins = i; effect = d.effect } in
      let y = deed_by e h f public d deed d.next refl at keeps (left_fixed f g d d.next same leaves) x.keeps x.next in
      record { write = write_from e h _ f d d.effect.changes keeps y.0; next = y.1 }

  fetch_from : (e : Entry E) (h : List E) (f : Frame) (public : List ℕ) (depth : ℕ) (x : Around) (r : Result (Ins × ℕ) DecodeFault) → o.at e h f public → o.keeps h f.fixed → FetchShown o e h f public depth x r
      → FetchCovered (domain_of o) e h f public depth x r
  fetch_from e h f public depth x (Err fault) at keeps s = abend_from e h f public (fetch_cause fault) at keeps
  fetch_from e h f public depth x (Ok i) at keeps s =
      row_from e h f (frame_at f i.1) public depth i.0 (row i.0 (frame_at f i.1) public x) refl at keeps (row_leaves i.0 (frame_at f i.1) public x) s

  -- ---- the domain is sound

  -- the domain of an outline that is shown is sound
  pub outline_sound : IsSound (domain_of o)
  outline_sound =
      record {
        none = tt;
        created = shown.created;
        deleted = λ h fixed keeps. tt;
        gone_on = λ h gone. tt;
        idle_on = λ h fixed keeps. shown.ended false h fixed keeps;
        selected = λ h fixed keeps. shown.selected false h fixed keeps;
        selected_again = λ h fixed session x. shown.selected true h fixed x.0;
        ended = λ h fixed session x. shown.ended true h fixed x.0;
        begins = λ bytes apdu h fixed session to cmd x size. let y = shown.begins bytes apdu h fixed session x.0 x.1 size in (y.1, y.0);
        entered = λ h fixed public keeps size. (shown.entered h fixed public keeps size.0, keeps);
        turn = λ e h f public depth x at fits deep names size. fetch_from e h f public depth x (instruction_at o.app.code f.at) at.0 at.1 (shown.turn e h f public depth x at.0 at.1 fits size.0);
        spent = λ e h f public at. place_ends e h f public _ at.0 at.1;
        place_stops = λ any e h f public at. shown.ended (is_direct e) h f.fixed at.1;
        gone_stops = λ any was h gone. tt;
        idle_stops = λ any was h fixed keeps. shown.ended was h fixed keeps;
        session_stops = λ any was h fixed session x. shown.ended was h fixed x.0;
      }

  -- ---- along a play

  idle_from : (h : List E) (found : Option App) → IdleCovered (domain_of o) h found → KeptIn o h found
  idle_from h None x = tt
  idle_from h (Some a) x = x

  if_from : (b : Bool) (h : List E) (found : Option App) (session : List ℕ) → CoveredIf b (domain_of o) h found session → KeptIn o h found × SessionIf b o h found session
  if_from b h found session x = grind (arith, idle_from)

  selected_from : (h : List E) (m : List (List ℕ × App)) (s : Option Selected) → SelectedCovered (domain_of o) h (lookup m o.watch.name) s → KeptIn o h (lookup m o.watch.name) × SelectedKept o h m s
  selected_from h m None x = (idle_from h (lookup m o.watch.name) x, tt)
  selected_from h m (Some s) x = if_from (bytes_eq s.name o.watch.name) h (lookup m o.watch.name) s.session x

  live_from : (h : List E) (m : List (List ℕ × App)) (v : Live) → LiveCovered (domain_of o) h (lookup m o.watch.name) v → KeptIn o h (lookup m o.watch.name) × LiveKept o h m v
  live_from h m v x = grind (arith, selected_from, idle_from)

  base_from : (h : List E) (b : Base) (v : Live) → BaseCovered (domain_of o) h b v → BaseKept o h b v
  base_from h (OnCard c) v x = live_from h c.apps v x
  base_from h (AtFault cause p) v x = tt

  -- ---- from what the first card holds

  idle_to : (h : List E) (found : Option App) → BeginsIn o.app o.keeps h found → IdleCovered (domain_of o) h found
  idle_to h None x = tt
  idle_to h (Some a) x = x

  finds_to : (h : List E) (z : State) (l : DeckLine) (after : State) → FindsFrom o.watch o.app o.keeps h z l after → FindsCovered (domain_of o) h z l after
  finds_to h z l after x = grind (arith, idle_to)

  brings_to : (h : List E) (t : Step) → BringsFrom o.watch o.app o.keeps h t → BringsCovered (domain_of o) h t
  brings_to h t x = record { creates = x.creates; finds = finds_to h t.before t.line t.after x.finds }

  kept_state : (h : List E) (z : State) → StateFound (domain_of o) h z → StateKept o h z
  kept_state h (BeforePower m b a) x = tt
  kept_state h (AfterPower s) x = base_from h s.base s.live x

  kept_line : (h : List E) (t : Step) (k : List E) → LineFound (domain_of o) h t k → LineKept o h t k
  kept_line h t k x = (kept_state k t.after x.0, x.1)

  kept_found : (h : List E) (ts : List Step) → AlongFound (domain_of o) h ts → AlongFrom o.watch o.app o.keeps (LineKept o) h ts
  kept_found h [] x = tt
  kept_found h (t ∷ ts) x = (
    λ brings. let y = x.0 (brings_to h t brings) (inl tt) in (kept_line h t (after_step o.watch t h) y.0, kept_found (after_step o.watch t h) ts y.1),
    λ c brings. kept_line h (stopped_step t c) (after_step o.watch (stopped_step t c) h) (x.1 c (brings_to h (stopped_step t c) brings) (inl tt)),
  )

  -- what an outline says holds along every play, from a history that the first card begins with
  pub kept_from : IsKeptFrom o
  kept_from h ls m ws = kept_found h (plays (start m) ls ws) (covered_from (domain_of o) outline_sound h ls m ws (λ t. absurd t) (λ t. absurd t))

  -- ---- from a card that has none of the name

  finds_none : (h : List E) (z : State) (l : DeckLine) (after : State) → FindsNone o.watch.name z l after → FindsFrom o.watch o.app o.keeps h z l after
  finds_none h z l after x = grind arith

  brings_none : (h : List E) (t : Step) → BringsOnly o.watch.name o.app t → BringsFrom o.watch o.app o.keeps h t
  brings_none h t x = record { creates = x.creates; finds = finds_none h t.before t.line t.after x.finds }

  along_none : (h : List E) (ts : List Step) → AlongFrom o.watch o.app o.keeps (LineKept o) h ts → Along o.watch o.app (LineKept o) h ts
  along_none h [] x = tt
  along_none h (t ∷ ts) x = (
    λ brings. let y = x.0 (brings_none h t brings) in (y.0, along_none (after_step o.watch t h) ts y.1),
    λ c brings. x.1 c (brings_none h (stopped_step t c) brings),
  )

  -- what an outline says holds along every play: the first card begins with no history
  pub kept_along : IsKept o
  kept_along ls m ws = along_none [] (plays (start m) ls ws) (kept_from [] ls m ws)
