-- A command keeps what the domain covers, whatever its route: a run, a selection, or one of the manager.
use Rattle.std.proofs.Common.{◌≡◌, ℕ, ◌≤◌, Bool, true, false, not, List, [], ◌∷◌, length, Option, Some, None, refl, sym, ap, subst, ◌∙◌, arith, inl, inr}
use Rattle.std.specs.Prelude.{⊤, ◌⊎◌, ◌||◌, ◌==◌, bytes_eq, is_some, is_none, unwrap_or}
use Rattle.std.proofs.lemmas.List.{length-append, length-replicate}
use Rattle.model_events.specs.model_device.specs.Bytes.{zeros, lookup}
use Rattle.model_events.specs.model_device.specs.Card.{App, Card}
use Rattle.model_events.specs.model_machine.specs.Apdu.{ApduParts}
use Rattle.model_events.specs.model_machine.specs.Frame.{Frame, new_frame, new_public}
use Rattle.model_events.specs.model_machine.specs.Chain.{Outcome, Reply, Abended, start_app, start, no_app, run}
use Rattle.law_bytes.specs.model_card.specs.Items.{Item, moves, apps_after_items, at_stop, write_items}
use Rattle.law_bytes.specs.model_card.specs.Manager.{Selected, SessionState, Route, WrongLength, WrongClass, ToSelect, ToManager, ToApplication, route, answer_unless, first_status, is_empty, select_done, is_selected}
use Rattle.law_bytes.specs.model_card.specs.Commands.{Command, manager_command, application_command, by_route}
use Rattle.law_bytes.specs.model_play.specs.Play.{Answered}
use Rattle.law_bytes.specs.law_machine.proofs.RunSizes.{RanFits, run_fits}
use Rattle.law_bytes.specs.law_family.proofs.Stops.{whole_others}
use Rattle.law_bytes.specs.law_family.proofs.OtherCommand.{IsManagers, Aside, routed_aside}
use Rattle.law_bytes.specs.OfChains.{AreByteApps, IsByteChain, IsByteCommand}
use Rattle.law_bytes.specs.OfPlays.{IsSelection, IsByteSession}
use Rattle.law_bytes.proofs.ChainBytes.{start_bytes}
use Rattle.law_bytes.proofs.CommandBytes.{IsByteRoute}
use Rattle.law_promise.specs.History.{CutAt, with_event, after_run, selection_event, after_select, command_event, after_passed, after_route, is_own_route, with_answer, after_items}
use Rattle.law_promise.specs.Along.{CreatesOnly, own_parts, parts_for}
use Rattle.law_promise.specs.Outline.{BySelection, public_size}
use Rattle.law_promise.specs.Kept.{IsLike}
use Rattle.law_promise.specs.Domain.{Domain, IsSound, AnswerCovered, first_frame_in, IdleCovered, SessionCovered, CoveredIf, SelectedCovered}
use Rattle.law_promise.proofs.Chains.{Asked, Runs, others_run, own_runs, ThereKept, FoundKept, ChainKept, StopIf, EndKept}
use Rattle.law_promise.proofs.Runs.{RunKept, run_kept, cut_kept}
use Rattle.law_promise.proofs.ItemLists.{AllAvoid, avoid_lookup, avoid_history, whole_avoids, writes_fixed, whole_fixed, fixed_history, items_kept}
use Rattle.law_promise.proofs.SelectedStays.{manager_avoids}
use Rattle.model_events.specs.model_device.proofs.MapLemmas.{same_name}

-- a running card of bytes, and a command of bytes
pub record IsKnown (c : Card) (session_state : SessionState) (r : Route) : Type 0 where
  pub apps : AreByteApps c.apps
  pub session : IsByteSession session_state
  pub route : IsByteRoute r

begun : (c : Card) (s : Selected) (a : ApduParts) → AreByteApps c.apps × IsSelection (Some s) → IsByteCommand a → IsByteChain (start c.apps s.name s.session a)
begun c s a known cmd = start_bytes c.apps s.name s.session a known.0 known.1.0 known.1.1 cmd

-- the public segment of a command is whole
begun_whole : (a : ApduParts) → public_size ≤ length (new_public a)
begun_whole a = grind (arith, length-append, length-replicate)

-- what is said of the outcome of a command that reaches the application as the selected one
abbrev pub OnParts : {E : Type 0} → Domain E → Option ApduParts → List E → List E → Outcome → Type 0
OnParts o None before after outcome = ⊤
OnParts o (Some a) before after (Reply body sw) = o.answers a before after sw
OnParts o (Some a) before after (Abended cause) = ⊤

-- a stop comes at one of the device writes of some items, or may be anywhere
abbrev pub HitsItems : Type 0 → List Item → CutAt → Type 0
HitsItems anywhere is c = anywhere ⊎ ((1 ≤ c.at) × (c.at ≤ moves is))

-- the command of a chain that begins with this history
abbrev asked : {E : Type 0} → List ℕ → ApduParts → List E → Asked E
asked bytes apdu h = record { bytes = bytes; apdu = apdu; before = h }

-- the number of session bytes, if they are the application's
abbrev HasSession : {E : Type 0} → Bool → Domain E → List ℕ → Type 0
HasSession true o session = length session ≡ o.app.session
HasSession false o session = ⊤

-- what a command that no stop hits leaves, with the history after its answer
pub record CommandKept {E : Type 0} (o : Domain E) (h : List E) (c : Card) (session_state : SessionState) (rt : Route) (r : Command) (k : List E) : Type 0 where
  pub selected : SelectedCovered o k (lookup (apps_after_items c.apps r.items) o.watch.name) r.session_state.selected
  pub answer : OnParts o (parts_for o.watch.name session_state.selected rt) h k r.outcome

module _ {E : Type 0} (o : Domain E) (shown : IsSound o) where
  -- ---- a run begins

  start_is : (m : List (List ℕ × App)) (n session : List ℕ) (a : App) (apdu : ApduParts) → lookup m n ≡ Some a → start_app m n session apdu a ≡ start m n session apdu
  start_is m n session a apdu is = ap (λ (z : Option App). start_app m n session apdu (unwrap_or z no_app)) (sym is)

  own_frame : (n fixed session : List ℕ) (a : App) → IsLike o.app a → n ≡ o.watch.name → first_frame_in o fixed session ≡ new_frame n (length a.code) a.deny fixed session
  own_frame n fixed session a like same = grind arith

  own_start : (h : List E) (m : List (List ℕ × App)) (n session bytes : List ℕ) (apdu : ApduParts) (found : Option App) → route bytes ≡ ToApplication apdu → (o.of_bytes → IsByteCommand apdu) → (o.of_bytes → IsByteChain (start m n session apdu)) → lookup m o.watch.name ≡ found → bytes_eq n o.watch.name ≡ true → SessionCovered o h found session
      → ChainKept o (asked bytes apdu h) (with_event (o.watch.of_command bytes apdu) h) (start m n session apdu)
  own_start h m n session bytes apdu None to cmd chain is e holds = absurd holds
  own_start h m n session bytes apdu (Some a) to cmd chain is e holds =
      let same : n ≡ o.watch.name = same_name n o.watch.name e in
      let there : lookup m n ≡ Some a = subst (λ (z : List ℕ). lookup m z ≡ Some a) (sym same) is in
      let q : Asked E = asked bytes apdu h in
      let f = new_frame n (length a.code) a.deny a.fixed session in
      let p = new_public apdu in
      let k : List E = with_event (o.watch.of_command bytes apdu) h in
      let begun = shown.begins bytes apdu h a.fixed session to cmd holds.1 holds.2 in
      let r : Runs o q k a.fixed f [] p = record { same = refl; at = subst (λ (z : Frame). o.at (BySelection bytes apdu h) k z p) (own_frame n a.fixed session a holds.0 same) begun; none = tt } in
      let t : ThereKept o q k a f [] p = record { like = holds.0; stack = own_runs o q k a.fixed f [] p e r } in
      subst (ChainKept o q k) (start_is m n session a apdu there)
      (record { kept = subst (λ (z : Option App). FoundKept o q k z f [] p) (sym is) t; command = refl; whole = begun_whole apdu; shallow = omega arith; bytes = λ t. subst IsByteChain (sym (start_is m n session a apdu there)) (chain t) })

  other_found : (h : List E) (q : Asked E) (found : Option App) (f : Frame) (p : List ℕ) → bytes_eq f.name o.watch.name ≡ false → IdleCovered o h found → FoundKept o q h found f [] p
  other_found h q None f p e kept = ((e, tt), kept)
  other_found h q (Some a) f p e kept = record { like = kept.0; stack = others_run o q h a.fixed f [] p e kept.1 }

  start_kept : (b : Bool) (h : List E) (m : List (List ℕ × App)) (n session bytes : List ℕ) (apdu : ApduParts) → route bytes ≡ ToApplication apdu → (o.of_bytes → IsByteCommand apdu) → (o.of_bytes → IsByteChain (start m n session apdu)) → bytes_eq n o.watch.name ≡ b → CoveredIf b o h (lookup m o.watch.name) session
      → ChainKept o (asked bytes apdu h) (with_event (command_event o.watch b bytes apdu) h) (start m n session apdu)
  start_kept true h m n session bytes apdu to cmd chain e holds = own_start h m n session bytes apdu (lookup m o.watch.name) to cmd chain refl e holds
  start_kept false h m n session bytes apdu to cmd chain e holds =
      record { kept = other_found h (asked bytes apdu h) (lookup m o.watch.name) (start m n session apdu).frame (new_public apdu) e holds; command = refl; whole = begun_whole apdu; shallow = omega arith; bytes = chain }

  -- ---- a run that is passed

  many : (b : Bool) (h : List E) (found : Option App) (session last : List ℕ) → length last ≡ length session → CoveredIf b o h found session → HasSession b o last
  many false h found session last e x = tt
  many true h None session last e x = absurd x
  many true h (Some a) session last e x = e ∙ x.2

  ended_session : (b : Bool) (q : Asked E) (k : List E) (new : Option App) (last : List ℕ) (outcome : Outcome) → HasSession b o last → EndKept b o q k new last outcome
      → CoveredIf b o (with_answer o.watch b q.bytes (Some (Answered outcome)) k) new last
  ended_session false q k None last outcome m x = x.1
  ended_session true q k None last outcome m x = absurd (cc x.0)
  ended_session false q k (Some a) last outcome m x = (x.like, x.ended)
  ended_session true q k (Some a) last outcome m x = (x.like, x.ended, m)

  replied : (q : Asked E) (k : List E) (outcome : Outcome) → AnswerCovered o q.bytes q.apdu q.before k outcome → OnParts o (Some q.apdu) q.before (with_event (o.watch.of_answer q.bytes outcome) k) outcome
  replied q k (Reply body sw) x = x
  replied q k (Abended cause) x = tt

  ended_answer : (b : Bool) (q : Asked E) (k : List E) (new : Option App) (last : List ℕ) (outcome : Outcome) → EndKept b o q k new last outcome
      → OnParts o (own_parts b q.apdu) q.before (with_answer o.watch b q.bytes (Some (Answered outcome)) k) outcome
  ended_answer false q k new last outcome x = tt
  ended_answer true q k None last outcome x = absurd (cc x.0)
  ended_answer true q k (Some a) last outcome x = replied q k outcome x.answer

  passed_by : (h : List E) (c : Card) (s : Selected) (bytes : List ℕ) (a : ApduParts) (budget : ℕ) (b : Bool) → route bytes ≡ ToApplication a → (o.of_bytes → IsByteCommand a) → (o.of_bytes → IsByteChain (start c.apps s.name s.session a)) → bytes_eq s.name o.watch.name ≡ b → CoveredIf b o h (lookup c.apps o.watch.name) s.session
      → let r = run c.apps s.name s.session a budget in
      let k = with_answer o.watch b bytes (Some (Answered r.outcome)) (after_run o.watch budget (start c.apps s.name s.session a) None (with_event (command_event o.watch b bytes a) h)) in
      CoveredIf b o k (lookup (apps_after_items c.apps (write_items r.writes)) o.watch.name) r.session × OnParts o (own_parts b a) h k r.outcome
  passed_by h c s bytes a budget b to cmd chain e holds =
      let r = run c.apps s.name s.session a budget in
      let q : Asked E = asked bytes a h in
      let k = after_run o.watch budget (start c.apps s.name s.session a) None (with_event (command_event o.watch b bytes a) h) in
      let d : RunKept b o q c.apps r k = run_kept o shown q b budget (with_event (command_event o.watch b bytes a) h) (start c.apps s.name s.session a) e (start_kept b h c.apps s.name s.session bytes a to cmd chain e holds) in
      let fits : RanFits c.apps (length s.session) r = run_fits c.apps s.name s.session a budget in
      let found = lookup (apps_after_items c.apps (write_items r.writes)) o.watch.name in
      (ended_session b q k found r.session r.outcome (many b h (lookup c.apps o.watch.name) s.session r.session fits.session holds) d.ended, ended_answer b q k found r.session r.outcome d.ended)

  passed_kept : (h : List E) (c : Card) (session_state : SessionState) (found : Option Selected) (bytes : List ℕ) (a : ApduParts) (budget : ℕ) → route bytes ≡ ToApplication a → (o.of_bytes → IsByteCommand a) → (o.of_bytes → AreByteApps c.apps × IsSelection found) → session_state.selected ≡ found → SelectedCovered o h (lookup c.apps o.watch.name) found
      → let r = application_command c session_state found a budget in
      CommandKept o h c session_state (ToApplication a) r (with_answer o.watch (is_selected found o.watch.name) bytes (Some (Answered r.outcome)) (after_passed o.watch c found bytes a budget None (after_items o.watch.name r.items h)))
  passed_kept h c session_state None bytes a budget to cmd known is holds =
      record {
        selected = subst (SelectedCovered o h (lookup c.apps o.watch.name)) (sym is) holds;
        answer = subst (λ (z : Option Selected). OnParts o (parts_for o.watch.name z (ToApplication a)) h h (Reply [] 0x6985)) (sym is) tt;
      }
  passed_kept h c session_state (Some s) bytes a budget to cmd known is holds =
      let r = run c.apps s.name s.session a budget in
      let b = bytes_eq s.name o.watch.name in
      let go : List E → List E = λ p. with_answer o.watch b bytes (Some (Answered r.outcome)) (after_run o.watch budget (start c.apps s.name s.session a) None (with_event (command_event o.watch b bytes a) p)) in
      let same : h ≡ after_items o.watch.name (write_items r.writes) h = sym (fixed_history o.watch.name (write_items r.writes) h (writes_fixed r.writes)) in
      let p = passed_by h c s bytes a budget b to cmd (λ t. begun c s a (known t) (cmd t)) refl holds in
      subst (λ (p : List E). CommandKept o h c session_state (ToApplication a) (application_command c session_state (Some s) a budget) (go p)) same
      (record { selected = p.0; answer = subst (λ (z : Option Selected). OnParts o (parts_for o.watch.name z (ToApplication a)) h (go h) r.outcome) (sym is) p.1 })

  -- ---- the end of a session

  -- the end of a command to another application leaves an idle application covered
  pub idle_end : (h : List E) (found : Option App) → IdleCovered o h found → IdleCovered o (with_event (o.watch.of_end false) h) found
  idle_end h None kept = shown.gone_on h kept
  idle_end h (Some a) kept = (kept.0, shown.idle_on h a.fixed kept.1)

  if_end : (b : Bool) (h : List E) (found : Option App) (session : List ℕ) → CoveredIf b o h found session → IdleCovered o (with_event (o.watch.of_end b) h) found
  if_end false h found session kept = idle_end h found kept
  if_end true h None session kept = absurd kept
  if_end true h (Some a) session kept = (kept.0, shown.ended h a.fixed session kept.1)

  -- power is lost
  pub selected_end : (h : List E) (found : Option App) (s : Option Selected) → SelectedCovered o h found s → IdleCovered o (with_event (o.watch.of_end (is_selected s o.watch.name)) h) found
  selected_end h found None kept = idle_end h found kept
  selected_end h found (Some s) kept = if_end (bytes_eq s.name o.watch.name) h found s.session kept

  -- a run up to a stop
  passed_cut : (h : List E) (c : Card) (session_state : SessionState) (found : Option Selected) (bytes : List ℕ) (a : ApduParts) (budget : ℕ) (cut : CutAt) → route bytes ≡ ToApplication a → (o.of_bytes → IsByteCommand a) → (o.of_bytes → AreByteApps c.apps × IsSelection found) → SelectedCovered o h (lookup c.apps o.watch.name) found
      → HitsItems o.anywhere (application_command c session_state found a budget).items cut
      → let whole = (at_stop (application_command c session_state found a budget).items cut.at cut.left).whole in
      IdleCovered o (with_event (o.watch.of_end (is_selected found o.watch.name)) (after_passed o.watch c found bytes a budget (Some cut) (after_items o.watch.name whole h))) (lookup (apps_after_items c.apps whole) o.watch.name)
  passed_cut h c session_state None bytes a budget cut to cmd known holds hits = idle_end h (lookup c.apps o.watch.name) holds
  passed_cut h c session_state (Some s) bytes a budget cut to cmd known holds hits =
      let r = run c.apps s.name s.session a budget in
      let whole = (at_stop (write_items r.writes) cut.at cut.left).whole in
      let b = bytes_eq s.name o.watch.name in
      let same : h ≡ after_items o.watch.name whole h = sym (fixed_history o.watch.name whole h (whole_fixed (write_items r.writes) cut.at cut.left (writes_fixed r.writes))) in
      subst (λ (p : List E). StopIf b o (after_run o.watch budget (start c.apps s.name s.session a) (Some cut) (with_event (command_event o.watch b bytes a) p)) (lookup (apps_after_items c.apps whole) o.watch.name)) same
      (cut_kept o shown (asked bytes a h) b budget (with_event (command_event o.watch b bytes a) h) (start c.apps s.name s.session a) cut hits refl (start_kept b h c.apps s.name s.session bytes a to cmd (λ t. begun c s a (known t) (cmd t)) refl holds))

  -- ---- a selection

  chosen_if : (b : Bool) (h : List E) (a : App) (session : List ℕ) → CoveredIf b o h (Some a) session → SessionCovered o (with_event (o.watch.of_selection b) h) (Some a) (zeros a.session)
  chosen_if b h a session kept = by b kept
    where
      size : IsLike o.app a → length (zeros a.session) ≡ o.app.session
      size like = length-replicate {A = ℕ} a.session 0 ∙ like.session

      by : (b : Bool) → CoveredIf b o h (Some a) session → SessionCovered o (with_event (o.watch.of_selection b) h) (Some a) (zeros a.session)
      by false kept = (kept.0, subst (λ (z : ℕ). o.session (with_event (o.watch.of_selection false) h) a.fixed (zeros z)) (sym kept.0.session) (shown.selected h a.fixed kept.1), size kept.0)
      by true kept = (kept.0, subst (λ (z : ℕ). o.session (with_event (o.watch.of_selection true) h) a.fixed (zeros z)) (sym kept.0.session) (shown.selected_again h a.fixed session kept.1), size kept.0)

  -- the application is selected
  chosen : (h : List E) (a : App) (s : Option Selected) → SelectedCovered o h (Some a) s → SessionCovered o (with_event (o.watch.of_selection (is_selected s o.watch.name)) h) (Some a) (zeros a.session)
  chosen h a None kept = chosen_if false h a [] kept
  chosen h a (Some s) kept = chosen_if (bytes_eq s.name o.watch.name) h a s.session kept

  -- it is, or another
  selection_kept : (b : Bool) (h : List E) (m : List (List ℕ × App)) (n : List ℕ) (a : App) (s : Option Selected) → bytes_eq n o.watch.name ≡ b → lookup m n ≡ Some a → SelectedCovered o h (lookup m o.watch.name) s
      → CoveredIf b o (with_event (selection_event o.watch b (is_selected s o.watch.name)) h) (lookup m o.watch.name) (zeros a.session)
  selection_kept false h m n a s e is kept = selected_end h (lookup m o.watch.name) s kept
  selection_kept true h m n a s e is kept =
      let there : lookup m o.watch.name ≡ Some a = subst (λ (z : List ℕ). lookup m z ≡ Some a) (same_name n o.watch.name e) is in
      let k = with_event (o.watch.of_selection (is_selected s o.watch.name)) h in
      subst (λ (z : Option App). SessionCovered o k z (zeros a.session)) (sym there) (chosen h a s (subst (λ (z : Option App). SelectedCovered o h z s) there kept))

  select_by : (h : List E) (c : Card) (session_state : SessionState) (a : ApduParts) (x y : Bool) (found : Option App) → lookup c.apps a.body ≡ found → SelectedCovered o h (lookup c.apps o.watch.name) session_state.selected
      → let d = answer_unless (first_status ((0x6A86, x) ∷ (0x6700, y) ∷ (0x6A82, is_none found) ∷ [])) (select_done session_state a found) in
      let r = manager_command c session_state d in
      SelectedCovered o (after_select o.watch session_state.selected a.body d (after_items o.watch.name r.items h)) (lookup (apps_after_items c.apps r.items) o.watch.name) r.session_state.selected
  select_by h c session_state a true y found is holds = holds
  select_by h c session_state a false true found is holds = holds
  select_by h c session_state a false false None is holds = holds
  select_by h c session_state a false false (Some b) is holds = selection_kept (bytes_eq a.body o.watch.name) h c.apps a.body b session_state.selected refl is holds

  stops_anywhere : (b was : Bool) (h : List E) (found : Option App) (session : List ℕ) → o.anywhere → CoveredIf b o h found session → IdleCovered o (with_event (o.watch.of_end was) h) found
  stops_anywhere false was h None session any kept = shown.gone_stops any was h kept
  stops_anywhere false was h (Some a) session any kept = (kept.0, shown.idle_stops any was h a.fixed kept.1)
  stops_anywhere true was h None session any kept = absurd kept
  stops_anywhere true was h (Some a) session any kept = (kept.0, shown.session_stops any was h a.fixed session kept.1)

  -- a stop in a command that makes no write
  select_cut : (h : List E) (c : Card) (session_state : SessionState) (a : ApduParts) (x y : Bool) (found : Option App) → lookup c.apps a.body ≡ found → SelectedCovered o h (lookup c.apps o.watch.name) session_state.selected
      → (cut : CutAt) → let d = answer_unless (first_status ((0x6A86, x) ∷ (0x6700, y) ∷ (0x6A82, is_none found) ∷ [])) (select_done session_state a found) in
      HitsItems o.anywhere (manager_command c session_state d).items cut
      → let whole = (at_stop (manager_command c session_state d).items cut.at cut.left).whole in
      IdleCovered o (with_event (o.watch.of_end (is_selected session_state.selected o.watch.name)) (after_select o.watch session_state.selected a.body d (after_items o.watch.name whole h))) (lookup (apps_after_items c.apps whole) o.watch.name)
  select_cut h c session_state a true y found is holds cut hits = selected_end h (lookup c.apps o.watch.name) session_state.selected holds
  select_cut h c session_state a false true found is holds cut hits = selected_end h (lookup c.apps o.watch.name) session_state.selected holds
  select_cut h c session_state a false false None is holds cut hits = selected_end h (lookup c.apps o.watch.name) session_state.selected holds
  select_cut h c session_state a false false (Some b) is holds cut (inl any) =
      let own = bytes_eq a.body o.watch.name in
      let was = is_selected session_state.selected o.watch.name in
      stops_anywhere own was (with_event (selection_event o.watch own was) h) (lookup c.apps o.watch.name) (zeros b.session) any (selection_kept own h c.apps a.body b session_state.selected refl is holds)
  select_cut h c session_state a false false (Some b) is holds cut (inr p) = let low = p.0 in let high = p.1 in absurd (omega (arith, low, high))

  no_parts : (r : Route) (found : Option Selected) (h k : List E) (outcome : Outcome) → ((a : ApduParts) → r ≡ ToApplication a → ⊥) → OnParts o (parts_for o.watch.name found r) h k outcome
  no_parts r None h k outcome n = tt
  no_parts WrongLength (Some s) h k outcome n = tt
  no_parts WrongClass (Some s) h k outcome n = tt
  no_parts (ToSelect a) (Some s) h k outcome n = tt
  no_parts (ToManager a) (Some s) h k outcome n = tt
  no_parts (ToApplication a) (Some s) h k outcome n = absurd (n a refl)

  -- ---- the manager

  -- items that do not touch it, in a session
  avoided : (is : List Item) (h : List E) (m : List (List ℕ × App)) (session : List ℕ) → AllAvoid o.watch.name is → SessionCovered o h (lookup m o.watch.name) session
      → SessionCovered o (after_items o.watch.name is h) (lookup (apps_after_items m is) o.watch.name) session
  avoided is h m session a x =
      subst (λ (p : List E). SessionCovered o p (lookup (apps_after_items m is) o.watch.name) session) (sym (avoid_history o.watch.name is h a))
      (subst (λ (z : Option App). SessionCovered o h z session) (sym (avoid_lookup o.watch.name is m a)) x)

  -- an application in a session is on the card
  pub is_there : (h : List E) (found : Option App) (session : List ℕ) → SessionCovered o h found session → is_some found ≡ true
  is_there h None session x = absurd x
  is_there h (Some a) session x = refl

  -- items of the manager's that another stop left whole, or all
  pub managed : (is : List Item) (h : List E) (m : List (List ℕ × App)) (found : Option Selected) → SelectedCovered o h (lookup m o.watch.name) found → (is_some (lookup m o.watch.name) ≡ true → is_selected found o.watch.name ≡ true → AllAvoid o.watch.name is)
      → (IdleCovered o h (lookup m o.watch.name) → IdleCovered o (after_items o.watch.name is h) (lookup (apps_after_items m is) o.watch.name))
      → SelectedCovered o (after_items o.watch.name is h) (lookup (apps_after_items m is) o.watch.name) found
  managed is h m None holds avoids idle = idle holds
  managed is h m (Some s) holds avoids idle = by (bytes_eq s.name o.watch.name) refl holds
    where
      by : (b : Bool) → bytes_eq s.name o.watch.name ≡ b → CoveredIf b o h (lookup m o.watch.name) s.session → CoveredIf b o (after_items o.watch.name is h) (lookup (apps_after_items m is) o.watch.name) s.session
      by false e x = idle x
      by true e x = avoided is h m s.session (avoids (is_there h (lookup m o.watch.name) s.session x) e) x

  manager_kept : (h : List E) (c : Card) (session_state : SessionState) (budget : ℕ) (r : Route) → IsManagers r → CreatesOnly o.watch.name o.app (by_route c session_state budget r).items → SelectedCovered o h (lookup c.apps o.watch.name) session_state.selected
      → SelectedCovered o (after_items o.watch.name (by_route c session_state budget r).items h) (lookup (apps_after_items c.apps (by_route c session_state budget r).items) o.watch.name) (by_route c session_state budget r).session_state.selected
  manager_kept h c session_state budget r m only holds =
      let items = (by_route c session_state budget r).items in
      let aside : Aside (o.watch.name ∷ []) session_state (by_route c session_state budget r) = routed_aside (o.watch.name ∷ []) c session_state budget r m in
      subst (SelectedCovered o (after_items o.watch.name items h) (lookup (apps_after_items c.apps items) o.watch.name)) (sym aside.selected)
      (managed items h c.apps session_state.selected holds (λ there selected. manager_avoids c session_state o.watch.name there selected budget r m) (λ idle. items_kept o shown items h c.apps aside.others only idle))

  manager_cut : (h : List E) (c : Card) (session_state : SessionState) (budget : ℕ) (r : Route) (cut : CutAt) → IsManagers r
      → let whole = (at_stop (by_route c session_state budget r).items cut.at cut.left).whole in
      CreatesOnly o.watch.name o.app whole → SelectedCovered o h (lookup c.apps o.watch.name) session_state.selected
      → IdleCovered o (with_event (o.watch.of_end (is_selected session_state.selected o.watch.name)) (after_items o.watch.name whole h)) (lookup (apps_after_items c.apps whole) o.watch.name)
  manager_cut h c session_state budget r cut m only holds =
      let items = (by_route c session_state budget r).items in
      let whole = (at_stop items cut.at cut.left).whole in
      let aside : Aside (o.watch.name ∷ []) session_state (by_route c session_state budget r) = routed_aside (o.watch.name ∷ []) c session_state budget r m in
      selected_end (after_items o.watch.name whole h) (lookup (apps_after_items c.apps whole) o.watch.name) session_state.selected
      (managed whole h c.apps session_state.selected holds (λ there selected. whole_avoids o.watch.name items cut.at cut.left (manager_avoids c session_state o.watch.name there selected budget r m))
      (λ idle. items_kept o shown whole h c.apps (whole_others (o.watch.name ∷ []) items cut.at cut.left aside.others) only idle))

  -- ---- a command by its route

  -- a command that no stop hits keeps what the domain covers, by its route
  pub route_kept : (h : List E) (c : Card) (session_state : SessionState) (bytes : List ℕ) (budget : ℕ) (r : Route) → route bytes ≡ r → (o.of_bytes → IsKnown c session_state r) → CreatesOnly o.watch.name o.app (by_route c session_state budget r).items → SelectedCovered o h (lookup c.apps o.watch.name) session_state.selected
      → CommandKept o h c session_state r (by_route c session_state budget r)
      (with_answer o.watch (is_own_route o.watch.name session_state.selected r) bytes (Some (Answered (by_route c session_state budget r).outcome)) (after_route o.watch c session_state bytes budget r None (after_items o.watch.name (by_route c session_state budget r).items h)))
  route_kept h c session_state bytes budget WrongLength to known only holds = record { selected = holds; answer = no_parts WrongLength session_state.selected h h _ (λ a e. cc e) }
  route_kept h c session_state bytes budget WrongClass to known only holds = record { selected = holds; answer = no_parts WrongClass session_state.selected h h _ (λ a e. cc e) }
  route_kept h c session_state bytes budget (ToSelect a) to known only holds =
      record { selected = select_by h c session_state a (not (a.p2 == 0 || a.p2 == 0x0C)) (is_empty a.body) (lookup c.apps a.body) refl holds; answer = no_parts (ToSelect a) session_state.selected h _ _ (λ a e. cc e) }
  route_kept h c session_state bytes budget (ToManager a) to known only holds =
      record { selected = manager_kept h c session_state budget (ToManager a) tt only holds; answer = no_parts (ToManager a) session_state.selected h _ _ (λ a e. cc e) }
  route_kept h c session_state bytes budget (ToApplication a) to known only holds = passed_kept h c session_state session_state.selected bytes a budget to (λ t. (known t).route) (λ t. ((known t).apps, (known t).session.selected)) refl holds

  -- a command that a stop hits leaves the application idle, by its route
  pub route_cut : (h : List E) (c : Card) (session_state : SessionState) (bytes : List ℕ) (budget : ℕ) (r : Route) (cut : CutAt) → route bytes ≡ r → (o.of_bytes → IsKnown c session_state r)
      → let whole = (at_stop (by_route c session_state budget r).items cut.at cut.left).whole in
      HitsItems o.anywhere (by_route c session_state budget r).items cut → CreatesOnly o.watch.name o.app whole → SelectedCovered o h (lookup c.apps o.watch.name) session_state.selected
      → IdleCovered o (with_event (o.watch.of_end (is_selected session_state.selected o.watch.name)) (after_route o.watch c session_state bytes budget r (Some cut) (after_items o.watch.name whole h))) (lookup (apps_after_items c.apps whole) o.watch.name)
  route_cut h c session_state bytes budget WrongLength cut to known hits only holds = selected_end h (lookup c.apps o.watch.name) session_state.selected holds
  route_cut h c session_state bytes budget WrongClass cut to known hits only holds = selected_end h (lookup c.apps o.watch.name) session_state.selected holds
  route_cut h c session_state bytes budget (ToSelect a) cut to known hits only holds = select_cut h c session_state a (not (a.p2 == 0 || a.p2 == 0x0C)) (is_empty a.body) (lookup c.apps a.body) refl holds cut hits
  route_cut h c session_state bytes budget (ToManager a) cut to known hits only holds = manager_cut h c session_state budget (ToManager a) cut tt only holds
  route_cut h c session_state bytes budget (ToApplication a) cut to known hits only holds = passed_cut h c session_state session_state.selected bytes a budget cut to (λ t. (known t).route) (λ t. ((known t).apps, (known t).session.selected)) holds hits
