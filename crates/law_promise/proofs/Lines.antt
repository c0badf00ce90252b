-- A line of a play keeps what the domain covers, and so does every play.
use Rattle.std.proofs.Common.{◌≡◌, ℕ, Bool, true, false, cond, List, [], ◌∷◌, drop, Option, Some, None, refl, sym, subst, arith}
use Rattle.std.specs.Prelude.{◌⊎◌, nat_le, length}
use Rattle.model_events.specs.model_device.specs.declared.device.Stop.{Stop}
use Rattle.model_events.specs.model_device.specs.declared.device.Stop.TheVariants as stop
use Rattle.model_events.specs.model_device.specs.Bytes.{lookup}
use Rattle.model_events.specs.model_device.specs.Image.{Journal, One}
use Rattle.model_events.specs.model_device.specs.Card.{App, Card}
use Rattle.model_events.specs.model_device.specs.PowerUp.{Base, OnCard, AtFault, base_after_migration}
use Rattle.model_events.specs.model_machine.specs.Apdu.{ApduParts}
use Rattle.model_events.specs.model_machine.specs.Chain.{Outcome}
use Rattle.law_bytes.specs.model_card.specs.Items.{apps_after_items, moves, StopAt, at_stop}
use Rattle.law_bytes.specs.model_card.specs.Manager.{SessionState, route, is_selected}
use Rattle.law_bytes.specs.model_card.specs.Commands.{Command, command}
use Rattle.law_bytes.specs.model_play.specs.DeckGrammar.{DeckLine, DeckCommand}
use Rattle.law_bytes.specs.model_play.specs.DeckGrammar as line
use Rattle.law_bytes.specs.model_play.specs.Given.{apps_in}
use Rattle.law_bytes.specs.model_play.specs.Play.{Armed, Unarmed, Live, Running, Unpowered, Muted, Warm, State, BeforePower, AfterPower, Answered, FailedWrite, Step, select_bytes, delete_bytes, load_commands, send, hit_of, live_after, result_of_stop, power_live, power_moves, stopped_power, power_after, command_step, line_says, whole_items, card_line, after_power_step, before_power_step, play_at_power, step, plays, first_failure, start, without_card}
use Rattle.law_bytes.specs.law_family.proofs.Stops.{whole_others}
use Rattle.law_bytes.specs.law_family.proofs.OtherCommand.{AreManagers, Aside, send_aside}
use Rattle.law_bytes.specs.law_family.proofs.LoadCommands.{load_managers}
use Rattle.std.specs.List.{AllByRecursion}
use Rattle.law_bytes.specs.model_play.specs.ReadyAgain.{IsLine}
use Rattle.law_bytes.specs.OfPlays.{IsByteBase, IsByteState}
use Rattle.law_bytes.proofs.CommandBytes.{route_bytes, managers_bytes, selects_bytes}
use Rattle.law_bytes.proofs.PlayBytes.{step_bytes}
use Rattle.model_events.specs.Deeds.{Watch}
use Rattle.law_promise.specs.History.{CutAt, cut_of, with_event, after_route, is_own_route, with_answer, after_items, after_stop, is_selected_on, after_step}
use Rattle.law_promise.specs.Along.{CreatesOnly, BringsOnly, stopped_step, parts_for, command_for, OnAnswer}
use Rattle.law_promise.specs.Domain.{Domain, IsSound, IdleCovered, SelectedCovered, LiveCovered, BaseCovered, StateCovered, LineCovered, StopsInWrite, StopsAtWrite, AlongWrites, IsCovered}
use Rattle.law_promise.proofs.ItemLists.{whole_avoids, items_kept}
use Rattle.law_promise.proofs.SelectedStays.{send_avoids}
use Rattle.law_promise.proofs.Commands.{IsKnown, OnParts, CommandKept, idle_end, selected_end, managed, route_kept, route_cut}
use Rattle.law_bytes.specs.model_play.proofs.LineKinds.{past_power}
use Rattle.law_bytes.specs.model_play.proofs.PlayLemmas.{step_is}

-- the parts of a command, where its answer is looked at
abbrev parts_if : Bool → Option ApduParts → Option ApduParts
parts_if true found = found
parts_if false found = None

-- ---- a line knows the state before it, its number and its statement

-- the line as it is stopped elsewhere
pub stopped_is : (z : State) (l : ℕ × DeckLine) (w : Option FailedWrite) (c : FailedWrite) → step z l (Some c) ≡ stopped_step (step z l w) c
stopped_is z l w c = grind (arith, step_is)

-- a command that a stop hits is not answered
not_answered : {E : Type 0} (w : Watch E) (own : Bool) (bytes : List ℕ) (t : StopAt) (kind : Stop) (h : List E) → with_answer w own bytes (Some (result_of_stop t kind)) h ≡ h
not_answered w own bytes t kind h = grind arith

module _ {E : Type 0} (o : Domain E) (shown : IsSound o) where
  -- ---- answers

  looked_at : (b : Bool) (found : Option ApduParts) (h k : List E) (outcome : Outcome) → OnParts o found h k outcome → OnParts o (parts_if b found) h k outcome
  looked_at true found h k outcome x = x
  looked_at false found h k outcome x = tt

  -- an answer from the outcome
  answered : (found : Option ApduParts) (h k : List E) (outcome : Outcome) → OnParts o found h k outcome → OnAnswer (λ a sw. o.answers a h k sw) found (Some (Answered outcome))
  answered found h k outcome x = grind arith

  -- a stop answers no command
  stopped_answer : (found : Option ApduParts) (h k : List E) (t : StopAt) (kind : Stop) → OnAnswer (λ a sw. o.answers a h k sw) found (Some (result_of_stop t kind))
  stopped_answer found h k t kind = grind arith

  -- ---- power lines

  dead : (h : List E) (found : Option App) (kind : Stop) → IdleCovered o h found → LiveCovered o h found (live_after kind)
  dead h found stop.Off x = x
  dead h found stop.Worn x = x

  -- of the base alone
  pub OnBase : List E → Base → Type 0
  OnBase h (OnCard c) = IdleCovered o h (lookup c.apps o.watch.name)
  OnBase h (AtFault cause p) = o.gone h

  powered : (h : List E) (b : Base) → OnBase h b → BaseCovered o h (base_after_migration b) (power_live b)
  unfolding OnBase
  powered h (OnCard c) x = x
  powered h (AtFault cause p) x = x

  pulled : (h : List E) (b : Base) (kind : Stop) → OnBase h b → BaseCovered o h b (live_after kind)
  unfolding OnBase
  pulled h (OnCard c) kind x = dead h (lookup c.apps o.watch.name) kind x
  pulled h (AtFault cause p) kind x = dead h None kind x

  pulled_cond : (x : Bool) (h : List E) (b : Base) (kind : Stop) → OnBase h b → BaseCovered o h (cond x (base_after_migration b) b) (live_after kind)
  unfolding OnBase
  pulled_cond true h (OnCard c) kind x = dead h (lookup c.apps o.watch.name) kind x
  pulled_cond true h (AtFault cause p) kind x = dead h None kind x
  pulled_cond false h b kind x = pulled h b kind x

  stopped_powered : (x : Bool) (h : List E) (s : Warm) (t : StopAt) → OnBase h s.base → StateCovered o h (AfterPower (stopped_power s t x))
  stopped_powered true h s t x = pulled h s.base t.kind x
  stopped_powered false h s t x = pulled_cond _ h s.base t.kind x

  -- a power line leaves a state that is covered on its card
  pub after_power : (h : List E) (s : Warm) (t : Option StopAt) → OnBase h s.base → StateCovered o h (AfterPower (power_after s t))
  after_power h s None x = powered h s.base x
  after_power h s (Some t) x = stopped_powered (nat_le t.at s.owed) h s t x

  live_end : (h : List E) (found : Option App) (v : Live) → LiveCovered o h found v → IdleCovered o (with_event (o.watch.of_end (is_selected_on o.watch.name v)) h) found
  live_end h found v x = grind (arith, selected_end, idle_end)

  -- a base that was covered, at the end of a session
  pub base_ended : (h : List E) (b : Base) (v : Live) → BaseCovered o h b v → OnBase (with_event (o.watch.of_end (is_selected_on o.watch.name v)) h) b
  unfolding OnBase
  base_ended h (OnCard c) v x = live_end h (lookup c.apps o.watch.name) v x
  base_ended h (AtFault cause p) v x = live_end h None v x

  -- the first card has none of the name
  none_migrated : (x : Bool) (h : List E) (b : Base) → o.gone h → lookup (apps_in (AfterPower (past_power (cond x (base_after_migration b) b) 0 One Unpowered 0 Unarmed))) o.watch.name ≡ None → OnBase h b
  unfolding OnBase
  none_migrated true h (OnCard c) g e = subst (IdleCovered o h) (sym e) g
  none_migrated false h (OnCard c) g e = subst (IdleCovered o h) (sym e) g
  none_migrated x h (AtFault cause p) g e = g

  none_stopped : (x : Bool) (h : List E) (s : Warm) (t : StopAt) → o.gone h → lookup (apps_in (AfterPower (stopped_power s t x))) o.watch.name ≡ None → OnBase h s.base
  none_stopped true h s t g e = none_migrated false h s.base g e
  none_stopped false h s t g e = none_migrated _ h s.base g e

  none_found : (h : List E) (s : Warm) (t : Option StopAt) → o.gone h → lookup (apps_in (AfterPower (power_after s t))) o.watch.name ≡ None → OnBase h s.base
  none_found h s None g e = none_migrated true h s.base g e
  none_found h s (Some t) g e = none_stopped (nat_le t.at s.owed) h s t g e

  -- ---- a line with one command

  -- the state after a line of a running card, and its answer
  AfterCommand : List E → List E → Card → Command → Option ApduParts → Option StopAt → Type 0
  AfterCommand h k c r found None =
      SelectedCovered o k (lookup (apps_after_items c.apps r.items) o.watch.name) r.session_state.selected × OnAnswer (λ a sw. o.answers a h k sw) found (Some (line_says r None))
  AfterCommand h k c r found (Some t) =
      IdleCovered o k (lookup (apps_after_items c.apps (at_stop r.items t.at t.left).whole) o.watch.name) × OnAnswer (λ a sw. o.answers a h k sw) found (Some (line_says r (Some t)))

  command_line_kept : (h k : List E) (n : ℕ) (l : DeckLine) (s : Warm) (c : Card) (r : Command) (found : Option ApduParts) (t : Option StopAt) → command_for o.watch.name (AfterPower s) l ≡ found → AfterCommand h k c r found t
      → LineCovered o h (command_step n l s c r t) k
  unfolding AfterCommand
  command_line_kept h k n l s c r found None e x = (x.0, subst (λ (z : Option ApduParts). OnAnswer (λ a sw. o.answers a h k sw) z (Some (line_says r None))) (sym e) x.1)
  command_line_kept h k n l s c r found (Some t) e x = (dead k _ t.kind x.0, subst (λ (z : Option ApduParts). OnAnswer (λ a sw. o.answers a h k sw) z (Some (line_says r (Some t)))) (sym e) x.1)

  -- whether its answer is one to the application as the selected one, or is not looked at
  one_command : (h : List E) (c : Card) (session_state : SessionState) (g : ℕ) (b : List ℕ) (looked : Bool) (t : Option StopAt) → (o.of_bytes → IsKnown c session_state (route b)) → SelectedCovered o h (lookup c.apps o.watch.name) session_state.selected
      → o.anywhere ⊎ StopsInWrite (command c session_state b g).items t → CreatesOnly o.watch.name o.app (whole_items (command c session_state b g) t)
      → AfterCommand h
      (after_stop o.watch (is_selected session_state.selected o.watch.name) t (with_answer o.watch (is_own_route o.watch.name session_state.selected (route b)) b (Some (line_says (command c session_state b g) t)) (after_route o.watch c session_state b g (route b) (cut_of t) (after_items o.watch.name (whole_items (command c session_state b g) t) h))))
      c (command c session_state b g) (parts_if looked (parts_for o.watch.name session_state.selected (route b))) t
  unfolding AfterCommand command
  one_command h c session_state g b looked None known kept hits only =
      let r = command c session_state b g in
      let k : List E = with_answer o.watch (is_own_route o.watch.name session_state.selected (route b)) b (Some (Answered r.outcome)) (after_route o.watch c session_state b g (route b) None (after_items o.watch.name r.items h)) in
      let x : CommandKept o h c session_state (route b) r k = route_kept o shown h c session_state b g (route b) refl known only kept in
      let found = parts_for o.watch.name session_state.selected (route b) in
      (x.selected, answered (parts_if looked found) h k r.outcome (looked_at looked found h k r.outcome x.answer))
  one_command h c session_state g b looked (Some t) known kept hits only =
      let cut : CutAt = record { at = t.at; left = t.left } in
      let whole = (at_stop (command c session_state b g).items t.at t.left).whole in
      let was = is_selected session_state.selected o.watch.name in
      let own = is_own_route o.watch.name session_state.selected (route b) in
      let k : List E = after_route o.watch c session_state b g (route b) (Some cut) (after_items o.watch.name whole h) in
      let same : k ≡ with_answer o.watch own b (Some (result_of_stop t t.kind)) k = sym (not_answered o.watch own b t t.kind k) in (
        subst (λ (p : List E). IdleCovered o (with_event (o.watch.of_end was) p) (lookup (apps_after_items c.apps whole) o.watch.name)) same (route_cut o shown h c session_state b g (route b) cut refl known hits only kept),
        stopped_answer (parts_if looked (parts_for o.watch.name session_state.selected (route b))) h _ t t.kind,
      )

  -- ---- a load

  a_load : (h : List E) (c : Card) (session_state : SessionState) (g : ℕ) (bs : List (List ℕ)) (t : Option StopAt) → AreManagers bs → SelectedCovered o h (lookup c.apps o.watch.name) session_state.selected
      → CreatesOnly o.watch.name o.app (whole_items (send c session_state g bs) t)
      → AfterCommand h (after_stop o.watch (is_selected session_state.selected o.watch.name) t (after_items o.watch.name (whole_items (send c session_state g bs) t) h)) c (send c session_state g bs) None t
  unfolding AfterCommand
  a_load h c session_state g bs None m kept only =
      let r = send c session_state g bs in
      let k : List E = after_items o.watch.name r.items h in
      let aside : Aside (o.watch.name ∷ []) session_state r = send_aside (o.watch.name ∷ []) c session_state g bs m in (
        subst (SelectedCovered o k (lookup (apps_after_items c.apps r.items) o.watch.name)) (sym aside.selected)
            (managed o shown r.items h c.apps session_state.selected kept (λ there selected. send_avoids c session_state o.watch.name g bs there selected m) (λ idle. items_kept o shown r.items h c.apps aside.others only idle)),
        tt,
      )
  a_load h c session_state g bs (Some t) m kept only =
      let r = send c session_state g bs in
      let whole = (at_stop r.items t.at t.left).whole in
      let aside : Aside (o.watch.name ∷ []) session_state r = send_aside (o.watch.name ∷ []) c session_state g bs m in (
        selected_end o shown (after_items o.watch.name whole h) (lookup (apps_after_items c.apps whole) o.watch.name) session_state.selected
            (managed o shown whole h c.apps session_state.selected kept (λ there selected. whole_avoids o.watch.name r.items t.at t.left (send_avoids c session_state o.watch.name g bs there selected m))
            (λ idle. items_kept o shown whole h c.apps (whole_others (o.watch.name ∷ []) r.items t.at t.left aside.others) only idle)),
        tt,
      )

  -- ---- lines

  -- what a line keeps, where it brings no other application and its stop comes at a write
  Keeps : List E → Step → Type 0
  Keeps h t = BringsOnly o.watch.name o.app t → o.anywhere ⊎ StopsAtWrite t → LineCovered o h t (after_step o.watch t h)

  -- what no card hears is answered by none
  unanswered : (h k : List E) (found : Option ApduParts) (v : Live) → OnAnswer (λ a sw. o.answers a h k sw) found (Some (without_card v))
  unanswered h k found v = grind arith

  -- what is sent to a card, or to none
  card_kept : (h : List E) (n : ℕ) (k : DeckCommand) (b : Base) (q : ℕ) (j : Journal) (v : Live) (g : ℕ) (a : Armed) (w : Option FailedWrite) → (o.of_bytes → IsLine (line.Sent k)) → (o.of_bytes → IsByteBase b v) → BaseCovered o h b v → Keeps h (card_line n (line.Sent k) (past_power b q j v g a) v b w)
  unfolding Keeps
  card_kept h n (line.Select x) (OnCard c) q j (Running session_state) g a w is base kept brings hits =
      let r = command c session_state (select_bytes x) g in
      let t = hit_of a (moves r.items) w in
      command_line_kept h _ n (line.Sent (line.Select x)) (past_power (OnCard c) q j (Running session_state) g a) c r None t refl (one_command h c session_state g (select_bytes x) false t (λ y. record { apps = (base y).0; session = (base y).1; route = selects_bytes 0x0C (length x ∷ x) }) kept hits brings.creates)
  card_kept h n (line.Delete x) (OnCard c) q j (Running session_state) g a w is base kept brings hits =
      let r = command c session_state (delete_bytes x) g in
      let t = hit_of a (moves r.items) w in
      command_line_kept h _ n (line.Sent (line.Delete x)) (past_power (OnCard c) q j (Running session_state) g a) c r None t refl (one_command h c session_state g (delete_bytes x) false t (λ y. record { apps = (base y).0; session = (base y).1; route = managers_bytes 0x18 0x00 0x00 (length x ∷ x) (is y) }) kept hits brings.creates)
  card_kept h n (line.Apdu x) (OnCard c) q j (Running session_state) g a w is base kept brings hits =
      let r = command c session_state x g in
      let t = hit_of a (moves r.items) w in
      command_line_kept h _ n (line.Sent (line.Apdu x)) (past_power (OnCard c) q j (Running session_state) g a) c r (parts_for o.watch.name session_state.selected (route x)) t refl (one_command h c session_state g x true t (λ y. record { apps = (base y).0; session = (base y).1; route = route_bytes x (is y) }) kept hits brings.creates)
  card_kept h n (line.Load u fixed session) (OnCard c) q j (Running session_state) g a w is base kept brings hits =
      let r = send c session_state g (load_commands u fixed session) in
      let t = hit_of a (moves r.items) w in
      command_line_kept h _ n (line.Sent (line.Load u fixed session)) (past_power (OnCard c) q j (Running session_state) g a) c r None t refl (a_load h c session_state g (load_commands u fixed session) t (load_managers u fixed session) kept brings.creates)
  card_kept h n k (AtFault cause p) q j (Running session_state) g a w is base kept brings hits =
      (kept, unanswered h h (command_for o.watch.name (AfterPower (past_power (AtFault cause p) q j (Running session_state) g a)) (line.Sent k)) (Running session_state))
  card_kept h n k b q j Unpowered g a w is base kept brings hits = (kept, unanswered h h (command_for o.watch.name (AfterPower (past_power b q j Unpowered g a)) (line.Sent k)) Unpowered)
  card_kept h n k b q j Muted g a w is base kept brings hits = (kept, unanswered h h (command_for o.watch.name (AfterPower (past_power b q j Muted g a)) (line.Sent k)) Muted)

  after_power_kept : (h : List E) (n : ℕ) (l : DeckLine) (s : Warm) (w : Option FailedWrite) → (o.of_bytes → IsLine l) → (o.of_bytes → IsByteBase s.base s.live) → BaseCovered o h s.base s.live → Keeps h (after_power_step n l s w)
  unfolding Keeps
  after_power_kept h n line.Power s w is base kept brings hits =
      (after_power (with_event (o.watch.of_end (is_selected_on o.watch.name s.live)) h) s (hit_of s.armed (power_moves s) w) (base_ended h s.base s.live kept), tt)
  after_power_kept h n (line.Sent k) s w is base kept brings hits = card_kept h n k s.base s.owed s.by s.live s.budget s.armed w is base kept brings hits
  after_power_kept h n _ s w is base kept brings hits = (kept, tt)

  before_power_kept : (h : List E) (n : ℕ) (l : DeckLine) (m : List (List ℕ)) (b : ℕ) (a : Armed) (w : Option FailedWrite) → o.gone h → Keeps h (before_power_step n l m b a w)
  unfolding Keeps
  before_power_kept h n line.Power m b a w gone brings hits =
      let s = play_at_power m b a in
      let t = hit_of a (power_moves s) w in
      let k = with_event (o.watch.of_end false) h in
      (after_power k s t (none_found k s t (shown.gone_on h gone) brings.finds), tt)
  before_power_kept h n _ m b a w gone brings hits = (gone, tt)

  -- one line
  pub step_kept : (h : List E) (z : State) (l : ℕ × DeckLine) (w : Option FailedWrite) → (o.of_bytes → IsLine l.1) → (o.of_bytes → IsByteState z) → StateCovered o h z → BringsOnly o.watch.name o.app (step z l w) → o.anywhere ⊎ StopsAtWrite (step z l w)
      → LineCovered o h (step z l w) (after_step o.watch (step z l w) h)
  unfolding step Keeps
  step_kept h (BeforePower m b a) l w is state kept = before_power_kept h l.0 l.1 m b a w kept
  step_kept h (AfterPower s) l w is state kept = after_power_kept h l.0 l.1 s w is state kept

  -- ---- plays

  along_kept : (ls : List (ℕ × DeckLine)) (ws : List (Option FailedWrite)) (h : List E) (z : State) → (o.of_bytes → AllByRecursion (λ l. IsLine l.1) ls) → (o.of_bytes → IsByteState z) → StateCovered o h z → AlongWrites o.watch o.app o.anywhere (LineCovered o) h (plays z ls ws)
  unfolding plays
  along_kept [] ws h z lines state kept = tt
  along_kept (l ∷ ls) ws h z lines state kept =
      let t : Step = step z l (first_failure ws) in
      let k : List E = after_step o.watch t h in (
        λ brings hits. let line = step_kept h z l (first_failure ws) (λ y. (lines y).0) state kept brings hits in
            (line, along_kept ls (drop 1 ws) k t.after (λ y. (lines y).1) (λ y. step_bytes z l (first_failure ws) (lines y).0 (state y)) line.0),
        λ c. subst (λ (u : Step). BringsOnly o.watch.name o.app u → o.anywhere ⊎ StopsAtWrite u → LineCovered o h u (after_step o.watch u h)) (stopped_is z l (first_failure ws) c) (step_kept h z l (Some c) (λ y. (lines y).0) state kept),
      )

  -- what a domain covers is so along every play
  pub covered_along : IsCovered o
  covered_along ls m ws lines image = along_kept ls ws [] (start m) lines image shown.none
