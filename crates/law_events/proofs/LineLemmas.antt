-- The history of a line is its command, the events of its turns, its answer and its session.
use Rattle.std.proofs.Common.{◌≡◌, inl, inr, ℕ, zero, suc, Bool, true, false, cond, List, [], ◌∷◌, length, take, Option, Some, None, option_map, refl, arith, sym, ap, subst, ◌∙◌}
use Rattle.std.specs.Prelude.{◌||◌, ◌==◌, bytes_eq, is_none, not}
use Rattle.law_promise.specs.model_events.specs.model_device.specs.declared.device.Stop.{Stop}
use Rattle.law_promise.specs.model_events.specs.model_device.specs.declared.device.Stop.TheVariants as stop
use Rattle.law_promise.specs.model_events.specs.model_device.specs.Bytes.{lookup}
use Rattle.law_promise.specs.model_events.specs.model_device.specs.Card.{App, Card}
use Rattle.law_promise.specs.model_events.specs.model_device.specs.Image.{Journal}
use Rattle.law_promise.specs.model_events.specs.model_device.specs.PowerUp.{Base, OnCard, AtFault}
use Rattle.law_promise.specs.model_events.specs.model_machine.specs.Apdu.{ApduParts, Rest, apdu_read, rest_read}
use Rattle.law_promise.specs.model_events.specs.model_machine.specs.Chain.{Outcome, run, run_of_chain, start}
use Rattle.law_promise.specs.model_card.specs.Items.{Atomic, Created, Deleted, Fixed, Item, Plain, StopAt, moves}
use Rattle.law_promise.specs.model_card.specs.Commands.{Command, application_command, by_route, command, manager_command, ran_command}
use Rattle.law_promise.specs.model_card.specs.Manager.{Route, Selected, SessionState, ToApplication, ToManager, ToSelect, WrongClass, WrongLength, answer_unless, is_selected, route, route_of_parts, select, select_done, is_empty}
use Rattle.law_promise.specs.model_play.specs.DeckGrammar.{DeckCommand, DeckLine}
use Rattle.law_promise.specs.model_play.specs.DeckGrammar as line
use Rattle.law_promise.specs.model_play.specs.Given.{is_power}
use Rattle.law_promise.specs.model_play.specs.Play.{AfterPower, Answered, Armed, BeforePower, FailedWrite, LineResult, Live, Muted, Running, State, Step, Unpowered, Warm, delete_bytes, hit_of, command_step, line_command, line_says, whole_items, power_moves, power_step, quiet, result_of_stop, select_bytes, step}
use Rattle.law_promise.specs.model_play.proofs.LineKinds.{Early, IsUnheard, NoneRuns, Powers, Quiet, Sends, StepKind, armed_after, budget_after, by_kind, early_result, found_by_power, image_after, past_power, quiet_result}
use Rattle.law_promise.specs.law_family.proofs.LoadCommands.{delete_manager}
use Rattle.law_promise.specs.law_family.proofs.OtherCommand.{IsManagers}
use Rattle.law_promise.specs.History.{after_command, command_in, after_items, after_line, after_passed, after_route, after_select, after_step, after_stop, after_taken, cut_of, is_own_route, command_event as history_command, after_run, is_selected_in, is_selected_on, selection_event, unless_created, with_answer, with_event}
use Rattle.model_rules.specs.Happenings.{Event, ended_session, rule_watch}
use Rattle.law_events.specs.Events.{answer_event, command_event, count_of_turns, end_event, is_done, is_selection, is_to_application, is_to_select, line_events, line_history, live_events, outcome_in, own_by, own_command, passed_command, route_events, run_events, sent_bytes, session_by, with_events}
use Rattle.law_events.specs.Laws.{Hits, IsSound, RunsCard}
use Rattle.law_events.proofs.RunLemmas.{run_size, stopped_run, whole_run}

-- ---- lists and sessions

none_taken : (n : ℕ) (es : List (Option Event)) → es ≡ [] → take n es ≡ []
none_taken zero es h = refl
none_taken (suc n) [] h = refl
none_taken (suc n) (e ∷ es) h = absurd (cc h)

all_taken : {A : Type 0} (xs : List A) → take (length xs) xs ≡ xs
all_taken [] = refl
all_taken (x ∷ xs) = ap (λ (l : _). x ∷ l) (all_taken xs)

no_events : (n : ℕ) (es : List (Option Event)) (h : List Event) → es ≡ [] → with_events (take n es) h ≡ h
no_events n es h e = ap (λ (l : List (Option Event)). with_events l h) (none_taken n es e)

none_own : (b : Bool) → own_by b None ≡ None
none_own b = refl

-- no session begins or ends where the application is selected neither before nor after
unselected : (p q d : Bool) → session_by p q d false false ≡ false
unselected true true true = refl
unselected true true false = refl
unselected true false d = refl
unselected false true true = refl
unselected false true false = refl
unselected false false d = refl

-- nor with a line that is no power line and was not done
undone : (q was is : Bool) → session_by false q false was is ≡ false
undone true was is = refl
undone false was is = refl

powered : (d was is : Bool) → session_by true false d was is ≡ was
powered d true is = refl
powered d false is = refl

-- a selection is one event, if it begins a session or ends one
selected_event : (name : List ℕ) (was is : Bool) → selection_event (rule_watch name) is was ≡ ended_session (session_by false true true was is)
selected_event name true true = refl
selected_event name true false = refl
selected_event name false true = refl
selected_event name false false = refl

-- what items that are whole make of no event
items_none : (name : List ℕ) (is : List Item) → after_items {E = Event} name is [] ≡ []
items_none name [] = refl
items_none name (Plain ∷ is) = items_none name is
items_none name (Atomic w (Fixed m ps) ∷ is) = items_none name is
items_none name (Atomic w (Created m a) ∷ is) = ap (λ (h : List Event). after_items name is h) (created_none (bytes_eq m name)) ∙ items_none name is
  where
    created_none : (b : Bool) → unless_created {E = Event} b [] ≡ []
    created_none true = refl
    created_none false = refl
items_none name (Atomic w (Deleted m) ∷ is) = items_none name is

-- ---- a line that no card hears

-- a history without an event
quiet_history : (name : List ℕ) (was is : Bool) (p q d : Bool) (cmd : Option (List ℕ)) (r : Option LineResult) (n : ℕ) (es : List (Option Event)) → own_by was cmd ≡ None → es ≡ [] → session_by p q d was is ≡ false
    → [] ≡ with_event (end_event (session_by p q d was is) was None) (with_event (answer_event (own_by was cmd) (outcome_in r)) (with_events (take n es) (with_event (command_event (own_by was cmd)) [])))
quiet_history name was is p q d cmd r n es own none session =
    sym (
    ap (λ (b : Bool). with_event (end_event b was None) (with_event (answer_event (own_by was cmd) (outcome_in r)) (with_events (take n es) (with_event (command_event (own_by was cmd)) [])))) session
    ∙ ap (λ (c : Option (List ℕ)). with_event (answer_event c (outcome_in r)) (with_events (take n es) (with_event (command_event c) []))) own ∙ no_events n es [] none
    )

not_own : (cmd : Option (List ℕ)) → own_by false cmd ≡ None
not_own None = refl
not_own (Some b) = refl

early_none : (name : List ℕ) (m : List (List ℕ)) (b : ℕ) (a : Armed) (t : Step) (l : DeckLine) → is_power l ≡ false → after_line (rule_watch name) (BeforePower m b a) t l [] ≡ []
early_none name m b a t line.Power h = absurd (cc h)
early_none name m b a t _ h = refl

early_events : (name : List ℕ) (m : List (List ℕ)) (b : ℕ) (a : Armed) (l : DeckLine) → line_events name (BeforePower m b a) l ≡ []
unfolding line_events
early_events name m b a l = refl

-- what runs no card has no events
pub none_live : (name : List ℕ) (o : Option (List ℕ)) (v : Live) (b : Base) (budget : ℕ) → NoneRuns v b → live_events name o v b budget ≡ []
none_live name None v b budget h = refl
none_live name (Some x) (Running s) (OnCard c) budget h = absurd h
none_live name (Some x) (Running s) (AtFault cause p) budget h = refl
none_live name (Some x) Unpowered b budget h = refl
none_live name (Some x) Muted b budget h = refl

none_taken_line : (name : List ℕ) (v : Live) (b : Base) (budget : ℕ) (t : Step) → NoneRuns v b → after_taken (rule_watch name) v b budget t [] ≡ []
none_taken_line name (Running s) (OnCard c) budget t h = absurd h
none_taken_line name (Running s) (AtFault cause p) budget t h = refl
none_taken_line name Unpowered b budget t h = refl
none_taken_line name Muted b budget t h = refl

none_selected : (name : List ℕ) (v : Live) (b : Base) → NoneRuns v b → RunsCard v b → is_selected_on name v ≡ false
none_selected name (Running s) (OnCard c) h k = absurd h
none_selected name (Running s) (AtFault cause p) h k = absurd k
none_selected name Unpowered b h k = refl
none_selected name Muted b h k = refl

sent_none : (k : DeckCommand) (v : Live) (b : Base) → IsUnheard (line.Sent k) v b → NoneRuns v b
sent_none (line.Select n) v b (inl h) = absurd (cc h)
sent_none (line.Delete n) v b (inl h) = absurd (cc h)
sent_none (line.Apdu x) v b (inl h) = absurd (cc h)
sent_none (line.Load u fixed session) v b (inl h) = absurd (cc h)
sent_none k v b (inr h) = h

warm_events : (name : List ℕ) (s : Warm) (l : DeckLine) → line_events name (AfterPower s) l ≡ live_events name (sent_bytes l) s.live s.base s.budget
unfolding line_events
warm_events name s l = refl

quiet_is : (name : List ℕ) (l : DeckLine) (s : Warm) (r : Option LineResult) (z : State) (t : Step) → is_power l ≡ false → IsUnheard l s.live s.base → RunsCard s.live s.base → is_selected_in name z ≡ is_selected_on name s.live
    → (let b = is_selected_on name s.live in
    after_line (rule_watch name) (AfterPower s) t l []
    ≡ with_event (end_event (session_by (is_power l) (is_selection l) (is_done (outcome_in r)) b (is_selected_in name z)) b None)
    (with_event (answer_event (own_command b l) (outcome_in r)) (with_events (take 0 (line_events name (AfterPower s) l)) (with_event (command_event (own_command b l)) []))))
unfolding line_events
quiet_is name line.Power s r z t h unheard sound same = absurd (cc h)
quiet_is name (line.Sent k) s r z t h unheard sound same =
    let none = sent_none k s.live s.base unheard in
    let off : is_selected_on name s.live ≡ false = none_selected name s.live s.base none sound in
    none_taken_line name s.live s.base s.budget t none
    ∙ quiet_history name (is_selected_on name s.live) (is_selected_in name z) false (is_selection (line.Sent k)) (is_done (outcome_in r)) (passed_command (line.Sent k)) r 0 (line_events name (AfterPower s) (line.Sent k))
    (ap (λ (b : Bool). own_by b (passed_command (line.Sent k))) off ∙ not_own (passed_command (line.Sent k)))
    (warm_events name s (line.Sent k) ∙ none_live name (sent_bytes (line.Sent k)) s.live s.base s.budget none)
    (ap (λ (b : Bool). session_by false (is_selection (line.Sent k)) (is_done (outcome_in r)) b (is_selected_in name z)) off
    ∙ ap (λ (b : Bool). session_by false (is_selection (line.Sent k)) (is_done (outcome_in r)) false b) (same ∙ off) ∙ unselected false (is_selection (line.Sent k)) (is_done (outcome_in r)))
quiet_is name _ s r z t h unheard sound same = refl

-- ---- a power line

power_is : (r : Option LineResult) (is : Bool) (n : ℕ) (es : List (Option Event)) (st : Option StopAt) (b : Bool) → es ≡ []
    → with_event (ended_session b) [] ≡ with_event (end_event (session_by true false (is_done (outcome_in r)) b is) b st) (with_events (take n es) [])
power_is r is n es None b none =
    ap (λ (x : Bool). with_event (ended_session x) []) (sym (powered (is_done (outcome_in r)) b is)) ∙ ap (λ (h : List Event). with_event (ended_session (session_by true false (is_done (outcome_in r)) b is)) h) (sym (no_events n es [] none))
power_is r is n es (Some st) b none = ap (λ (h : List Event). with_event (ended_session b) h) (sym (no_events n es [] none))

power_events : (name : List ℕ) (z : State) → line_events name z line.Power ≡ []
unfolding line_events
power_events name (BeforePower m b a) = refl
power_events name (AfterPower s) = refl

-- ---- a command

-- no stop hits a line without device writes
unhit : (items : List Item) (st : StopAt) → items ≡ [] → Hits (moves items) (Some st) → ⊥
unhit items st e h =
    let k : Hits (moves []) (Some st) = subst (λ (is : List Item). Hits (moves is) (Some st)) e h in
    let low = k.0 in
    let high = k.1 in
    omega (arith, low, high)

-- a route of a SELECT, or none
abbrev pub IsSelect : Route → Type 0
IsSelect WrongLength = Unit {0}
IsSelect (ToSelect a) = Unit {0}
IsSelect _ = ⊥

-- whether a line counts as a SELECT: one whose route is none may
abbrev pub Selects : Bool → Route → Type 0
Selects b WrongLength = Unit {0}
Selects b WrongClass = b ≡ false
Selects b (ToManager a) = b ≡ false
Selects b (ToApplication a) = b ≡ false
Selects b (ToSelect a) = b ≡ true

module _ (name : List ℕ) (c : Card) (ss : SessionState) (budget : ℕ) (b : List ℕ) (sel : Bool) where
  abbrev was : Bool
  was = is_selected ss.selected name

  -- the history of a command, by its route, is that of the definition
  abbrev RouteIs : Route → Command → Option StopAt → Type 0
  RouteIs R r st =
      after_stop (rule_watch name) was st (with_answer (rule_watch name) (is_own_route name ss.selected R) b (Some (line_says r st)) (after_route (rule_watch name) c ss b budget R (cut_of st) []))
      ≡ (let own = own_by was (cond (is_to_application R) (Some b) None) in
      with_event (end_event (session_by false sel (is_done (outcome_in (Some (line_says r st)))) was (is_selected r.session_state.selected name)) was st)
      (with_event (answer_event own (outcome_in (Some (line_says r st)))) (with_events (take (count_of_turns r.turns st) (route_events name c.apps ss.selected budget R)) (with_event (command_event own) []))))

  -- a stop ends the session
  stopped_quiet : (st : StopAt) (has : Bool) (n : ℕ) → after_stop (rule_watch name) was (Some st) [] ≡ with_event (end_event has was (Some st)) (with_events (take n []) [])
  stopped_quiet st has n = ap (λ (h : List Event). with_event (ended_session was) h) (sym (no_events n [] [] refl))

  -- a refusal
  refused : (has : Bool) (n : ℕ) → has ≡ false → [] ≡ with_event (end_event has was None) (with_events (take n []) [])
  refused has n h = sym (ap (λ (x : Bool). with_event (end_event x was None) (with_events (take n []) [])) h ∙ no_events n [] [] refl)

  wrong_length : (st : Option StopAt) → Hits (moves (by_route c ss budget WrongLength).items) st → RouteIs WrongLength (by_route c ss budget WrongLength) st
  wrong_length None h = refused (session_by false sel false was was) 0 (undone sel was was)
  wrong_length (Some st) h = absurd (unhit [] st refl h)

  wrong_class : (st : Option StopAt) → Hits (moves (by_route c ss budget WrongClass).items) st → RouteIs WrongClass (by_route c ss budget WrongClass) st
  wrong_class None h = refused (session_by false sel false was was) 0 (undone sel was was)
  wrong_class (Some st) h = absurd (unhit [] st refl h)

  managed : (a : ApduParts) (r : Command) (st : Option StopAt) → sel ≡ false → RouteIs (ToManager a) r st
  managed a r None e =
      refused (session_by false sel (is_done (outcome_in (Some (line_says r None)))) was (is_selected r.session_state.selected name)) (count_of_turns r.turns None)
      (ap (λ (x : Bool). session_by false x (is_done (outcome_in (Some (line_says r None)))) was (is_selected r.session_state.selected name)) e)
  managed a r (Some st) e = stopped_quiet st false (count_of_turns r.turns (Some st))

  -- a SELECT, by what is refused and what is found
  select_is : (a : ApduParts) (x y : Bool) (found : Option App) → sel ≡ true
      → (let m = answer_unless (cond x (Some 0x6A86) (cond y (Some 0x6700) (cond (is_none found) (Some 0x6A82) None))) (select_done ss a found) in
      (after_select (rule_watch name) ss.selected a.body m [] ≡ (let r = manager_command c ss m in with_event (end_event (session_by false sel (is_done (Some r.outcome)) was (is_selected r.session_state.selected name)) was None) [])) × ((manager_command c ss m).items ≡ []) × ((manager_command c ss m).turns ≡ []))
  select_is a true y found e = (sym (ap (λ (z : Bool). with_event (ended_session z) []) (undone sel was was)), refl, refl)
  select_is a false true found e = (sym (ap (λ (z : Bool). with_event (ended_session z) []) (undone sel was was)), refl, refl)
  select_is a false false None e = (sym (ap (λ (z : Bool). with_event (ended_session z) []) (undone sel was was)), refl, refl)
  select_is a false false (Some app) e =
      (ap (λ (o : Option Event). with_event o []) (selected_event name was (bytes_eq a.body name)) ∙ ap (λ (z : Bool). with_event (ended_session (session_by false z true was (bytes_eq a.body name))) []) (sym e), refl, refl)

  chosen : (a : ApduParts) (st : Option StopAt) → sel ≡ true → Hits (moves (by_route c ss budget (ToSelect a)).items) st → RouteIs (ToSelect a) (by_route c ss budget (ToSelect a)) st
  chosen a None e h =
      let m = select c.apps ss a in
      let k = select_is a (not (a.p2 == 0 || a.p2 == 0x0C)) (is_empty a.body) (lookup c.apps a.body) e in
      k.0 ∙ ap (λ (l : List Event). with_event (end_event (session_by false sel (is_done (Some (manager_command c ss m).outcome)) was (is_selected (manager_command c ss m).session_state.selected name)) was None) l) (sym (no_events (length (manager_command c ss m).turns) [] [] refl))
  chosen a (Some st) e h = absurd (unhit (by_route c ss budget (ToSelect a)).items st (select_is a (not (a.p2 == 0 || a.p2 == 0x0C)) (is_empty a.body) (lookup c.apps a.body) e).1 h)

  -- the events of a run that count
  ran : (s : Selected) (a : ApduParts) (st : Option StopAt) (h : List Event)
      → (let ch = start c.apps s.name s.session a in after_run (rule_watch name) budget ch (cut_of st) h ≡ with_events (take (count_of_turns (run_of_chain budget ch).turns st) (run_events (rule_watch name) budget ch)) h)
  ran s a None h =
      let ch = start c.apps s.name s.session a in
      let es : List (Option Event) = run_events (rule_watch name) budget ch in
      whole_run (rule_watch name) budget ch h
      ∙ ap (λ (l : List (Option Event)). with_events l h) (sym (ap (λ (k : ℕ). take k es) (sym (run_size (rule_watch name) budget ch)) ∙ all_taken es))
  ran s a (Some st) h = stopped_run (rule_watch name) budget (start c.apps s.name s.session a) (record { at = st.at; left = st.left }) h

  command_same : (own : Bool) (a : ApduParts) → history_command (rule_watch name) own b a ≡ command_event (own_by own (Some b))
  command_same true a = refl
  command_same false a = refl

  answer_same : (own : Bool) (o : Outcome) (h : List Event) → with_answer (rule_watch name) own b (Some (Answered o)) h ≡ with_event (answer_event (own_by own (Some b)) (Some o)) h
  answer_same true o h = refl
  answer_same false o h = refl

  answer_stopped : (own : Bool) (st : StopAt) (k : Stop) (h : List Event) → with_answer (rule_watch name) own b (Some (result_of_stop st k)) h ≡ with_event (answer_event (own_by own (Some b)) (outcome_in (Some (result_of_stop st k)))) h
  answer_stopped true st stop.Off h = refl
  answer_stopped true st stop.Worn h = refl
  answer_stopped false st stop.Off h = refl
  answer_stopped false st stop.Worn h = refl

  -- a command to the application that is selected, by whether that is this one
  passed_is : (s : Selected) (a : ApduParts) (st : Option StopAt) (own : Bool) → sel ≡ false
      → (let r = run c.apps s.name s.session a budget in
      let says : Option LineResult = Some (line_says (ran_command ss s.name r) st) in
      after_stop (rule_watch name) own st (with_answer (rule_watch name) own b says (after_run (rule_watch name) budget (start c.apps s.name s.session a) (cut_of st) (with_event (history_command (rule_watch name) own b a) [])))
      ≡ with_event (end_event (session_by false sel (is_done (outcome_in says)) own own) own st)
      (with_event (answer_event (own_by own (Some b)) (outcome_in says)) (with_events (take (count_of_turns r.turns st) (run_events (rule_watch name) budget (start c.apps s.name s.session a))) (with_event (command_event (own_by own (Some b))) []))))
  passed_is s a None own e =
      let r = run c.apps s.name s.session a budget in
      let done = is_done (Some r.outcome) in
      let tail : List Event = with_event (answer_event (own_by own (Some b)) (Some r.outcome)) (with_events (take (count_of_turns r.turns None) (run_events (rule_watch name) budget (start c.apps s.name s.session a))) (with_event (command_event (own_by own (Some b))) [])) in
      ap (λ (x : Option Event). with_answer (rule_watch name) own b (Some (Answered r.outcome)) (after_run (rule_watch name) budget (start c.apps s.name s.session a) None (with_event x []))) (command_same own a)
      ∙ ap (λ (h : List Event). with_answer (rule_watch name) own b (Some (Answered r.outcome)) h) (ran s a None (with_event (command_event (own_by own (Some b))) []))
      ∙ answer_same own r.outcome _
      ∙ ap (λ (x : Bool). with_event (ended_session (session_by false x done own own)) tail) (sym e)
  passed_is s a (Some st) own e =
      ap (λ (x : Option Event). with_event (ended_session own) (with_answer (rule_watch name) own b (Some (result_of_stop st st.kind)) (after_run (rule_watch name) budget (start c.apps s.name s.session a) (cut_of (Some st)) (with_event x [])))) (command_same own a)
      ∙ ap (λ (h : List Event). with_event (ended_session own) (with_answer (rule_watch name) own b (Some (result_of_stop st st.kind)) h)) (ran s a (Some st) (with_event (command_event (own_by own (Some b))) []))
      ∙ ap (λ (h : List Event). with_event (ended_session own) h) (answer_stopped own st st.kind _)

  -- a command to an application, if one is selected
  application_is : (a : ApduParts) (o : Option Selected) (st : Option StopAt) → sel ≡ false
      → (let r = application_command c ss o a budget in
      let says : Option LineResult = Some (line_says r st) in
      let own = is_selected o name in
      Hits (moves r.items) st
      → after_stop (rule_watch name) own st (with_answer (rule_watch name) own b says (after_passed (rule_watch name) c o b a budget (cut_of st) []))
      ≡ with_event (end_event (session_by false sel (is_done (outcome_in says)) own (is_selected r.session_state.selected name)) own st)
      (with_event (answer_event (own_by own (Some b)) (outcome_in says)) (with_events (take (count_of_turns r.turns st) (route_events name c.apps o budget (ToApplication a))) (with_event (command_event (own_by own (Some b))) []))))
  application_is a None None e h = ap (λ (x : Bool). with_event (ended_session (session_by false x false false was)) []) (sym e)
  application_is a None (Some st) e h = absurd (unhit [] st refl h)
  application_is a (Some s) st e h = passed_is s a st (bytes_eq s.name name) e

  -- the history of a command, by its route
  pub route_is : (R : Route) (st : Option StopAt) → Selects sel R → Hits (moves (by_route c ss budget R).items) st → RouteIs R (by_route c ss budget R) st
  route_is WrongLength st e h = wrong_length st h
  route_is WrongClass st e h = wrong_class st h
  route_is (ToSelect a) st e h = chosen a st e h
  route_is (ToManager a) st e h = managed a (by_route c ss budget (ToManager a)) st e
  route_is (ToApplication a) st e h = application_is a ss.selected st e h

  -- the same of a command
  command_is : (st : Option StopAt) → Selects sel (route b) → (let r = command c ss b budget in Hits (moves r.items) st → RouteIs (route b) r st)
  unfolding command
  command_is st e h = route_is (route b) st e h

-- ---- a line on a running card

select_route : (n : List ℕ) (o : Option Rest) → IsSelect (route_of_parts (option_map (λ r. record { cla = 0x00; ins = 0xA4; p1 = 0x04; p2 = 0x0C; p3 = r.p3; body = r.body; le = r.le }) o))
select_route n None = tt
select_route n (Some r) = tt

pub select_of : (x : List ℕ) → IsSelect (route (select_bytes x))
unfolding apdu_read
select_of x = select_route x (rest_read (length x ∷ x))

-- bytes that are no command of an application
abbrev pub IsPlain : Route → Type 0
IsPlain WrongLength = Unit {0}
IsPlain WrongClass = Unit {0}
IsPlain (ToSelect a) = Unit {0}
IsPlain (ToManager a) = Unit {0}
IsPlain (ToApplication a) = ⊥

pub select_plain : (R : Route) → IsSelect R → IsPlain R × Selects true R
select_plain WrongLength h = (tt, tt)
select_plain (ToSelect a) h = (tt, refl)
select_plain WrongClass h = absurd h
select_plain (ToManager a) h = absurd h
select_plain (ToApplication a) h = absurd h

pub manager_plain : (R : Route) → IsManagers R → IsPlain R × Selects false R
manager_plain WrongLength h = (tt, tt)
manager_plain (ToManager a) h = (tt, refl)
manager_plain WrongClass h = absurd h
manager_plain (ToSelect a) h = absurd h
manager_plain (ToApplication a) h = absurd h

selects_by : (R : Route) → Selects (is_to_select R) R
selects_by WrongLength = tt
selects_by WrongClass = refl
selects_by (ToSelect a) = refl
selects_by (ToManager a) = refl
selects_by (ToApplication a) = refl

plain_form : (name : List ℕ) (apps : List (List ℕ × App)) (selected : Option Selected) (g m : ℕ) (b : List ℕ) (x : Option Outcome) (end : Option Event) (own : Bool) (R : Route) → IsPlain R
    → (let cmd = own_by own (cond (is_to_application R) (Some b) None) in
    with_event end (with_event (answer_event cmd x) (with_events (take m (route_events name apps selected g R)) (with_event (command_event cmd) []))) ≡ with_event end (with_events (take m []) []))
plain_form name apps selected g m b x end own WrongLength h = refl
plain_form name apps selected g m b x end own WrongClass h = refl
plain_form name apps selected g m b x end own (ToSelect a) h = refl
plain_form name apps selected g m b x end own (ToManager a) h = refl
plain_form name apps selected g m b x end own (ToApplication a) h = absurd h

module _ (name : List ℕ) (n g o : ℕ) (c : Card) (ss : SessionState) (j : Journal) (a : Armed) where
  abbrev sent : DeckCommand → Command → Option StopAt → Step
  sent k r st = command_step n (line.Sent k) (past_power (OnCard c) o j (Running ss) g a) c r st

  -- the history of a line that is sent to a card
  abbrev SentIs : DeckCommand → Command → Option StopAt → Type 0
  SentIs k r st = after_step (rule_watch name) (sent k r st) [] ≡ line_history name (sent k r st) (count_of_turns r.turns st)

  -- what is whole of the items brings no event
  without_items : (k : DeckCommand) (r : Command) (st : Option StopAt)
      → after_step (rule_watch name) (sent k r st) [] ≡ after_stop (rule_watch name) (is_selected ss.selected name) st (after_command (rule_watch name) c ss g (command_in (line.Sent k)) (Some (line_says r st)) (cut_of st) [])
  without_items k r st =
      ap (λ (h : List Event). after_stop (rule_watch name) (is_selected ss.selected name) st (after_command (rule_watch name) c ss g (command_in (line.Sent k)) (Some (line_says r st)) (cut_of st) h)) (items_none name (whole_items r st))

  apdu_shown : (b : List ℕ) (r : Command) (st : Option StopAt)
      → (let own = own_by (is_selected ss.selected name) (cond (is_to_application (route b)) (Some b) None) in
      with_event (end_event (session_by false (is_to_select (route b)) (is_done (outcome_in (Some (line_says r st)))) (is_selected ss.selected name) (is_selected r.session_state.selected name)) (is_selected ss.selected name) st)
      (with_event (answer_event own (outcome_in (Some (line_says r st)))) (with_events (take (count_of_turns r.turns st) (route_events name c.apps ss.selected g (route b))) (with_event (command_event own) [])))
      ≡ line_history name (sent (line.Apdu b) r st) (count_of_turns r.turns st))
  unfolding line_events
  apdu_shown b r None = refl
  apdu_shown b r (Some x) = refl

  apdu_is : (b : List ℕ) (st : Option StopAt) → Hits (moves (command c ss b g).items) st → SentIs (line.Apdu b) (command c ss b g) st
  apdu_is b st h =
      without_items (line.Apdu b) (command c ss b g) st ∙ command_is name c ss g b (is_to_select (route b)) st (selects_by (route b)) h ∙ apdu_shown b (command c ss b g) st

  -- the history of a line that runs no application
  quiet_end : (k : DeckCommand) (sel : Bool) (r : Command) (st : Option StopAt) → is_selection (line.Sent k) ≡ sel → passed_command (line.Sent k) ≡ None → sent_bytes (line.Sent k) ≡ None
      → with_event (end_event (session_by false sel (is_done (outcome_in (Some (line_says r st)))) (is_selected ss.selected name) (is_selected r.session_state.selected name)) (is_selected ss.selected name) st) (with_events (take (count_of_turns r.turns st) []) [])
      ≡ line_history name (sent k r st) (count_of_turns r.turns st)
  unfolding line_events
  quiet_end (line.Select x) sel r None is passed none = ap (λ (b : Bool). with_event (ended_session (session_by false b (is_done (outcome_in (Some (line_says r None)))) (is_selected ss.selected name) (is_selected r.session_state.selected name))) (with_events (take (length r.turns) []) [])) (sym is)
  quiet_end (line.Delete x) sel r None is passed none = ap (λ (b : Bool). with_event (ended_session (session_by false b (is_done (outcome_in (Some (line_says r None)))) (is_selected ss.selected name) (is_selected r.session_state.selected name))) (with_events (take (length r.turns) []) [])) (sym is)
  quiet_end (line.Load u x y) sel r None is passed none = ap (λ (b : Bool). with_event (ended_session (session_by false b (is_done (outcome_in (Some (line_says r None)))) (is_selected ss.selected name) (is_selected r.session_state.selected name))) (with_events (take (length r.turns) []) [])) (sym is)
  quiet_end (line.Select x) sel r (Some st) is passed none = refl
  quiet_end (line.Delete x) sel r (Some st) is passed none = refl
  quiet_end (line.Load u x y) sel r (Some st) is passed none = refl
  quiet_end (line.Apdu b) sel r st is passed none = absurd (cc none)

  routed_is : (k : DeckCommand) (b : List ℕ) (sel : Bool) (st : Option StopAt) → IsPlain (route b) × Selects sel (route b) → command_in (line.Sent k) ≡ Some b → is_selection (line.Sent k) ≡ sel → passed_command (line.Sent k) ≡ None → sent_bytes (line.Sent k) ≡ None
      → Hits (moves (command c ss b g).items) st → SentIs k (command c ss b g) st
  routed_is k b sel st plain is selects passed none h =
      without_items k (command c ss b g) st
      ∙ ap (λ (x : Option (List ℕ)). after_stop (rule_watch name) (is_selected ss.selected name) st (after_command (rule_watch name) c ss g x (Some (line_says (command c ss b g) st)) (cut_of st) [])) is
      ∙ command_is name c ss g b sel st plain.1 h
      ∙ plain_form name c.apps ss.selected g (count_of_turns (command c ss b g).turns st) b (outcome_in (Some (line_says (command c ss b g) st))) _ (is_selected ss.selected name) (route b) plain.0
      ∙ quiet_end k sel (command c ss b g) st selects passed none

  load_is : (k : DeckCommand) (r : Command) (st : Option StopAt) → command_in (line.Sent k) ≡ None → is_selection (line.Sent k) ≡ false → passed_command (line.Sent k) ≡ None → sent_bytes (line.Sent k) ≡ None → SentIs k r st
  load_is k r st is selects passed none =
      without_items k r st
      ∙ ap (λ (x : Option (List ℕ)). after_stop (rule_watch name) (is_selected ss.selected name) st (after_command (rule_watch name) c ss g x (Some (line_says r st)) (cut_of st) [])) is
      ∙ ended st
      ∙ quiet_end k false r st selects passed none
    where
      ended : (st : Option StopAt) → after_stop (rule_watch name) (is_selected ss.selected name) st []
          ≡ with_event (end_event (session_by false false (is_done (outcome_in (Some (line_says r st)))) (is_selected ss.selected name) (is_selected r.session_state.selected name)) (is_selected ss.selected name) st) (with_events (take (count_of_turns r.turns st) []) [])
      ended None = sym (no_events (count_of_turns r.turns None) [] [] refl)
      ended (Some x) = ap (λ (h : List Event). with_event (ended_session (is_selected ss.selected name)) h) (sym (no_events (count_of_turns r.turns (Some x)) [] [] refl))

  -- the history of what is sent to a card
  sent_is : (k : DeckCommand) (st : Option StopAt) → (let r = line_command c ss g (line.Sent k) in Hits (moves r.items) st → SentIs k r st)
  sent_is (line.Select x) st h = routed_is (line.Select x) (select_bytes x) true st (select_plain (route (select_bytes x)) (select_of x)) refl refl refl refl h
  sent_is (line.Delete x) st h = routed_is (line.Delete x) (delete_bytes x) false st (manager_plain (route (delete_bytes x)) (delete_manager x)) refl refl refl refl h
  sent_is (line.Apdu b) st h = apdu_is b st h
  sent_is (line.Load u x y) st h = load_is (line.Load u x y) (line_command c ss g (line.Sent (line.Load u x y))) st refl refl refl refl

-- ---- each line

kind_law : (name : List ℕ) {w : Option FailedWrite} {z : State} {n : ℕ} {l : DeckLine} {t : Step} → StepKind w z n l t → IsSound z → (is_power l ≡ false → Hits (moves t.items) t.stop)
    → after_step (rule_watch name) t [] ≡ line_history name t (count_of_turns t.turns t.stop)
kind_law name (Early {n = n} {l = l} {m = m} {b = b} {a = a} power) sound hits =
    early_none name m b a (quiet n l (BeforePower m b a) (early_result l) (BeforePower (image_after l m) (budget_after l b) (armed_after l a))) l power
    ∙ quiet_history name false false (is_power l) (is_selection l) (is_done (outcome_in (early_result l))) (passed_command l) (early_result l) 0 (line_events name (BeforePower m b a) l) (not_own (passed_command l)) (early_events name m b a l) (unselected (is_power l) (is_selection l) (is_done (outcome_in (early_result l))))
kind_law name (Quiet {n = n} {l = l} {s = s} power unheard) sound hits =
    let z : State = AfterPower (record s { budget = budget_after l s.budget; armed = armed_after l s.armed }) in
    quiet_is name l s (quiet_result l s.live s.base) z (quiet n l (AfterPower s) (quiet_result l s.live s.base) z) power unheard sound refl
kind_law name {w} (Powers {n = n} (BeforePower m b a)) sound hits =
    let u : State = BeforePower m b a in
    let st = hit_of (found_by_power u).armed (power_moves (found_by_power u)) w in
    let t = power_step n u (found_by_power u) st in
    power_is t.result (is_selected_in name t.after) (count_of_turns [] st) (line_events name u line.Power) st (is_selected_in name u) (power_events name u)
kind_law name {w} (Powers {n = n} (AfterPower s)) sound hits =
    let u : State = AfterPower s in
    let st = hit_of s.armed (power_moves s) w in
    let t = power_step n u s st in
    power_is t.result (is_selected_in name t.after) (count_of_turns [] st) (line_events name u line.Power) st (is_selected_in name u) (power_events name u)
kind_law name {w} (Sends {n = n} {o = o} {g = g} {j = j} {a = a} k c ss) sound hits = sent_is name n g o c ss j a k (hit_of a (moves (line_command c ss g (line.Sent k)).items) w) (hits refl)

pub line_law : (name : List ℕ) (s : State) (l : ℕ × DeckLine) (w : Option FailedWrite) → (let t = step s l w in IsSound s → (is_power l.1 ≡ false → Hits (moves t.items) t.stop) → after_step (rule_watch name) t [] ≡ line_history name t (count_of_turns t.turns t.stop))
line_law name s l w sound hits = kind_law name (by_kind s l w) sound hits
