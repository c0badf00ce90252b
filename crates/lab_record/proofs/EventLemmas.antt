-- What is recorded of a line is what the rules note of its events.
use Rattle.std.proofs.Common.{◌≡◌, ℕ, zero, suc, Bool, true, false, cond, List, [], ◌∷◌, ◌++◌, drop, length, map, take, Option, Some, None, arith, refl, sym, ap, subst, ◌∙◌}
use Rattle.std.specs.Prelude.{get_or, slice_get}
use Rattle.mc_words.specs.model_device.specs.Card.{Card}
use Rattle.mc_words.specs.model_device.specs.PowerUp.{Base, OnCard, AtFault}
use Rattle.mc_apdu.specs.model_machine.specs.Apdu.{ApduParts, apdu_read}
use Rattle.mc_apdu.specs.model_machine.specs.Chain.{Chain, Follows, Continues, Ends, Outcome, start, turn_of, turn_of_chain}
use Rattle.mc_bank.specs.model_card.specs.Manager.{Route, Selected, SessionState, ToApplication, ToManager, ToSelect, WrongClass, WrongLength, route}
use Rattle.law_events.specs.law_promise.specs.model_play.specs.DeckGrammar.{DeckLine}
use Rattle.law_events.specs.law_promise.specs.model_play.specs.DeckGrammar as line
use Rattle.law_events.specs.law_promise.specs.model_play.specs.Play.{AfterPower, BeforePower, Live, Muted, Running, State, Step, Unpowered, delete_bytes, select_bytes}
use Rattle.law_events.specs.law_promise.specs.model_play.specs.TraceText.{shown_turns}
use Rattle.law_events.specs.law_promise.specs.law_family.proofs.LoadCommands.{delete_manager}
use Rattle.law_events.specs.law_promise.specs.History.{turn_event, with_event}
use Rattle.law_events.specs.law_steps.specs.Nexts.{OpensOf}
use Rattle.law_events.specs.Events.{answer_event, command_event, count_with, event_of, line_events, live_events, rest_events, route_events, run_events, sent_bytes, with_events}
use Rattle.law_events.proofs.LineLemmas.{IsPlain, manager_plain, none_live, select_of, select_plain}
use Rattle.law_events.proofs.OpenLemmas.{seen_opens}
use Rattle.mc_script.specs.Watching.{seen_of_application, seen_of_route, seen_of_run, seen_on}
use Rattle.lab_app_rules.specs.model_rules.specs.Happenings.{Event, Did, Failed, Commanded, Answers, Session, ended_session, rule_watch}
use Rattle.lab_app_rules.specs.declared.rules.Effect.{Effect}
use Rattle.lab_app_rules.specs.declared.rules.Effect.TheVariants as effect
use Rattle.lab_app_rules.specs.declared.rules.On.{On}
use Rattle.lab_app_rules.specs.declared.rules.Rules.{Rules}
use Rattle.mc_isa.specs.model_text.specs.Listing.{hex_text}
use Rattle.mc_text.specs.model_text.specs.TurnText.{outcome_text}
use Rattle.lab_app_rules.specs.model_rules.specs.Keeping.{line_of_deed, mode_of}
use Rattle.lab_app_rules.specs.declared.rules.Event.TheVariants as event
use Rattle.lab_record.specs.Courses.{answer_lines, answered_from, command_lines, session_from}
use Rattle.lab_record.specs.Fitting.{fitting_from}
use Rattle.lab_record.specs.Logs.{Abends, Applies, DeedValue, Drops, Keeps, Log, LogRules, Marks, Sight, is_protected, log_applied, log_counted, log_effect, log_event, log_events, log_fitting, log_lines, log_on, log_settled, log_sums, log_turn, log_turns, no_log, no_marks, public_seen, sight, with_deed}
use Rattle.lab_record.specs.Playing.{all_notes, log_of_step, notes_of, option_notes, sights_of_line, sights_of_live, sights_of_step}
use Rattle.lab_record.specs.Recorders.{log_rules}
use Rattle.lab_record.proofs.LogLemmas.{turn_on}

-- ---- marks are the log of the events

module _ (r : LogRules) (name : List ℕ) where
  -- one turn
  stepped : (n : ℕ) (ch : Chain) (m : Marks) → OpensOf m.opens ch → (let v = event_of (rule_watch name) n ch in (log_turn r name (sight n ch) m).log ≡ log_counted (log_event r (is_protected v) v m.log))
  stepped n ch m o = ap log_counted (turn_on r name n ch (get_or m.opens (length ch.below) false) m.log o.all.0)

  ended : (k : ℕ) (x : Sight) (v : Option Event) (m : Marks) → (log_turn r name x m).log ≡ log_counted (log_event r (is_protected v) v m.log) → (log_turns r name (take (suc k) (x ∷ [])) m).log ≡ log_events r (take (suc k) (v ∷ [])) m.log
  ended zero x v m is = is
  ended (suc k) x v m is = is

  -- the turns after one, if the chain goes on
  followed : (k n : ℕ) (ch : Chain) (m : Marks) → OpensOf m.opens ch
      → ((c : Chain) (x : Marks) → OpensOf x.opens c → (log_turns r name (take k (seen_of_run sight n c)) x).log ≡ log_events r (take k (run_events (rule_watch name) n c)) x.log) → (f : Follows) → (turn_of (suc n) ch).follows ≡ f
      → (log_turns r name (take (suc k) (seen_on sight (sight (suc n) ch) f (λ c. seen_of_run sight n c))) m).log ≡ log_events r (take (suc k) (turn_event (rule_watch name) ch ∷ rest_events f (λ c. run_events (rule_watch name) n c))) m.log
  followed k n ch m o rest (Ends e) is = ended k (sight (suc n) ch) (turn_event (rule_watch name) ch) m (stepped (suc n) ch m o)
  followed k n ch m o rest (Continues c) is =
      rest c (log_turn r name (sight (suc n) ch) m) (seen_opens (suc n) ch c m.opens o is) ∙ ap (λ (g : Log). log_events r (take k (run_events (rule_watch name) n c)) g) (stepped (suc n) ch m o)

  run_logged : (k n : ℕ) (ch : Chain) (m : Marks) → OpensOf m.opens ch → (log_turns r name (take k (seen_of_run sight n ch)) m).log ≡ log_events r (take k (run_events (rule_watch name) n ch)) m.log
  unfolding seen_of_run run_events turn_of_chain
  run_logged zero n ch m o = refl
  run_logged (suc k) zero ch m o = ended k (sight zero ch) None m refl
  run_logged (suc k) (suc n) ch m o = followed k n ch m o (λ c x h. run_logged k n c x h) (turn_of_chain ch).follows refl

  nothing : (k : ℕ) → (log_turns r name (take k []) no_marks).log ≡ log_events r (take k []) no_log
  nothing zero = refl
  nothing (suc k) = refl

  application_logged : (k : ℕ) (c : Card) (ss : SessionState) (budget : ℕ) (a : ApduParts) (o : Option Selected) → ss.selected ≡ o
      → (log_turns r name (take k (seen_of_route sight c ss budget (ToApplication a))) no_marks).log ≡ log_events r (take k (route_events name c.apps ss.selected budget (ToApplication a))) no_log
  application_logged k c ss budget a None e = subst (λ (o : Option Selected). (log_turns r name (take k (seen_of_application sight c o a budget)) no_marks).log ≡ log_events r (take k (route_events name c.apps o budget (ToApplication a))) no_log) (sym e) (nothing k)
  application_logged k c ss budget a (Some s) e =
      subst (λ (o : Option Selected). (log_turns r name (take k (seen_of_application sight c o a budget)) no_marks).log ≡ log_events r (take k (route_events name c.apps o budget (ToApplication a))) no_log) (sym e)
      (run_logged k budget (start c.apps s.name s.session a) no_marks (record { size = refl; few = omega arith; all = (refl, tt) }))

  route_logged : (k : ℕ) (c : Card) (ss : SessionState) (budget : ℕ) (R : Route) → (log_turns r name (take k (seen_of_route sight c ss budget R)) no_marks).log ≡ log_events r (take k (route_events name c.apps ss.selected budget R)) no_log
  route_logged k c ss budget WrongLength = nothing k
  route_logged k c ss budget WrongClass = nothing k
  route_logged k c ss budget (ToSelect a) = nothing k
  route_logged k c ss budget (ToManager a) = nothing k
  route_logged k c ss budget (ToApplication a) = application_logged k c ss budget a ss.selected refl

  plain_logged : (k : ℕ) (c : Card) (ss : SessionState) (budget : ℕ) (R : Route) → IsPlain R → (log_turns r name (take k (seen_of_route sight c ss budget R)) no_marks).log ≡ log_events r (take k []) no_log
  plain_logged k c ss budget WrongLength h = nothing k
  plain_logged k c ss budget WrongClass h = nothing k
  plain_logged k c ss budget (ToSelect a) h = nothing k
  plain_logged k c ss budget (ToManager a) h = nothing k
  plain_logged k c ss budget (ToApplication a) h = absurd h

  card_logged : (k : ℕ) (l : DeckLine) (c : Card) (ss : SessionState) (budget : ℕ) → (log_turns r name (take k (sights_of_live (Running ss) (OnCard c) budget l)) no_marks).log ≡ log_events r (take k (live_events name (sent_bytes l) (Running ss) (OnCard c) budget)) no_log
  unfolding apdu_read
  card_logged k (line.Sent (line.Apdu b)) c ss budget = route_logged k c ss budget (route b)
  card_logged k (line.Sent (line.Select x)) c ss budget = plain_logged k c ss budget (route (select_bytes x)) (select_plain (route (select_bytes x)) (select_of x)).0
  card_logged k (line.Sent (line.Delete x)) c ss budget = plain_logged k c ss budget (route (delete_bytes x)) (manager_plain (route (delete_bytes x)) (delete_manager x)).0
  card_logged k _ c ss budget = nothing k

  no_live : (k : ℕ) (es : List (Option Event)) → es ≡ [] → (log_turns r name (take k []) no_marks).log ≡ log_events r (take k es) no_log
  no_live k es h = nothing k ∙ ap (λ (l : List (Option Event)). log_events r (take k l) no_log) (sym h)

  live_logged : (k : ℕ) (l : DeckLine) (v : Live) (b : Base) (budget : ℕ) → (log_turns r name (take k (sights_of_live v b budget l)) no_marks).log ≡ log_events r (take k (live_events name (sent_bytes l) v b budget)) no_log
  live_logged k l (Running ss) (OnCard c) budget = card_logged k l c ss budget
  live_logged k l (Running ss) (AtFault cause p) budget = no_live k _ (none_live name (sent_bytes l) (Running ss) (AtFault cause p) budget tt)
  live_logged k l Unpowered b budget = no_live k _ (none_live name (sent_bytes l) Unpowered b budget tt)
  live_logged k l Muted b budget = no_live k _ (none_live name (sent_bytes l) Muted b budget tt)

  state_logged : (k : ℕ) (l : DeckLine) (z : State) → (log_turns r name (take k (sights_of_line z l)) no_marks).log ≡ log_events r (take k (line_events name z l)) no_log
  unfolding sights_of_line line_events
  state_logged k l (BeforePower m b a) = nothing k
  state_logged k l (AfterPower s) = live_logged k l s.live s.base s.budget

-- the marks of the instructions of a step are the log of its events
pub step_logged : (r : Rules) (name : List ℕ) (t : Step) → (log_turns (log_rules r) name (sights_of_step t) no_marks).log ≡ log_of_step r name t
unfolding sights_of_step
step_logged r name t = state_logged (log_rules r) name (length (shown_turns t.turns t.stop)) t.line t.before

-- ---- notes

-- the deeds of a log without their places
abbrev acts : Log → List DeedValue
acts g = map (λ n. n.1) g.deeds

append_none : {A : Type 0} (xs : List A) → xs ++ [] ≡ xs
append_none [] = refl
append_none (x ∷ xs) = ap (λ (l : _). x ∷ l) (append_none xs)

append_on : {A : Type 0} (xs ys zs : List A) → (xs ++ ys) ++ zs ≡ xs ++ (ys ++ zs)
append_on [] ys zs = refl
append_on (x ∷ xs) ys zs = ap (λ (l : _). x ∷ l) (append_on xs ys zs)

acts_on : (ds es : List (ℕ × DeedValue)) → map (λ n. n.1) (ds ++ es) ≡ map (λ n. n.1) ds ++ map (λ n. n.1) es
acts_on [] es = refl
acts_on (d ∷ ds) es = ap (λ (l : List DeedValue). d.1 ∷ l) (acts_on ds es)

-- a log is made longer by what it would be made alone
abbrev Adds : (Log → Log) → Type 0
Adds f = (g : Log) → acts (f g) ≡ acts g ++ acts (f no_log)

adds_none : (f : Log → Log) → ((g : Log) → f g ≡ g) → Adds f
adds_none f is g = ap acts (is g) ∙ sym (append_none (acts g)) ∙ ap (λ (l : List DeedValue). acts g ++ l) (sym (ap acts (is no_log)))

adds_then : (f h : Log → Log) → Adds f → Adds h → Adds (λ g. f (h g))
adds_then f h is on g =
    is (h g) ∙ ap (λ (l : List DeedValue). l ++ acts (f no_log)) (on g) ∙ append_on (acts g) (acts (h no_log)) (acts (f no_log)) ∙ ap (λ (l : List DeedValue). acts g ++ l) (sym (is (h no_log)))

adds_if : (b : Bool) (f h : Log → Log) → Adds f → Adds h → Adds (λ g. cond b (f g) (h g))
adds_if true f h is on = is
adds_if false f h is on = on

adds_deed : (d : DeedValue) → Adds (with_deed d)
adds_deed d g = acts_on g.deeds ((g.turns, d) ∷ [])

adds_effect : (e : Effect) (i : ℕ) (public : List ℕ) → Adds (log_effect e i public)
adds_effect (effect.Add a) i public = adds_deed _
adds_effect (effect.Take a) i public = adds_deed _
adds_effect (effect.Allow k) i public = adds_deed _
adds_effect (effect.Spend k) i public = adds_deed _
adds_effect (effect.Need k) i public = adds_deed _

adds_line : (o : Option On) (i : ℕ) (public : List ℕ) → Adds (log_on o i public)
adds_line None i public = adds_none (log_on None i public) (λ g. refl)
adds_line (Some o) i public = adds_effect o.effect i public

adds_lines : (ons : List On) (public : List ℕ) (is : List ℕ) → Adds (log_lines ons public is)
adds_lines ons public [] = adds_none (log_lines ons public []) (λ g. refl)
adds_lines ons public (i ∷ is) = adds_then (log_lines ons public is) (log_on (slice_get ons i) i public) (adds_lines ons public is) (adds_line (slice_get ons i) i public)

adds_settled : (mode : Option ℕ) → Adds (log_settled mode)
adds_settled None = adds_none (log_settled None) (λ g. refl)
adds_settled (Some mode) = adds_if _ (with_deed Keeps) (with_deed Drops) (adds_deed Keeps) (adds_deed Drops)

adds_sums : (on : Bool) (r : LogRules) (public is : List ℕ) (mode : Option ℕ) → Adds (log_sums on r public is mode)
adds_sums true r public is mode = adds_then (log_settled mode) (log_lines r.ons public is) (adds_settled mode) (adds_lines r.ons public is)
adds_sums false r public is mode =
    adds_if _ (log_lines r.ons public is) (λ g. with_deed Keeps (log_lines r.ons public is (with_deed Drops g))) (adds_lines r.ons public is)
    (adds_then (with_deed Keeps) (λ g. log_lines r.ons public is (with_deed Drops g)) (adds_deed Keeps) (adds_then (log_lines r.ons public is) (with_deed Drops) (adds_lines r.ons public is) (adds_deed Drops)))

adds_fitting : (r : LogRules) (on : Bool) (public is : List ℕ) (mode : Option ℕ) → Adds (log_fitting r on public is mode)
adds_fitting r on public is mode = adds_if r.sums (log_sums on r public is mode) (log_lines r.ons public is) (adds_sums on r public is mode) (adds_lines r.ons public is)

adds_applied : (is : List ℕ) → Adds (log_applied is)
adds_applied [] = adds_none (log_applied []) (λ g. refl)
adds_applied (i ∷ is) = adds_then (log_applied is) (with_deed (Applies i)) (adds_applied is) (adds_deed (Applies i))

adds_event : (r : LogRules) (on : Bool) (v : Option Event) → Adds (log_event r on v)
adds_event r on None = adds_none (log_event r on None) (λ g. refl)
adds_event r on (Some (Did d)) = adds_fitting r on (public_seen r d.public) (fitting_from 0 event.Turn (line_of_deed d) r.ons) (mode_of d.ins)
adds_event r on (Some (Failed at cause)) = adds_if r.never (with_deed Abends) (λ g. g) (adds_deed Abends) (adds_none (λ g. g) (λ g. refl))
adds_event r on (Some (Commanded b)) = adds_applied (fitting_from 0 event.Command (hex_text b) r.ons)
adds_event r on (Some (Answers b o)) = adds_applied (answered_from 0 (hex_text b) (outcome_text o) r.ons)
adds_event r on (Some Session) = adds_applied (session_from 0 r.ons)

event_acts : (r : LogRules) (v : Option Event) → acts (log_event r (is_protected v) v no_log) ≡ option_notes r v
event_acts r None = refl
event_acts r (Some e) = refl

pub events_acts : (r : LogRules) (vs : List (Option Event)) (g : Log) → acts (log_events r vs g) ≡ acts g ++ all_notes r vs
events_acts r [] g = sym (append_none (acts g))
events_acts r (v ∷ vs) g =
    events_acts r vs (log_counted (log_event r (is_protected v) v g))
    ∙ ap (λ (l : List DeedValue). l ++ all_notes r vs) (adds_event r (is_protected v) v g ∙ ap (λ (l : List DeedValue). acts g ++ l) (event_acts r v))
    ∙ append_on (acts g) (option_notes r v) (all_notes r vs)

notes_with : (r : LogRules) (v : Option Event) (h : List Event) → notes_of r (with_event v h) ≡ notes_of r h ++ option_notes r v
notes_with r None h = sym (append_none (notes_of r h))
notes_with r (Some e) h = refl

notes_all : (r : LogRules) (vs : List (Option Event)) (h : List Event) → notes_of r (with_events vs h) ≡ notes_of r h ++ all_notes r vs
notes_all r [] h = sym (append_none (notes_of r h))
notes_all r (v ∷ vs) h =
    notes_all r vs (with_event v h) ∙ ap (λ (l : List DeedValue). l ++ all_notes r vs) (notes_with r v h) ∙ append_on (notes_of r h) (option_notes r v) (all_notes r vs)

applied_acts : (is : List ℕ) → acts (log_applied is no_log) ≡ map Applies is
applied_acts [] = refl
applied_acts (i ∷ is) = adds_applied is (with_deed (Applies i) no_log) ∙ ap (λ (l : List DeedValue). Applies i ∷ l) (applied_acts is)

-- the notes of the events of a line in order: of the command, of its turns, of the answer, and of the session
pub line_notes : (r : LogRules) (cmd : Option (List ℕ)) (o : Option Outcome) (has : Bool) (vs : List (Option Event))
    → notes_of r (with_event (ended_session has) (with_event (answer_event cmd o) (with_events vs (with_event (command_event cmd) []))))
    ≡ map Applies (command_lines r.ons cmd) ++ acts (log_events r vs no_log) ++ map Applies (answer_lines r.ons cmd o) ++ cond has (map Applies (session_from 0 r.ons)) []
line_notes r cmd o has vs =
    let h : List Event = with_event (command_event cmd) [] in
    notes_with r (ended_session has) _
    ∙ ap (λ (l : List DeedValue). l ++ option_notes r (ended_session has)) (
    notes_with r (answer_event cmd o) (with_events vs h)
    ∙ ap (λ (l : List DeedValue). l ++ option_notes r (answer_event cmd o)) (notes_all r vs h ∙ ap (λ (l : List DeedValue). l ++ all_notes r vs) (notes_with r (command_event cmd) [] ∙ commands cmd))
    )
    ∙ ap (λ (l : List DeedValue). ((map Applies (command_lines r.ons cmd) ++ all_notes r vs) ++ option_notes r (answer_event cmd o)) ++ l) (sessions has)
    ∙ ap (λ (l : List DeedValue). ((map Applies (command_lines r.ons cmd) ++ all_notes r vs) ++ l) ++ cond has (map Applies (session_from 0 r.ons)) []) (answers cmd o)
    ∙ ap (λ (l : List DeedValue). map Applies (command_lines r.ons cmd) ++ l ++ map Applies (answer_lines r.ons cmd o) ++ cond has (map Applies (session_from 0 r.ons)) []) (sym (events_acts r vs no_log))
  where
    commands : (c : Option (List ℕ)) → option_notes r (command_event c) ≡ map Applies (command_lines r.ons c)
    commands None = refl
    commands (Some b) = applied_acts (fitting_from 0 event.Command (hex_text b) r.ons)

    answers : (c : Option (List ℕ)) (x : Option Outcome) → option_notes r (answer_event c x) ≡ map Applies (answer_lines r.ons c x)
    answers None x = refl
    answers (Some b) None = refl
    answers (Some b) (Some x) = applied_acts (answered_from 0 (hex_text b) (outcome_text x) r.ons)

    sessions : (b : Bool) → option_notes r (ended_session b) ≡ cond b (map Applies (session_from 0 r.ons)) []
    sessions true = applied_acts (session_from 0 r.ons)
    sessions false = refl

-- ---- a stop

notes_on : (r : LogRules) (vs us : List (Option Event)) → all_notes r (vs ++ us) ≡ all_notes r vs ++ all_notes r us
notes_on r [] us = refl
notes_on r (v ∷ vs) us = ap (λ (l : List DeedValue). option_notes r v ++ l) (notes_on r vs us) ∙ sym (append_on (option_notes r v) (all_notes r vs) (all_notes r us))

take_more : (n : ℕ) (vs : List (Option Event)) → take (suc n) vs ≡ take n vs ++ take 1 (drop n vs)
take_more zero vs = refl
take_more (suc n) [] = refl
take_more (suc n) (v ∷ vs) = ap (λ (l : List (Option Event)). v ∷ l) (take_more n vs)

-- the turns that count, of those before a stop and the one that it hits
pub counted_notes : (r : LogRules) (b : Bool) (n : ℕ) (vs : List (Option Event))
    → map (λ m. m.1) (log_events r (take n vs) no_log).deeds ++ cond b (all_notes r (take 1 (drop n vs))) [] ≡ map (λ m. m.1) (log_events r (take (count_with b n) vs) no_log).deeds
counted_notes r true n vs =
    ap (λ (l : List DeedValue). l ++ all_notes r (take 1 (drop n vs))) (events_acts r (take n vs) no_log) ∙ sym (notes_on r (take n vs) (take 1 (drop n vs)))
    ∙ ap (all_notes r) (sym (take_more n vs)) ∙ sym (events_acts r (take (suc n) vs) no_log)
counted_notes r false n vs = append_none (map (λ m. m.1) (log_events r (take n vs) no_log).deeds)
