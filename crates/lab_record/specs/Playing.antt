-- A line that was played, and what it did to what is counted of an application.
use Rattle.std.specs.Prelude.{◌≡◌, ℕ, Bool, cond, List, [], ◌∷◌, ◌++◌, drop, false, length, map, take, is_some, Option, Some, None}
use Rattle.mc_words.specs.model_device.specs.PowerUp.{Base, OnCard, AtFault}
use Rattle.mc_apdu.specs.model_machine.specs.Chain.{Outcome}
use Rattle.law_events.specs.law_promise.specs.model_play.specs.DeckGrammar.{DeckLine}
use Rattle.law_events.specs.law_promise.specs.model_play.specs.Play.{State, BeforePower, AfterPower, Live, Running, Unpowered, Muted, Step}
use Rattle.law_events.specs.law_promise.specs.model_play.specs.TraceText.{before_stop, shown_turns}
use Rattle.law_events.specs.law_promise.specs.History.{after_step, is_selected_in}
use Rattle.mc_bank.specs.model_card.specs.Items.{StopAt, moves}
use Rattle.law_events.specs.law_promise.specs.model_play.specs.Given.{is_power}
use Rattle.law_events.specs.Laws.{Hits}
use Rattle.law_events.specs.Events.{has_session, is_done, is_durable_at, line_events, outcome_in, own_command, passed_command}
use Rattle.mc_script.specs.Runs.{line_bytes}
use Rattle.mc_script.specs.Watching.{seen_of}
use Rattle.lab_app_rules.specs.model_rules.specs.Happenings.{Event, rule_watch}
use Rattle.lab_app_rules.specs.declared.rules.Rules.{Rules}
use Rattle.lab_history.specs.declared.course.Course.{Course}
use Rattle.lab_record.specs.declared.recording.Played.{Played}
use Rattle.lab_record.specs.Courses.{answer_lines, command_lines, is_stop, session_from}
use Rattle.lab_record.specs.Logs.{Applies, DeedValue, Log, LogRules, Sight, is_protected, log_event, log_events, no_log, sight, values_of}
use Rattle.lab_record.specs.Recorders.{log_rules}

-- ---- the instructions of a line

-- what is seen of the instructions of a line if a card runs: of those of the command that it sends, if no stop hits it
abbrev pub sights_of_live : Live → Base → ℕ → DeckLine → List Sight
sights_of_live (Running s) (OnCard c) budget l = seen_of sight (record { card = c; session_state = s; bytes = line_bytes l; budget = budget })
sights_of_live (Running s) (AtFault cause p) budget l = []
sights_of_live Unpowered base budget l = []
sights_of_live Muted base budget l = []

-- what is seen of the instructions of a line in a state
unfoldable pub sights_of_line : State → DeckLine → List Sight
sights_of_line (BeforePower m b a) l = []
sights_of_line (AfterPower s) l = sights_of_live s.live s.base s.budget l

-- what is seen of the instructions of a line that was played, before the one that a stop hit
unfoldable pub sights_of_step : Step → List Sight
unfolding sights_of_line
sights_of_step t = take (length (shown_turns t.turns t.stop)) (sights_of_line t.before t.line)

-- the log of the events of the instructions of a line that was played, before the one that a stop hit
abbrev pub log_of_step : Rules → List ℕ → Step → Log
log_of_step r name t = log_events (log_rules r) (take (length (shown_turns t.turns t.stop)) (line_events name t.before t.line)) no_log

-- ---- the course of a line

-- A course of a line, by whether the application is selected before and after it, by how its command ended, and by its
-- deeds.
pub record IsCourse (r : Rules) (l : DeckLine) (was is : Bool) (outcome : Option Outcome) (acts : List (ℕ × DeedValue)) (c : Course) : Type 0 where
  pub was_selected : c.was_selected ≡ was
  pub has_session : c.has_session ≡ has_session l (is_done outcome) was is
  pub command : c.command.items ≡ command_lines r.ons.items (own_command was l)
  pub answer : c.answer.items ≡ answer_lines r.ons.items (own_command was l) outcome
  pub deeds : values_of c.deeds.items ≡ acts

-- ---- the events of a line

-- what rules note of an event: the `on` lines that it applies, and what it does to sums
abbrev pub event_notes : LogRules → Event → List DeedValue
event_notes r e = map (λ n. n.1) (log_event r (is_protected (Some e)) (Some e) no_log).deeds

-- what they note of a history, whose newest event comes first, in the order of its events
abbrev pub notes_of : LogRules → List Event → List DeedValue
notes_of r [] = []
notes_of r (e ∷ h) = notes_of r h ++ event_notes r e

-- what a course of a whole line notes, in order
abbrev pub course_notes : LogRules → Course → List DeedValue
course_notes r c = map Applies c.command.items ++ map (λ n. n.1) (values_of c.deeds.items) ++ map Applies c.answer.items ++ cond c.has_session (map Applies (session_from 0 r.ons)) []

-- what they note of an event, if there is one
abbrev pub option_notes : LogRules → Option Event → List DeedValue
option_notes r None = []
option_notes r (Some e) = event_notes r e

-- what they note of several, in order
abbrev pub all_notes : LogRules → List (Option Event) → List DeedValue
all_notes r [] = []
all_notes r (v ∷ vs) = option_notes r v ++ all_notes r vs

-- what they note of the instruction that a stop hits: of its event, exactly if its write is durable
abbrev pub hit_notes : LogRules → List ℕ → Step → StopAt → List DeedValue
hit_notes r name t s =
    cond (is_durable_at t.turns s.at s.left) (all_notes r (take 1 (drop (length (before_stop t.turns s.at)) (line_events name t.before t.line)))) []

-- what a course of a line that a stop hit notes, in order, with what is noted of the instruction that it hit: the stop ends
-- the session that there is
abbrev pub stopped_notes : LogRules → Course → List DeedValue → List DeedValue
stopped_notes r c hit = map Applies c.command.items ++ (map (λ n. n.1) (values_of c.deeds.items) ++ hit) ++ map Applies c.answer.items ++ cond c.was_selected (map Applies (session_from 0 r.ons)) []

-- What was recorded of a line is what it did to what is counted of the application with a name. It is exactly what the
-- rules note of the line's events, in their order; if a stop hit the line, with the event of the instruction that it hit.
pub record IsPlayed (r : Rules) (name : List ℕ) (t : Step) (p : Played) : Type 0 where
  pub course : IsCourse r t.line (is_selected_in name t.before) (is_selected_in name t.after) (outcome_in t.result) (log_of_step r name t).deeds p.course
  pub turns : p.turns ≡ (log_of_step r name t).turns
  pub is_stopped : p.is_stopped ≡ is_stop t.result
  pub has_begun : p.has_begun ≡ is_some (passed_command t.line)
  pub whole : t.stop ≡ None → course_notes (log_rules r) p.course ≡ notes_of (log_rules r) (after_step (rule_watch name) t [])
  pub stopped : (s : StopAt) → t.stop ≡ Some s → (is_power t.line ≡ false → Hits (moves t.items) (Some s)) → stopped_notes (log_rules r) p.course (hit_notes (log_rules r) name t s) ≡ notes_of (log_rules r) (after_step (rule_watch name) t [])
