-- What happened to one application in a play, as its writer counts it: the events of its turns, of commands to it and
-- their answers, of selections and of the ends of sessions, since its creation. A history has the newest event first.
use Rattle.std.specs.Prelude.{ℕ, zero, suc, ◌-◌, Bool, true, false, cond, nat_lt, nat_le, List, [], ◌∷◌, bytes_eq, Option, Some, None, Result, Ok, Err}
use Rattle.model_events.specs.model_machine.specs.declared.instruction.Ins.{Ins}
use Rattle.model_events.specs.model_machine.specs.declared.instruction.DecodeFault.{DecodeFault}
use Rattle.model_events.specs.model_machine.specs.declared.instruction.DecodeFault.TheVariants.{Undefined, Past}
use Rattle.model_events.specs.model_machine.specs.declared.machine.Abend.{Abend}
use Rattle.model_events.specs.model_machine.specs.declared.machine.Abend.TheVariants.{A01, A02, A09}
use Rattle.model_events.specs.model_device.specs.Bytes.{lookup}
use Rattle.model_events.specs.model_device.specs.Image.{Two}
use Rattle.model_events.specs.model_device.specs.Stopped.{cost, stands}
use Rattle.model_events.specs.model_device.specs.Card.{Card}
use Rattle.model_events.specs.model_device.specs.PowerUp.{Base, OnCard}
use Rattle.model_events.specs.model_machine.specs.Apdu.{ApduParts}
use Rattle.model_events.specs.model_machine.specs.Code.{instruction_at}
use Rattle.model_events.specs.model_machine.specs.Frame.{Frame, la_of}
use Rattle.model_events.specs.model_machine.specs.Primitives.{Then, Goes, Exits, Delegates}
use Rattle.model_events.specs.model_machine.specs.Row.{RowEnd, Abends, Does, row}
use Rattle.model_events.specs.model_machine.specs.Chain.{Chain, Write, Follows, Continues, Ends, code_in, frame_at, around, turn_of_chain, depth_of, start}
use Rattle.law_bytes.specs.model_card.specs.Items.{Fixed, Created, Deleted, Item, Plain, Atomic, StopAt}
use Rattle.law_bytes.specs.model_card.specs.Manager.{Selected, SessionState, Route, WrongLength, WrongClass, ToSelect, ToManager, ToApplication, route, Managed, Declines, Accepts, select, is_selected}
use Rattle.law_bytes.specs.model_play.specs.DeckGrammar.{DeckLine}
use Rattle.law_bytes.specs.model_play.specs.DeckGrammar as line
use Rattle.law_bytes.specs.model_play.specs.Play.{Live, Running, Unpowered, Muted, State, BeforePower, AfterPower, LineResult, Answered, Step, select_bytes, delete_bytes}
use Rattle.model_events.specs.Deeds.{Deed, Watch}

-- ---- events

-- a history with an event more, if there is one
abbrev pub with_event : {E : Type 0} → Option E → List E → List E
with_event None h = h
with_event (Some e) h = e ∷ h

-- ---- the turns of a run

-- no frame lies below: the frame was begun by the selection
abbrev pub is_first : List Frame → Bool
is_first [] = true
is_first (f ∷ fs) = false

-- whether an exit of a frame that the selection began ends with abend 09: its reply would be above 1,024 bytes
abbrev pub is_too_long : Bool → Then → List ℕ → Bool
is_too_long direct Goes public = false
is_too_long direct (Delegates n) public = false
is_too_long direct Exits public = cond direct (nat_lt 1024 (la_of public)) false

-- the event of an instruction that was done, unless its exit abends
abbrev pub done_event : {E : Type 0} → Bool → Watch E → Deed → Option E
done_event true w d = w.of_abend d.frame.at A09
done_event false w d = w.of_deed d

-- the event of the end of a row, in a frame of the application
abbrev pub row_event : {E : Type 0} → Watch E → Chain → Ins → RowEnd → Option E
row_event w ch i (Abends cause) = w.of_abend ch.frame.at cause
row_event w ch i (Does d) =
    done_event (is_too_long (is_first ch.below) d.next d.effect.public) w
    (record { frame = ch.frame; public = ch.public; direct = is_first ch.below; depth = depth_of ch; ins = i; effect = d.effect })

-- the cause of a fetch that abends: 01 if it is no instruction, 02 if it is not whole in the code
abbrev pub fetch_cause : DecodeFault → Abend
fetch_cause Undefined = A01
fetch_cause Past = A02

-- the event of what was fetched
abbrev pub fetched_event : {E : Type 0} → Watch E → Chain → Result (Ins × ℕ) DecodeFault → Option E
fetched_event w ch (Err fault) = w.of_abend ch.frame.at (fetch_cause fault)
fetched_event w ch (Ok i) = row_event w ch i.0 (row i.0 (frame_at ch.frame i.1) ch.public (around ch))

-- the event of a turn in a frame of the application, or in another's
abbrev pub event_if : {E : Type 0} → Bool → Watch E → Chain → Option E
event_if true w ch = fetched_event w ch (instruction_at (code_in (lookup ch.map ch.frame.name)) ch.frame.at)
event_if false w ch = None

-- the event of the next turn of a chain
abbrev pub turn_event : {E : Type 0} → Watch E → Chain → Option E
turn_event w ch = event_if (bytes_eq ch.frame.name w.name) w ch

-- ---- a run, and a stop in it

-- a stop in a run: the number of its device write, and the word that it leaves
pub record CutAt : Type 0 where
  pub at : ℕ
  pub left : List ℕ

-- the cut of a stop
abbrev pub cut_of : Option StopAt → Option CutAt
cut_of None = None
cut_of (Some s) = Some (record { at = s.at; left = s.left })

-- a cut that comes after an atomic write of this many words
abbrev pub cut_after : ℕ → CutAt → CutAt
cut_after words c = record c { at = c.at - cost Two words }

-- the last turn of a cut run: it counts where its write is whole
abbrev pub last_turn : {E : Type 0} → Bool → Option E → List E → List E
last_turn true e h = with_event e h
last_turn false e h = h

-- a cut in the atomic write of a turn ends the run there; one that comes later does not
abbrev pub cut_turn : {E : Type 0} → Bool → Write → CutAt → Option E → List E → (Option CutAt → List E → List E) → List E
cut_turn true w c e h rest = last_turn (stands Two w.words c.at c.left) e h
cut_turn false w c e h rest = rest (Some (cut_after w.words c)) (with_event e h)

-- a turn with its atomic write, if it makes one, and what is run after it
abbrev pub after_writes : {E : Type 0} → List Write → Option CutAt → Option E → List E → (Option CutAt → List E → List E) → List E
after_writes [] c e h rest = rest c (with_event e h)
after_writes (w ∷ ws) None e h rest = rest None (with_event e h)
after_writes (w ∷ ws) (Some c) e h rest = cut_turn (nat_le c.at (cost Two w.words)) w c e h rest

-- the history after the rest of a run, where the chain goes on
abbrev pub after_follows : {E : Type 0} → Follows → (Chain → Option CutAt → List E → List E) → Option CutAt → List E → List E
after_follows (Ends o) rest c h = h
after_follows (Continues ch) rest c h = rest ch c h

-- The history after a chain was run with this budget, up to its cut, if it has one: the turns before the device write
-- that was cut, and the turn of that write exactly where it is whole.
unfoldable pub after_run : {E : Type 0} → Watch E → ℕ → Chain → Option CutAt → List E → List E
after_run w zero ch c h = h
after_run w (suc n) ch c h =
    let t = turn_of_chain ch in
    after_writes t.writes c (turn_event w ch) h (λ c h. after_follows t.follows (λ ch c h. after_run w n ch c h) c h)

-- ---- a command

-- a new selection: of the application, or of another, which ends a session; each knows whether it was selected before
abbrev pub selection_event : {E : Type 0} → Watch E → Bool → Bool → Option E
selection_event w true was = w.of_selection was
selection_event w false was = w.of_end was

-- a SELECT: one that is refused selects nothing
abbrev pub after_select : {E : Type 0} → Watch E → Option Selected → List ℕ → Managed → List E → List E
after_select w old n (Declines sw) h = h
after_select w old n (Accepts a) h = with_event (selection_event w (bytes_eq n w.name) (is_selected old w.name)) h

-- a command to the selected application: this one, or another
abbrev pub command_event : {E : Type 0} → Watch E → Bool → List ℕ → ApduParts → Option E
command_event w true bytes a = w.of_command bytes a
command_event w false bytes a = None

-- a command that is passed to the selected application
abbrev pub after_passed : {E : Type 0} → Watch E → Card → Option Selected → List ℕ → ApduParts → ℕ → Option CutAt → List E → List E
after_passed w c None bytes a budget cut h = h
after_passed w c (Some s) bytes a budget cut h =
    after_run w budget (start c.apps s.name s.session a) cut (with_event (command_event w (bytes_eq s.name w.name) bytes a) h)

-- a command by its route
abbrev pub after_route : {E : Type 0} → Watch E → Card → SessionState → List ℕ → ℕ → Route → Option CutAt → List E → List E
after_route w c session_state bytes budget WrongLength cut h = h
after_route w c session_state bytes budget WrongClass cut h = h
after_route w c session_state bytes budget (ToManager a) cut h = h
after_route w c session_state bytes budget (ToSelect a) cut h = after_select w session_state.selected a.body (select c.apps session_state a) h
after_route w c session_state bytes budget (ToApplication a) cut h = after_passed w c session_state.selected bytes a budget cut h

-- whether a command is for the application as the selected one
abbrev pub is_own_route : List ℕ → Option Selected → Route → Bool
is_own_route name selected WrongLength = false
is_own_route name selected WrongClass = false
is_own_route name selected (ToSelect a) = false
is_own_route name selected (ToManager a) = false
is_own_route name selected (ToApplication a) = is_selected selected name

-- the answer to a command of the application, by a reply or an abend; a command that a stop hits is not answered
abbrev pub with_answer : {E : Type 0} → Watch E → Bool → List ℕ → Option LineResult → List E → List E
with_answer w true bytes (Some (Answered o)) h = with_event (w.of_answer bytes o) h
with_answer w own bytes result h = h

-- ---- a line

-- a creation of the name begins its history anew
abbrev pub unless_created : {E : Type 0} → Bool → List E → List E
unless_created true h = []
unless_created false h = h

-- the history after the items of a line that are whole
abbrev pub after_items : {E : Type 0} → List ℕ → List Item → List E → List E
after_items n [] h = h
after_items n (Plain ∷ is) h = after_items n is h
after_items n (Atomic w (Fixed m ps) ∷ is) h = after_items n is h
after_items n (Atomic w (Created m a) ∷ is) h = after_items n is (unless_created (bytes_eq m n) h)
after_items n (Atomic w (Deleted m) ∷ is) h = after_items n is h

-- any stop ends the session
abbrev pub after_stop : {E : Type 0} → Watch E → Bool → Option StopAt → List E → List E
after_stop w selected None h = h
after_stop w selected (Some s) h = with_event (w.of_end selected) h

-- the one command of a line to a running card; the many of a load reach no application
abbrev pub command_in : DeckLine → Option (List ℕ)
command_in (line.Sent (line.Select n)) = Some (select_bytes n)
command_in (line.Sent (line.Delete n)) = Some (delete_bytes n)
command_in (line.Sent (line.Apdu b)) = Some b
command_in _ = None

-- what a line's command does, and its answer
abbrev pub after_command : {E : Type 0} → Watch E → Card → SessionState → ℕ → Option (List ℕ) → Option LineResult → Option CutAt → List E → List E
after_command w c session_state budget None result cut h = h
after_command w c session_state budget (Some b) result cut h =
    with_answer w (is_own_route w.name session_state.selected (route b)) b result (after_route w c session_state b budget (route b) cut h)

-- a card line other than power, on a running card or on none
abbrev pub after_taken : {E : Type 0} → Watch E → Live → Base → ℕ → Step → List E → List E
after_taken w (Running session_state) (OnCard c) budget t h =
    after_stop w (is_selected session_state.selected w.name) t.stop
    (after_command w c session_state budget (command_in t.line) t.result (cut_of t.stop) (after_items w.name t.whole h))
after_taken w live base budget t h = h

-- whether the application is selected on a card that runs
abbrev pub is_selected_on : List ℕ → Live → Bool
is_selected_on name (Running session_state) = is_selected session_state.selected name
is_selected_on name Unpowered = false
is_selected_on name Muted = false

-- whether it is selected in a state of a play
abbrev pub is_selected_in : List ℕ → State → Bool
is_selected_in name (BeforePower m b a) = false
is_selected_in name (AfterPower s) = is_selected_on name s.live

-- a line from a state; a power line ends the session that there is
abbrev pub after_line : {E : Type 0} → Watch E → State → Step → DeckLine → List E → List E
after_line w z t line.Power h = with_event (w.of_end (is_selected_in w.name z)) h
after_line w (BeforePower m b a) t _ h = h
after_line w (AfterPower s) t (line.Sent sent) h = after_taken w s.live s.base s.budget t h
after_line w (AfterPower s) t _ h = h

-- the history after a line that was played
abbrev pub after_step : {E : Type 0} → Watch E → Step → List E → List E
after_step w t h = after_line w t.before t t.line h

-- the history after lines that were played
abbrev pub after_steps : {E : Type 0} → Watch E → List Step → List E → List E
after_steps w [] h = h
after_steps w (t ∷ ts) h = after_steps w ts (after_step w t h)
