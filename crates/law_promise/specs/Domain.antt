-- Abstract domains: what an analysis says of one application at each moment and before each instruction, and what is to
-- be shown of it, one instruction at a time. What a domain says of a state is the concretisation of the keys that its
-- tables have (Cousot and Cousot, POPL 1977). A proof outline is a domain whose moments all say the same.
use Rattle.std.specs.Prelude.{◌≡◌, ◌⊎◌, ℕ, ◌≤◌, Bool, true, false, cond, nat_lt, List, [], ◌∷◌, length, None, Some, Option, Result, Ok, Err, bytes_eq, ⊤}
use Rattle.std.specs.List.{AllByRecursion}
use Rattle.model_events.specs.model_machine.specs.declared.instruction.Ins.{Ins}
use Rattle.model_events.specs.model_machine.specs.declared.instruction.DecodeFault.{DecodeFault}
use Rattle.model_events.specs.model_machine.specs.declared.machine.Abend.{Abend}
use Rattle.model_events.specs.model_machine.specs.declared.machine.Abend.TheVariants.{A07, A09}
use Rattle.model_events.specs.model_device.specs.Bytes.{AreBytes, zeros, lookup}
use Rattle.model_events.specs.model_device.specs.Card.{App}
use Rattle.model_events.specs.model_device.specs.PowerUp.{Base, OnCard, AtFault}
use Rattle.model_events.specs.model_machine.specs.Apdu.{ApduParts}
use Rattle.model_events.specs.model_machine.specs.Code.{instruction_at}
use Rattle.model_events.specs.model_machine.specs.Frame.{Frame, new_frame, new_public, session_of, la_of}
use Rattle.model_events.specs.model_machine.specs.Primitives.{Around, Then, Goes, Exits, Delegates, Done}
use Rattle.model_events.specs.model_machine.specs.Row.{RowEnd, Abends, Does, row}
use Rattle.model_events.specs.model_machine.specs.Chain.{Outcome, Reply, Abended, frame_at}
use Rattle.law_bytes.specs.model_card.specs.Items.{Item, moves, StopAt}
use Rattle.law_bytes.specs.model_card.specs.Manager.{Selected, ToApplication, route}
use Rattle.law_bytes.specs.model_play.specs.DeckGrammar.{DeckLine}
use Rattle.law_bytes.specs.model_play.specs.DeckGrammar as line
use Rattle.law_bytes.specs.model_play.specs.Play.{Live, Running, Unpowered, Muted, State, BeforePower, AfterPower, FailedWrite, Step, plays, start}
use Rattle.model_events.specs.model_device.specs.Device.{IsImage}
use Rattle.law_bytes.specs.model_play.specs.ReadyAgain.{IsLine}
use Rattle.law_bytes.specs.OfChains.{IsName, IsByteCommand}
use Rattle.model_events.specs.Deeds.{Watch, Deed}
use Rattle.law_promise.specs.History.{with_event, is_too_long, done_event, fetch_cause, after_step}
use Rattle.law_promise.specs.Along.{BringsOnly, stopped_step, OnAnswer, command_for}
use Rattle.law_promise.specs.Outline.{Entry, BySelection, ByDelegation, is_direct, FitsEntry, reply_to, public_size}
use Rattle.law_promise.specs.Kept.{IsLike}

-- A domain: the application as it is created, what is counted of it, and what the domain says of a history, of static
-- bytes and of session bytes.
pub record Domain (E : Type 0) : Type 1 where
  pub watch : Watch E
  pub app : App
  -- stops are covered anywhere, and not at device writes alone
  pub anywhere : Type 0
  -- it covers plays of bytes alone; its moments may then use that all is bytes, and that names have 5 to 16 of them
  pub of_bytes : Type 0
  -- while the application is not on the card
  pub gone : List E → Type 0
  -- whenever it is not selected and none of its frames runs or waits
  pub idle : List E → List ℕ → Type 0
  -- between two commands of a session
  pub session : List E → List ℕ → List ℕ → Type 0
  -- before the instruction at the frame's place: besides, of the public segment
  pub at : Entry E → List E → Frame → List ℕ → Type 0
  -- of a command that was answered: the history before it and after its answer, and the status
  pub answers : ApduParts → List E → List E → ℕ → Type 0

-- ---- bytes

-- a public segment: it is whole, and of bytes if the domain is of bytes
abbrev pub IsSegment : {E : Type 0} → Domain E → List ℕ → Type 0
IsSegment o public = (public_size ≤ length public) × (o.of_bytes → AreBytes public)

-- the name of a delegator, if there is one, has 5 to 16 bytes
abbrev pub IsDelegator : Option (List ℕ) → Type 0
IsDelegator None = ⊤
IsDelegator (Some name) = IsName name

-- ---- ends

-- what the domain says of an answer, if it is a reply
abbrev pub AnswerCovered : {E : Type 0} → Domain E → List ℕ → ApduParts → List E → List E → Outcome → Type 0
AnswerCovered o bytes apdu before k (Reply body sw) = o.answers apdu before (with_event (o.watch.of_answer bytes (Reply body sw)) k) sw
AnswerCovered o bytes apdu before k (Abended cause) = ⊤

-- The end of a frame: a command is answered and its session goes on; a delegation ends, and no frame is left.
abbrev pub EndCovered : {E : Type 0} → Domain E → Entry E → List E → List ℕ → List ℕ → Outcome → Type 0
EndCovered o (BySelection bytes apdu before) k fixed session outcome = o.session (with_event (o.watch.of_answer bytes outcome) k) fixed session
EndCovered o ByDelegation k fixed session outcome = o.idle k fixed

-- A stop while a frame runs or waits: the session ends, of the application if it was selected.
abbrev pub StopCovered : {E : Type 0} → Domain E → Entry E → List E → List ℕ → Type 0
StopCovered o e k fixed = o.idle (with_event (o.watch.of_end (is_direct e)) k) fixed

-- an exit: abend 09 if the reply would be above 1,024 bytes
abbrev pub exit_outcome : ApduParts → List ℕ → Outcome
exit_outcome apdu public = cond (nat_lt 1024 (la_of public)) (Abended A09) (reply_to apdu public)

-- the exit of a frame, whose session bytes are those before the instruction
abbrev pub ExitCovered : {E : Type 0} → Domain E → Entry E → List E → Frame → Done → Type 0
ExitCovered o (BySelection bytes apdu before) k f d =
    let outcome = exit_outcome apdu d.effect.public in
    EndCovered o (BySelection bytes apdu before) k d.effect.frame.fixed (session_of f) outcome
    × AnswerCovered o bytes apdu before k outcome
    × (o.anywhere → StopCovered o (BySelection bytes apdu before) k d.effect.frame.fixed)
ExitCovered o ByDelegation k f d = o.idle k d.effect.frame.fixed

-- whether an abend is one of an instruction, of a fetch or of the budget: not 09, which an exit alone has
abbrev pub IsRowCause : Abend → Type 0
IsRowCause A09 = ⊥
IsRowCause cause = ⊤

-- A delegation: it is refused or comes back, with any public segment; a delegate abends; or power goes in it.
pub record DelegationCovered {E : Type 0} (o : Domain E) (e : Entry E) (k : List E) (f : Frame) : Type 0 where
  pub back : (p : List ℕ) → IsSegment o p → o.at e k f p
  pub abends : (cause : Abend) → IsRowCause cause → EndCovered o e k f.fixed (session_of f) (Abended cause)
  pub stops : StopCovered o e k f.fixed

-- ---- one instruction

-- what an instruction leads to: the next place, an exit or a delegation
abbrev pub NextCovered : {E : Type 0} → Domain E → Entry E → List E → Frame → Done → Then → Type 0
NextCovered o e k f d Goes = o.at e k d.effect.frame d.effect.public
NextCovered o e k f d Exits = ExitCovered o e k f d
NextCovered o e k f d (Delegates n) = DelegationCovered o e k d.effect.frame

-- a write of static bytes: a stop in it leaves the bytes and the history before it, or those after it
abbrev pub WriteCovered : {E : Type 0} → Domain E → Entry E → List E → List E → Frame → Done → Option (List (ℕ × List ℕ)) → Type 0
WriteCovered o e h k f d None = ⊤
WriteCovered o e h k f d (Some ps) = StopCovered o e h f.fixed × StopCovered o e k d.effect.frame.fixed

-- an instruction that was done, with its event
pub record DeedCovered {E : Type 0} (o : Domain E) (e : Entry E) (h k : List E) (f : Frame) (d : Done) : Type 0 where
  pub write : WriteCovered o e h k f d d.effect.changes
  pub next : NextCovered o e k f d d.next

-- an abend of the instruction, with its event
pub record AbendCovered {E : Type 0} (o : Domain E) (e : Entry E) (k : List E) (f : Frame) (cause : Abend) : Type 0 where
  pub ends : EndCovered o e k f.fixed (session_of f) (Abended cause)
  pub stops : o.anywhere → StopCovered o e k f.fixed

-- the end of a row
abbrev pub RowCovered : {E : Type 0} → Domain E → Entry E → List E → Frame → List ℕ → ℕ → Ins → RowEnd → Type 0
RowCovered o e h f public depth i (Abends cause) = AbendCovered o e (with_event (o.watch.of_abend f.at cause) h) f cause
RowCovered o e h f public depth i (Does d) =
    let deed : Deed = record { frame = f; public = public; direct = is_direct e; depth = depth; ins = i; effect = d.effect } in
    DeedCovered o e h (with_event (done_event (is_too_long (is_direct e) d.next d.effect.public) o.watch deed) h) f d

-- what is fetched at a place: no instruction abends
abbrev pub FetchCovered : {E : Type 0} → Domain E → Entry E → List E → Frame → List ℕ → ℕ → Around → Result (Ins × ℕ) DecodeFault → Type 0
FetchCovered o e h f public depth x (Err fault) = AbendCovered o e (with_event (o.watch.of_abend f.at (fetch_cause fault)) h) f (fetch_cause fault)
FetchCovered o e h f public depth x (Ok i) = RowCovered o e h f public depth i.0 (row i.0 (frame_at f i.1) public x)

-- the number of frames: one for a command, two to four for a delegation
abbrev pub FitsDepth : {E : Type 0} → Entry E → ℕ → Type 0
FitsDepth (BySelection bytes apdu before) depth = depth ≡ 1
FitsDepth ByDelegation depth = (2 ≤ depth) × (depth ≤ 4)

-- ---- what is to be shown of a domain

-- a frame of the application before its first instruction
abbrev pub first_frame_in : {E : Type 0} → Domain E → List ℕ → List ℕ → Frame
first_frame_in o fixed session = new_frame o.watch.name (length o.app.code) o.app.deny fixed session

-- each part is about one moment or one instruction
pub record IsSound {E : Type 0} (o : Domain E) : Type 0 where
  -- at first it is not on the card; then it is created, and may be deleted while it is not selected
  pub none : o.gone []
  pub created : o.idle [] o.app.fixed
  pub deleted : (h : List E) (fixed : List ℕ) → o.idle h fixed → o.gone h
  -- power is lost, or another is selected, while it is not on the card or not selected
  pub gone_on : (h : List E) → o.gone h → o.gone (with_event (o.watch.of_end false) h)
  pub idle_on : (h : List E) (fixed : List ℕ) → o.idle h fixed → o.idle (with_event (o.watch.of_end false) h) fixed
  -- it is selected: its session bytes are zero
  pub selected : (h : List E) (fixed : List ℕ) → o.idle h fixed → o.session (with_event (o.watch.of_selection false) h) fixed (zeros o.app.session)
  pub selected_again : (h : List E) (fixed session : List ℕ) → o.session h fixed session → o.session (with_event (o.watch.of_selection true) h) fixed (zeros o.app.session)
  -- its session ends
  pub ended : (h : List E) (fixed session : List ℕ) → o.session h fixed session → o.idle (with_event (o.watch.of_end true) h) fixed
  -- a command begins in a session
  pub begins : (bytes : List ℕ) (apdu : ApduParts) (h : List E) (fixed session : List ℕ) → route bytes ≡ ToApplication apdu → (o.of_bytes → IsByteCommand apdu) → o.session h fixed session → length session ≡ o.app.session
      → o.at (BySelection bytes apdu h) (with_event (o.watch.of_command bytes apdu) h) (first_frame_in o fixed session) (new_public apdu)
  -- a delegation begins with zero session bytes and any public segment
  pub entered : (h : List E) (fixed public : List ℕ) → o.idle h fixed → IsSegment o public
      → o.at ByDelegation h (first_frame_in o fixed (zeros o.app.session)) public
  -- each instruction leads to what the domain covers
  pub turn : (e : Entry E) (h : List E) (f : Frame) (public : List ℕ) (depth : ℕ) (x : Around) → o.at e h f public → FitsEntry e x → FitsDepth e depth → (o.of_bytes → IsDelegator x.delegator) → IsSegment o public
      → FetchCovered o e h f public depth x (instruction_at o.app.code f.at)
  -- the budget may end at each place
  pub spent : (e : Entry E) (h : List E) (f : Frame) (public : List ℕ) → o.at e h f public → EndCovered o e h f.fixed (session_of f) (Abended A07)
  -- where stops are covered anywhere, they are at each place and at each moment
  pub place_stops : o.anywhere → (e : Entry E) (h : List E) (f : Frame) (public : List ℕ) → o.at e h f public → StopCovered o e h f.fixed
  pub gone_stops : o.anywhere → (was : Bool) (h : List E) → o.gone h → o.gone (with_event (o.watch.of_end was) h)
  pub idle_stops : o.anywhere → (was : Bool) (h : List E) (fixed : List ℕ) → o.idle h fixed → o.idle (with_event (o.watch.of_end was) h) fixed
  pub session_stops : o.anywhere → (was : Bool) (h : List E) (fixed session : List ℕ) → o.session h fixed session → o.idle (with_event (o.watch.of_end was) h) fixed

-- ---- what a domain covers of a play

-- the application where it is not selected, or gone
abbrev pub IdleCovered : {E : Type 0} → Domain E → List E → Option App → Type 0
IdleCovered o h None = o.gone h
IdleCovered o h (Some a) = IsLike o.app a × o.idle h a.fixed

-- in a session: it is there, with its number of session bytes
abbrev pub SessionCovered : {E : Type 0} → Domain E → List E → Option App → List ℕ → Type 0
SessionCovered o h None session = ⊥
SessionCovered o h (Some a) session = IsLike o.app a × o.session h a.fixed session × (length session ≡ o.app.session)

-- if a selection is of the application
abbrev pub CoveredIf : {E : Type 0} → Bool → Domain E → List E → Option App → List ℕ → Type 0
CoveredIf true o h found session = SessionCovered o h found session
CoveredIf false o h found session = IdleCovered o h found

-- by what is selected
abbrev pub SelectedCovered : {E : Type 0} → Domain E → List E → Option App → Option Selected → Type 0
SelectedCovered o h found None = IdleCovered o h found
SelectedCovered o h found (Some s) = CoveredIf (bytes_eq s.name o.watch.name) o h found s.session

-- on a card that runs or not
abbrev pub LiveCovered : {E : Type 0} → Domain E → List E → Option App → Live → Type 0
LiveCovered o h found (Running session_state) = SelectedCovered o h found session_state.selected
LiveCovered o h found Unpowered = IdleCovered o h found
LiveCovered o h found Muted = IdleCovered o h found

-- on the card that the first power line found, or on none
abbrev pub BaseCovered : {E : Type 0} → Domain E → List E → Base → Live → Type 0
BaseCovered o h (OnCard c) v = LiveCovered o h (lookup c.apps o.watch.name) v
BaseCovered o h (AtFault cause p) v = LiveCovered o h None v

-- in a state of a play
abbrev pub StateCovered : {E : Type 0} → Domain E → List E → State → Type 0
StateCovered o h (BeforePower m b a) = o.gone h
StateCovered o h (AfterPower s) = BaseCovered o h s.base s.live

-- what is covered of a line: the state after it, and the answer to a command of the selected application
abbrev pub LineCovered : {E : Type 0} → Domain E → List E → Step → List E → Type 0
LineCovered o before t after = StateCovered o after t.after × OnAnswer (λ a sw. o.answers a before after sw) (command_for o.watch.name t.before t.line) t.result

-- ---- along a play

-- a stop comes at one of the device writes of some items
abbrev pub StopsInWrite : List Item → Option StopAt → Type 0
StopsInWrite is None = ⊤
StopsInWrite is (Some s) = (1 ≤ s.at) × (s.at ≤ moves is)

-- a stop in a command comes at one of its device writes
abbrev pub LineStopsInWrite : DeckLine → List Item → Option StopAt → Type 0
LineStopsInWrite (line.Sent sent) is s = StopsInWrite is s
LineStopsInWrite _ is s = ⊤

-- so does the stop of a line that was played
abbrev pub StopsAtWrite : Step → Type 0
StopsAtWrite t = LineStopsInWrite t.line t.items t.stop

-- After each line of a play, and after each device write at which it could be stopped, as long as no other application
-- came under the name and stops come at device writes, or at all if `anywhere`: `says` holds of the history before the
-- line, of the line, and of the history after it.
abbrev pub AlongWrites : {E : Type 0} → Watch E → App → Type 0 → (List E → Step → List E → Type 0) → List E → List Step → Type 0
AlongWrites w app anywhere says h [] = ⊤
AlongWrites w app anywhere says h (t ∷ ts) =
    (BringsOnly w.name app t → anywhere ⊎ StopsAtWrite t → says h t (after_step w t h) × AlongWrites w app anywhere says (after_step w t h) ts)
    × ((c : FailedWrite) → BringsOnly w.name app (stopped_step t c) → anywhere ⊎ StopsAtWrite (stopped_step t c) → says h (stopped_step t c) (after_step w (stopped_step t c) h))

-- for every deck, every image and every list of failed writes; of lines and words of bytes if the domain is of bytes
abbrev pub IsCovered : {E : Type 0} → Domain E → Type 0
IsCovered o =
    (ls : List (ℕ × DeckLine)) (m : List (List ℕ)) (ws : List (Option FailedWrite)) → (o.of_bytes → AllByRecursion (λ l. IsLine l.1) ls) → (o.of_bytes → IsImage m)
    → AlongWrites o.watch o.app o.anywhere (LineCovered o) [] (plays (start m) ls ws)
