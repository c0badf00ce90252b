-- Proof outlines: what an application's writer says of its static bytes, of its sessions and of each place of its code,
-- and what is to be shown of it, one instruction at a time.
use Rattle.std.specs.Prelude.{◌≡◌, ℕ, ◌≤◌, Bool, true, false, min, List, [], length, take, unwrap_or, is_some, None, Result, Ok, Err, ⊤}
use Rattle.model_events.specs.model_machine.specs.declared.instruction.Ins.{Ins}
use Rattle.model_events.specs.model_machine.specs.declared.instruction.DecodeFault.{DecodeFault}
use Rattle.model_events.specs.model_machine.specs.declared.machine.Abend.{Abend}
use Rattle.model_events.specs.model_device.specs.Bytes.{zeros}
use Rattle.model_events.specs.model_device.specs.Card.{App}
use Rattle.model_events.specs.model_machine.specs.Apdu.{ApduParts, apdu_case}
use Rattle.model_events.specs.model_machine.specs.Code.{instruction_at}
use Rattle.model_events.specs.model_machine.specs.Frame.{Frame, new_frame, new_public, session_of, sw_of, la_of}
use Rattle.model_events.specs.model_machine.specs.Primitives.{Around, Then, Goes, Exits, Delegates, Done}
use Rattle.model_events.specs.model_machine.specs.Row.{RowEnd, Abends, Does, row}
use Rattle.model_events.specs.model_machine.specs.Chain.{Outcome, Reply, frame_at}
use Rattle.model_events.specs.Deeds.{Watch}
use Rattle.law_promise.specs.History.{with_event}

-- how a frame began: by a command to the selected application, its bytes and parts, with the history before it; or by a
-- delegation
pub data Entry (E : Type 0) : Type 0 where
  BySelection : (bytes : List ℕ) (apdu : ApduParts) (before : List E) → Entry E
  ByDelegation : Entry E

-- An outline: the application as it is created, what is counted of it, and what its writer says.
pub record Outline (E : Type 0) : Type 1 where
  pub watch : Watch E
  pub app : App
  -- of the history and the static bytes, whenever power may go
  pub keeps : List E → List ℕ → Type 0
  -- besides, of the session bytes, between two commands of a session
  pub holds : List E → List ℕ → List ℕ → Type 0
  -- before the instruction at the frame's place: of the history, the frame and the public segment
  pub at : Entry E → List E → Frame → List ℕ → Type 0
  -- of a command that is answered: the history before it and after it, and the status
  pub answers : ApduParts → List E → List E → ℕ → Type 0

-- ---- one instruction

-- the frame was begun by the selection
abbrev pub is_direct : {E : Type 0} → Entry E → Bool
is_direct (BySelection bytes apdu before) = true
is_direct ByDelegation = false

-- what is known around a frame that began so: one that a delegation began has a delegator
abbrev pub FitsEntry : {E : Type 0} → Entry E → Around → Type 0
FitsEntry (BySelection bytes apdu before) x = (x.case ≡ apdu_case apdu) × (x.delegator ≡ None)
FitsEntry ByDelegation x = is_some x.delegator ≡ true

-- the reply to a command, by the public segment at its exit
abbrev pub reply_to : ApduParts → List ℕ → Outcome
reply_to apdu public = Reply (take (min (la_of public) (unwrap_or apdu.le 0)) public) (sw_of public)

-- the number of bytes of a public segment
abbrev pub public_size : ℕ
public_size = 1041

-- the exit of a frame: one that the selection began ends its command, whose session bytes are those before the
-- instruction
abbrev pub ExitShown : {E : Type 0} → Outline E → Entry E → List E → Frame → Done → Type 0
ExitShown o (BySelection bytes apdu before) k f d =
    o.holds k d.effect.frame.fixed (session_of f)
    × o.answers apdu before (with_event (o.watch.of_answer bytes (reply_to apdu d.effect.public)) k) (sw_of d.effect.public)
ExitShown o ByDelegation k f d = ⊤

-- what an instruction leads to: the next place; after a delegation the next place with whatever public segment comes
-- back; or an exit
abbrev pub NextShown : {E : Type 0} → Outline E → Entry E → List E → Frame → Done → Then → Type 0
NextShown o e k f d Goes = o.at e k d.effect.frame d.effect.public
NextShown o e k f d Exits = ExitShown o e k f d
NextShown o e k f d (Delegates n) = (p : List ℕ) → public_size ≤ length p → o.at e k d.effect.frame p

-- with its event, what keeps holds of the static bytes after it
pub record DeedShown {E : Type 0} (o : Outline E) (e : Entry E) (k : List E) (f : Frame) (d : Done) : Type 0 where
  pub keeps : o.keeps k d.effect.frame.fixed
  pub next : NextShown o e k f d d.next

-- the end of a row: an abend asks for nothing
abbrev pub RowShown : {E : Type 0} → Outline E → Entry E → List E → Frame → List ℕ → ℕ → Ins → RowEnd → Type 0
RowShown o e h f public depth i (Abends cause) = ⊤
RowShown o e h f public depth i (Does d) =
    DeedShown o e (with_event (o.watch.of_deed (record { frame = f; public = public; direct = is_direct e; depth = depth; ins = i; effect = d.effect })) h) f d

-- what is fetched at a place: no instruction abends
abbrev pub FetchShown : {E : Type 0} → Outline E → Entry E → List E → Frame → List ℕ → ℕ → Around → Result (Ins × ℕ) DecodeFault → Type 0
FetchShown o e h f public depth x (Err fault) = ⊤
FetchShown o e h f public depth x (Ok i) = RowShown o e h f public depth i.0 (row i.0 (frame_at f i.1) public x)

-- ---- what is to be shown of an outline

-- a frame of the application before its first instruction
abbrev pub first_frame_of : {E : Type 0} → Outline E → List ℕ → List ℕ → Frame
first_frame_of o fixed session = new_frame o.watch.name (length o.app.code) o.app.deny fixed session

-- a history keeps what another keeps and holds of the same bytes
pub record GoesOn {E : Type 0} (o : Outline E) (h k : List E) (fixed : List ℕ) : Type 0 where
  pub keeps : o.keeps h fixed → o.keeps k fixed
  pub holds : (session : List ℕ) → o.keeps h fixed → o.holds h fixed session → o.holds k fixed session

-- each part is about one moment or one instruction
pub record IsShown {E : Type 0} (o : Outline E) : Type 0 where
  -- the bytes of a new application keep it, with an empty history
  pub created : o.keeps [] o.app.fixed
  -- so do its bytes after a new selection, and what holds of zero session bytes
  pub selected : (was : Bool) (h : List E) (fixed : List ℕ) → o.keeps h fixed
      → o.keeps (with_event (o.watch.of_selection was) h) fixed × o.holds (with_event (o.watch.of_selection was) h) fixed (zeros o.app.session)
  -- and at the end of a session
  pub ended : (was : Bool) (h : List E) (fixed : List ℕ) → o.keeps h fixed → o.keeps (with_event (o.watch.of_end was) h) fixed
  -- a command begins with what keeps and what holds; with its event, its bytes keep it
  pub begins : (bytes : List ℕ) (apdu : ApduParts) (h : List E) (fixed session : List ℕ) → o.keeps h fixed → o.holds h fixed session → length session ≡ o.app.session
      → o.keeps (with_event (o.watch.of_command bytes apdu) h) fixed × o.at (BySelection bytes apdu h) (with_event (o.watch.of_command bytes apdu) h) (first_frame_of o fixed session) (new_public apdu)
  -- a delegation begins with zero session bytes and any public segment
  pub entered : (h : List E) (fixed public : List ℕ) → o.keeps h fixed → public_size ≤ length public
      → o.at ByDelegation h (first_frame_of o fixed (zeros o.app.session)) public
  -- each instruction leads to what it has to
  pub turn : (e : Entry E) (h : List E) (f : Frame) (public : List ℕ) (depth : ℕ) (x : Around) → o.at e h f public → o.keeps h f.fixed → FitsEntry e x → public_size ≤ length public
      → FetchShown o e h f public depth x (instruction_at o.app.code f.at)
  -- a command may end with an abend at each place, and its session goes on
  pub abends : (bytes : List ℕ) (apdu : ApduParts) (before h : List E) (f : Frame) (public : List ℕ) → o.at (BySelection bytes apdu before) h f public → o.keeps h f.fixed
      → o.holds h f.fixed (session_of f)
  -- the event of an abend keeps it
  pub failed : (at : ℕ) (cause : Abend) (h : List E) (fixed : List ℕ) → GoesOn o h (with_event (o.watch.of_abend at cause) h) fixed
  -- and that of an answer
  pub answered : (bytes : List ℕ) (outcome : Outcome) (h : List E) (fixed : List ℕ) → GoesOn o h (with_event (o.watch.of_answer bytes outcome) h) fixed
