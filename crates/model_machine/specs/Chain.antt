-- A command to an application: frames that run instructions under a budget, delegate, exit and abend.
use Rattle.std.specs.Prelude.{ℕ, zero, suc, ◌+◌, Bool, true, false, cond, ◌||◌, nat_lt, nat_le, ◌==◌, min, List, [], ◌∷◌, ◌++◌, length, take, unwrap_or, bytes_eq, Option, Some, None, Result, Ok, Err}
use Rattle.model_machine.specs.declared.instruction.Ins.{Ins}
use Rattle.model_machine.specs.declared.instruction.DecodeFault.{DecodeFault}
use Rattle.model_machine.specs.declared.instruction.DecodeFault.TheVariants.{Undefined, Past}
use Rattle.model_machine.specs.declared.machine.Abend.{Abend}
use Rattle.model_machine.specs.declared.machine.Abend.TheVariants.{A01, A02, A07, A09}
use Rattle.model_device.specs.Bytes.{zeros, lookup, insert}
use Rattle.model_device.specs.Pieces.{laid_pieces, touched_words}
use Rattle.model_machine.specs.Apdu.{ApduParts, apdu_case}
use Rattle.model_machine.specs.Code.{instruction_at}
use Rattle.model_device.specs.Card.{App}
use Rattle.model_machine.specs.Frame.{Frame, Effect, new_frame, session_of, new_public, with_sw, sw_of, la_of}
use Rattle.model_machine.specs.Primitives.{Around, Then, Goes, Exits, Delegates, Done}
use Rattle.model_machine.specs.Row.{RowEnd, Abends, Does, row}

-- how a command ends: a reply of data and status, or an abend
pub data Outcome : Type 0 where
  Reply : (body : List ℕ) (sw : ℕ) → Outcome
  Abended : (cause : Abend) → Outcome

-- one atomic write: the application, the pieces laid over its static bytes, and the number of words that they touch
pub record Write : Type 0 where
  pub name : List ℕ
  pub pieces : List (ℕ × List ℕ)
  pub words : ℕ

-- One executed instruction, or a fetch that abends: the depth of its frame, the place, the instruction, DT and flags
-- after it (before it if the chain ends with an abend), the end, and the number of words of its atomic write.
pub record Turn : Type 0 where
  pub depth : ℕ
  pub at : ℕ
  pub ins : Option Ins
  pub dt : ℕ
  pub c : Bool
  pub z : Bool
  pub end : Option Outcome
  pub wrote : Option ℕ

-- a running chain: the applications, the running frame, the frames below it, the public segment, and the command
pub record Chain : Type 0 where
  pub map : List (List ℕ × App)
  pub frame : Frame
  pub below : List Frame
  pub public : List ℕ
  pub apdu : ApduParts

-- what a chain did: its turns, the number of instructions that it decoded, its atomic writes, the pairs of every
-- delegation that read a name, the session bytes of the first frame at the end, and the outcome
pub record Ran : Type 0 where
  pub turns : List Turn
  pub count : ℕ
  pub writes : List Write
  pub pairs : List (List ℕ × List ℕ)
  pub session : List ℕ
  pub outcome : Outcome

-- ---- parts of a chain

-- the code of an application, empty if it is not there
abbrev pub code_in : Option App → List ℕ
code_in None = []
code_in (Some a) = a.code

-- the name of the frame that delegated to the running one, if one did
abbrev pub delegator_in : List Frame → Option (List ℕ)
delegator_in [] = None
delegator_in (f ∷ fs) = Some f.name

-- what a row of the running frame knows besides it
abbrev pub around : Chain → Around
around ch = record { case = apdu_case ch.apdu; delegator = delegator_in ch.below }

-- the number of frames
abbrev pub depth_of : Chain → ℕ
depth_of ch = length ch.below + 1

-- the first frame
abbrev pub first_frame : Frame → List Frame → Frame
first_frame f [] = f
first_frame f (g ∷ gs) = first_frame g gs

-- the session bytes of the first frame
abbrev pub chain_session : Chain → List ℕ
chain_session ch = session_of (first_frame ch.frame ch.below)

-- ---- static changes reach the map

-- an application whose static bytes have these pieces laid over them
abbrev pub with_pieces : List (ℕ × List ℕ) → App → App
with_pieces ps a = record a { fixed = laid_pieces a.fixed ps }

-- the map with pieces laid over the static bytes of a name that it has
abbrev pub changed_app : List (List ℕ × App) → List ℕ → List (ℕ × List ℕ) → Option App → List (List ℕ × App)
changed_app map n ps None = map
changed_app map n ps (Some a) = insert map n (with_pieces ps a)

-- the map after a list of static changes, if there is one
abbrev pub map_changed : List (List ℕ × App) → List ℕ → Option (List (ℕ × List ℕ)) → List (List ℕ × App)
map_changed map n None = map
map_changed map n (Some ps) = changed_app map n ps (lookup map n)

-- the atomic write of a list of static changes
abbrev pub write_of : List ℕ → Option (List (ℕ × List ℕ)) → List Write
write_of n None = []
write_of n (Some ps) = record { name = n; pieces = ps; words = length (touched_words ps) } ∷ []

-- the number of words of that atomic write
abbrev pub words_of_write : Option (List (ℕ × List ℕ)) → Option ℕ
words_of_write None = None
words_of_write (Some ps) = Some (length (touched_words ps))

-- the chain after what an instruction changed
abbrev pub chain_after_effect : Chain → Effect → Chain
chain_after_effect ch e =
    record ch { map = map_changed ch.map ch.frame.name e.changes; frame = e.frame; public = e.public }

-- ---- delegation and exit

-- whether a frame of the chain runs the application of this name
abbrev pub is_active : List ℕ → Frame → List Frame → Bool
is_active n f [] = bytes_eq f.name n
is_active n f (g ∷ gs) = bytes_eq f.name n || is_active n g gs

-- the chain with a frame of an application on top, its session bytes zero
abbrev pub entered_app : Chain → List ℕ → App → Chain
entered_app ch n a =
    record ch { frame = new_frame n (length a.code) a.deny a.fixed (zeros a.session); below = ch.frame ∷ ch.below }

-- a delegation to an application that is there: 6985 if it is active or the chain has four frames
abbrev pub called_app : Bool → Chain → List ℕ → App → Chain
called_app true ch n a = record ch { public = with_sw ch.public 0x6985 }
called_app false ch n a = entered_app ch n a

-- a delegation to a name: 6A82 if it is not on the card
abbrev pub chain_after_call : Chain → List ℕ → Option App → Chain
chain_after_call ch n None = record ch { public = with_sw ch.public 0x6A82 }
chain_after_call ch n (Some a) = called_app (is_active n ch.frame ch.below || nat_le 4 (depth_of ch)) ch n a

-- the reply of the first frame: at most Le bytes of the public segment, and SW
abbrev pub reply_of : Chain → Outcome
reply_of ch = Reply (take (min (la_of ch.public) (unwrap_or ch.apdu.le 0)) ch.public) (sw_of ch.public)

-- what follows a turn
pub data Follows : Type 0 where
  Continues : (chain : Chain) → Follows
  Ends : (outcome : Outcome) → Follows

-- the first frame's exit: abend 09 if the reply would be above 1,024 bytes
abbrev pub last_exit : Chain → Follows
last_exit ch = cond (nat_lt 1024 (la_of ch.public)) (Ends (Abended A09)) (Ends (reply_of ch))

-- an exit: the frame below goes on
abbrev pub after_exit : Chain → List Frame → Follows
after_exit ch [] = last_exit ch
after_exit ch (f ∷ fs) = Continues (record ch { frame = f; below = fs })

-- what follows an instruction in a settled chain
abbrev pub follows : Chain → Then → Follows
follows ch Goes = Continues ch
follows ch Exits = after_exit ch ch.below
follows ch (Delegates n) = Continues (chain_after_call ch n (lookup ch.map n))

-- the pair of a delegation: the frame's name, and the name that it delegates to
abbrev pub pair_of : List ℕ → Then → List (List ℕ × List ℕ)
pair_of n Goes = []
pair_of n Exits = []
pair_of n (Delegates m) = (n, m) ∷ []

-- ---- turns

-- one turn: its record, whether it counts, its write and pair, and what follows
pub record Acted : Type 0 where
  pub turn : Turn
  pub count : ℕ
  pub writes : List Write
  pub pairs : List (List ℕ × List ℕ)
  pub follows : Follows

-- the outcome with which a turn ends the chain
abbrev pub end_of : Follows → Option Outcome
end_of (Continues ch) = None
end_of (Ends o) = Some o

-- an end by an abend, at the frame as it was
abbrev pub abends_at : Chain → Option Ins → ℕ → Abend → Acted
abends_at ch i count cause =
    record {
      turn = record { depth = depth_of ch; at = ch.frame.at; ins = i; dt = ch.frame.dt; c = ch.frame.c; z = ch.frame.z; end = Some (Abended cause); wrote = None };
      count = count;
      writes = [];
      pairs = [];
      follows = Ends (Abended cause);
    }

-- the frame whose registers a turn records: if the chain ends with an abend, the one before it
abbrev pub reported_frame : Frame → Frame → Follows → Frame
reported_frame old new (Continues ch) = new
reported_frame old new (Ends (Reply b sw)) = new
reported_frame old new (Ends (Abended cause)) = old

-- an instruction that was done
abbrev pub done_turn : Chain → Ins → Effect → Follows → List (List ℕ × List ℕ) → Acted
done_turn ch i e next pairs =
    let f = reported_frame ch.frame e.frame next in
    record {
      turn = record { depth = depth_of ch; at = ch.frame.at; ins = Some i; dt = f.dt; c = f.c; z = f.z; end = end_of next; wrote = words_of_write e.changes };
      count = 1;
      writes = write_of ch.frame.name e.changes;
      pairs = pairs;
      follows = next;
    }

-- a turn by the end of its row
abbrev pub row_turn : Chain → Ins → RowEnd → Acted
row_turn ch i (Abends cause) = abends_at ch (Some i) 1 cause
row_turn ch i (Does d) = done_turn ch i d.effect (follows (chain_after_effect ch d.effect) d.next) (pair_of ch.frame.name d.next)

-- the frame with its code address after the instruction
abbrev pub frame_at : Frame → ℕ → Frame
frame_at f next = record f { at = next }

-- the turn of a fetch: abend 01 if no instruction begins there, 02 if it is not whole in the code
abbrev pub turn_of_fetch : Chain → Result (Ins × ℕ) DecodeFault → Acted
turn_of_fetch ch (Err Undefined) = abends_at ch None 0 A01
turn_of_fetch ch (Err Past) = abends_at ch None 0 A02
turn_of_fetch ch (Ok i) = row_turn ch i.0 (row i.0 (frame_at ch.frame i.1) ch.public (around ch))

-- one turn of a chain whose budget is not spent
unfoldable pub turn_of_chain : Chain → Acted
turn_of_chain ch = turn_of_fetch ch (instruction_at (code_in (lookup ch.map ch.frame.name)) ch.frame.at)

-- the turn of a chain whose budget is spent
abbrev pub turn_without_budget : Chain → Acted
turn_without_budget ch = abends_at ch None 0 A07

-- a turn with this much of the budget left
abbrev pub turn_of : ℕ → Chain → Acted
turn_of zero ch = turn_without_budget ch
turn_of (suc n) ch = turn_of_chain ch

-- ---- runs

-- a turn that ends the chain; exits and abends leave the session bytes as they were
abbrev pub ends_with : Acted → List ℕ → Outcome → Ran
ends_with t session o =
    record { turns = t.turn ∷ []; count = t.count; writes = t.writes; pairs = t.pairs; session = session; outcome = o }

-- a turn, and what is run after it
abbrev pub goes_on : Acted → Ran → Ran
goes_on t r =
    record { turns = t.turn ∷ r.turns; count = t.count + r.count; writes = t.writes ++ r.writes; pairs = t.pairs ++ r.pairs; session = r.session; outcome = r.outcome }

-- a turn, and the rest if the chain goes on
abbrev pub run_after_turn : Acted → List ℕ → Follows → (Chain → Ran) → Ran
run_after_turn t session (Ends o) rest = ends_with t session o
run_after_turn t session (Continues ch) rest = goes_on t (rest ch)

-- the run of a chain with this budget
unfoldable pub run_of_chain : ℕ → Chain → Ran
run_of_chain zero ch = ends_with (turn_without_budget ch) (chain_session ch) (Abended A07)
run_of_chain (suc n) ch = let t = turn_of_chain ch in run_after_turn t (chain_session ch) t.follows (λ c. run_of_chain n c)

-- the chain of a command to an application with these session bytes, before its first turn
abbrev pub start_app : List (List ℕ × App) → List ℕ → List ℕ → ApduParts → App → Chain
start_app map first session apdu a =
    record { map = map; frame = new_frame first (length a.code) a.deny a.fixed session; below = []; public = new_public apdu; apdu = apdu }

-- an application without code
abbrev pub no_app : App
no_app = record { code = []; fixed = []; session = 0; deny = 0; dir = []; fci = []; place = 0 }

-- the chain of a command to an application
abbrev pub start : List (List ℕ × App) → List ℕ → List ℕ → ApduParts → Chain
start map first session apdu = start_app map first session apdu (unwrap_or (lookup map first) no_app)

-- a command to the application `first`: the run of its chain
abbrev pub run : List (List ℕ × App) → List ℕ → List ℕ → ApduParts → ℕ → Ran
run map first session apdu budget = run_of_chain budget (start map first session apdu)
