-- The turns of a run with what surrounds each: the code that runs, the frame after it, and the bytes of its operand.
use Rattle.std.specs.Prelude.{ℕ, zero, suc, ◌-◌, ℤ, Bool, true, false, cond, ◌==◌, List, [], ◌∷◌, ◌++◌, length, take, drop, Option, Some, None, option_and_then, Result, Ok, Err}
use Rattle.mc_text.specs.model_machine.specs.declared.instruction.Ins.{Ins}
use Rattle.mc_text.specs.model_machine.specs.declared.instruction.Ins.TheVariants as ins
use Rattle.mc_text.specs.model_machine.specs.declared.instruction.DecodeFault.{DecodeFault}
use Rattle.mc_text.specs.model_device.specs.Bytes.{lookup}
use Rattle.mc_text.specs.model_device.specs.Card.{Card}
use Rattle.mc_text.specs.model_device.specs.PowerUp.{Base, OnCard, AtFault}
use Rattle.mc_text.specs.model_machine.specs.Apdu.{ApduParts}
use Rattle.mc_text.specs.model_machine.specs.Code.{instruction_at}
use Rattle.mc_text.specs.model_machine.specs.Frame.{Frame, Effect, resolve, where_is, bytes_in, floor}
use Rattle.mc_text.specs.model_machine.specs.Row.{RowEnd, Abends, Does, row}
use Rattle.mc_text.specs.model_machine.specs.Chain.{Turn, Chain, Follows, Continues, Ends, around, code_in, frame_at, chain_after_effect, follows, reported_frame, turn_of_chain, turn_without_budget, start}
use Rattle.mc_deck.specs.model_card.specs.Commands.{command}
use Rattle.mc_deck.specs.model_card.specs.Items.{card_done}
use Rattle.mc_deck.specs.model_card.specs.Manager.{Selected, SessionState, Route, WrongLength, WrongClass, ToSelect, ToManager, ToApplication, route}
use Rattle.mc_deck.specs.model_play.specs.DeckGrammar.{DeckLine}
use Rattle.mc_deck.specs.model_play.specs.DeckGrammar as line
use Rattle.mc_deck.specs.model_play.specs.Play.{State, BeforePower, AfterPower, Live, Running, Unpowered, Muted, Step, select_bytes, delete_bytes, load_commands, is_done}
use Rattle.mc_deck.specs.model_play.specs.TraceText.{shown_turns}

-- a turn, the code of its application, its frame after the turn (before it where the chain ends with an abend), and the
-- bytes that its operand `REG[offset]` names, as they are after the turn; none where it has no such operand, or ends
-- with an abend
pub record FullTurn : Type 0 where
  pub turn : Turn
  pub code : List ℕ
  pub frame : Frame
  pub operand : List ℕ

-- ---- the operand

-- the register, the offset and the length of an operand, none with tag 0
pub record Span : Type 0 where
  pub tag : ℕ
  pub offset : ℤ
  pub size : ℕ

-- a span, none with tag 0
abbrev pub span : ℕ → ℤ → ℕ → Option Span
span tag off n = cond (tag == 0) None (Some (record { tag = tag; offset = off; size = n }))

-- the bytes that an instruction's operand names: those of a pointer, of a word or a byte with an immediate, else its
-- length
abbrev pub span_of : Ins → Option Span
span_of (ins.Load tag off n) = span tag off n
span_of (ins.Store tag off n) = span tag off n
span_of (ins.Loadi tag off n) = span tag off 2
span_of (ins.Storei tag off n) = span tag off 2
span_of (ins.Setb tag off b) = span tag off 1
span_of (ins.Cmpb tag off b) = span tag off 1
span_of (ins.Addb tag off b) = span tag off 1
span_of (ins.Subb tag off b) = span tag off 1
span_of (ins.Setw tag off w) = span tag off 2
span_of (ins.Cmpw tag off w) = span tag off 2
span_of (ins.Addw tag off w) = span tag off 2
span_of (ins.Subw tag off w) = span tag off 2
span_of (ins.Clearn tag off n) = span tag off n
span_of (ins.Testn tag off n) = span tag off n
span_of (ins.Incn tag off n) = span tag off n
span_of (ins.Decn tag off n) = span tag off n
span_of (ins.Notn tag off n) = span tag off n
span_of (ins.Cmpn tag off n) = span tag off n
span_of (ins.Addn tag off n) = span tag off n
span_of (ins.Subn tag off n) = span tag off n
span_of (ins.Andn tag off n) = span tag off n
span_of (ins.Orn tag off n) = span tag off n
span_of (ins.Xorn tag off n) = span tag off n
span_of i = None

-- the bytes of a span that the frame before an instruction places, as they are after it
abbrev pub operand_after : Frame → Effect → Option Span → List ℕ
operand_after before e None = []
operand_after before e (Some s) =
    bytes_in e.frame e.public s.size (option_and_then (λ a. where_is before a s.size) (resolve before s.tag s.offset))

-- ---- one turn

-- the frame and the operand after an instruction, by the end of its row
abbrev pub after_row : Chain → Ins → RowEnd → Frame × List ℕ
after_row ch i (Abends cause) = (ch.frame, [])
after_row ch i (Does d) = (
  reported_frame ch.frame d.effect.frame (follows (chain_after_effect ch d.effect) d.next),
  operand_after ch.frame d.effect (span_of i),
)

-- the frame and the operand after a fetch
abbrev pub after_fetch : Chain → Result (Ins × ℕ) DecodeFault → Frame × List ℕ
after_fetch ch (Err e) = (ch.frame, [])
after_fetch ch (Ok i) = after_row ch i.0 (row i.0 (frame_at ch.frame i.1) ch.public (around ch))

-- the code of the running application
abbrev pub running_code : Chain → List ℕ
running_code ch = code_in (lookup ch.map ch.frame.name)

-- a turn of a chain with what surrounds it, by the frame and the operand after it
abbrev pub surrounded : Chain → Turn → Frame × List ℕ → FullTurn
surrounded ch t after = record { turn = t; code = running_code ch; frame = after.0; operand = after.1 }

-- the turn of a chain whose budget is not spent
unfoldable pub full_turn : Chain → Turn → FullTurn
unfolding row
full_turn ch t = surrounded ch t (after_fetch ch (instruction_at (running_code ch) ch.frame.at))

-- ---- runs

-- a turn, and the rest where the chain goes on
abbrev pub turns_on : FullTurn → Follows → (Chain → List FullTurn) → List FullTurn
turns_on t (Ends o) rest = t ∷ []
turns_on t (Continues ch) rest = t ∷ rest ch

-- the turns of a chain with this budget
unfoldable pub turns_of_run : ℕ → Chain → List FullTurn
unfolding turn_of_chain full_turn
turns_of_run zero ch = surrounded ch (turn_without_budget ch).turn (ch.frame, []) ∷ []
turns_of_run (suc n) ch = let t = turn_of_chain ch in turns_on (full_turn ch t.turn) t.follows (λ c. turns_of_run n c)

-- ---- plays

-- the turns of a command for the selected application
abbrev pub turns_of_application : Card → Option Selected → ApduParts → ℕ → List FullTurn
turns_of_application c None a budget = []
turns_of_application c (Some s) a budget = turns_of_run budget (start c.apps s.name s.session a)

-- the turns of a command by its route
abbrev pub turns_of_route : Card → SessionState → ℕ → Route → List FullTurn
turns_of_route c session_state budget WrongLength = []
turns_of_route c session_state budget WrongClass = []
turns_of_route c session_state budget (ToSelect a) = []
turns_of_route c session_state budget (ToManager a) = []
turns_of_route c session_state budget (ToApplication a) = turns_of_application c session_state.selected a budget

-- the turns of one command on a running card
abbrev pub turns_of_command : Card → SessionState → List ℕ → ℕ → List FullTurn
turns_of_command c session_state bytes budget = turns_of_route c session_state budget (route bytes)

-- turns, and those after them where the command was answered by 9000 alone
abbrev pub turns_of_sent : Bool → List FullTurn → List FullTurn → List FullTurn
turns_of_sent true first rest = first ++ rest
turns_of_sent false first rest = first

-- the turns of commands in turn, up to the first that is not answered by 9000 alone
unfoldable pub turns_of_commands : Card → SessionState → ℕ → List (List ℕ) → List FullTurn
unfolding command turns_of_run
turns_of_commands c session_state budget [] = []
turns_of_commands c session_state budget (b ∷ bs) =
    let r = command c session_state b budget in
    let rest = turns_of_commands (card_done c r.items) r.session_state budget bs in
    turns_of_sent (is_done r.outcome) (turns_of_command c session_state b budget) rest

-- the turns of a line of a running card
abbrev pub turns_of_line : Card → SessionState → ℕ → DeckLine → List FullTurn
turns_of_line c session_state budget (line.Sent (line.Select n)) =
    turns_of_command c session_state (select_bytes n) budget
turns_of_line c session_state budget (line.Sent (line.Delete n)) =
    turns_of_command c session_state (delete_bytes n) budget
turns_of_line c session_state budget (line.Sent (line.Apdu b)) = turns_of_command c session_state b budget
turns_of_line c session_state budget (line.Sent (line.Load u fixed session)) =
    turns_of_commands c session_state budget (load_commands u fixed session)
turns_of_line c session_state budget _ = []

-- the turns of a line where a card runs
abbrev pub turns_of_live : Live → Base → ℕ → DeckLine → List FullTurn
turns_of_live (Running session_state) (OnCard c) budget l = turns_of_line c session_state budget l
turns_of_live (Running session_state) (AtFault cause p) budget l = []
turns_of_live Unpowered base budget l = []
turns_of_live Muted base budget l = []

-- the turns of a line in a state
unfoldable pub turns_of_line_in : State → DeckLine → List FullTurn
unfolding turns_of_run turns_of_commands
turns_of_line_in (BeforePower m b a) l = []
turns_of_line_in (AfterPower s) l = turns_of_live s.live s.base s.budget l

-- the turns of a line that was played, up to the one in which a stop hit it
unfoldable pub turns_of_step : Step → List FullTurn
unfolding turns_of_line_in
turns_of_step t = take (length (shown_turns t.turns t.stop)) (turns_of_line_in t.before t.line)

-- ---- the stack

-- the bytes of a stack above the session bytes
abbrev pub stack_of : Frame → List ℕ
stack_of f = take (f.dt - floor f) (drop f.session f.dyn)

-- the last bytes of a list, at most n
abbrev pub last_bytes : ℕ → List ℕ → List ℕ
last_bytes n bs = drop (length bs - n) bs
