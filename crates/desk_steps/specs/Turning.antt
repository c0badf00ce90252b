-- A card after a turn of a chain, and the shots of the frame that ran it, before the turn and after it.
use Rattle.std.specs.Prelude.{◌≡◌, ℕ, ◌+◌, ◌-◌, ◌≤◌, Bool, true, false, cond, not, nat_lt, min, List, [], length, replicate, bytes_eq, option_map, Option, Some, None, IsSome}
use Rattle.mc_words.specs.model_device.specs.Bytes.{lookup}
use Rattle.mc_words.specs.model_device.specs.Device.{DeviceState}
use Rattle.mc_text.specs.model_machine.specs.declared.instruction.Ins.{Ins}
use Rattle.mc_text.specs.model_machine.specs.declared.machine.Abend.{Abend}
use Rattle.mc_text.specs.model_machine.specs.Frame.{Frame}
use Rattle.mc_text.specs.model_machine.specs.Chain.{Chain, Follows, Continues, Ends, Outcome, Reply, Abended, Turn, depth_of, turn_of}
use Rattle.law_steps.specs.Readings.{reading_after, reading_of}
use Rattle.law_steps.specs.Registers.{frame_after}
use Rattle.law_steps.specs.Shown.{EndsFrame, is_exit_of}
use Rattle.law_steps.specs.Writes.{IsRoomy}
use Rattle.mc_bank.specs.Bank.{app_of}
use Rattle.mc_machine.specs.declared.outcome.End.{End}
use Rattle.mc_machine.specs.declared.outcome.End.TheVariants as end
use Rattle.mc_machine.specs.declared.outcome.BriefTurn.{BriefTurn}
use Rattle.mc_card.specs.declared.card.Card.{Card}
use Rattle.mc_card.specs.Parts.{card_in}
use Rattle.desk_cover.specs.Looking.{Shows}
use Rattle.desk_steps.specs.Shots.{shot_reading}
use Rattle.desk_steps.specs.declared.shot.Shot.{Shot}

-- ---- how a turn ends

-- the abend in the end of a turn of the code
abbrev pub abend_of : Option End → Option Abend
abend_of None = None
abend_of (Some end.Reply) = None
abend_of (Some (end.Abend cause)) = Some cause

-- the end of such a turn, if it is an abend
abbrev pub end_of : Option End → Option Outcome
end_of e = option_map Abended (abend_of e)

-- an outcome, if it is an abend
abbrev pub abend_alone : Option Outcome → Option Outcome
abend_alone None = None
abend_alone (Some (Reply body sw)) = None
abend_alone (Some (Abended cause)) = Some (Abended cause)

-- a turn of the code, with nothing of its reply
abbrev pub bare_value : BriefTurn → Option ℕ → Turn
bare_value t wrote = record { depth = t.depth; at = t.at; ins = t.ins; dt = t.dt; c = t.flags.c; z = t.flags.z; end = end_of t.end; wrote = wrote }

-- a turn with nothing of its reply, of which no line shows anything
abbrev pub bare_turn : Turn → Turn
bare_turn t = record t { end = abend_alone t.end }

-- an instruction, if it exits its frame
abbrev pub exit_in : Option Ins → Option Ins
exit_in None = None
exit_in (Some i) = cond (is_exit_of i) (Some i) None

-- the running frame of a chain that follows a turn has its 512 dynamic bytes
abbrev pub IsWideNext : Follows → Type 0
IsWideNext (Ends o) = Unit {0}
IsWideNext (Continues ch) = 512 ≤ length ch.frame.dyn

-- ---- what is kept by depth

-- the place of what is kept of the frame at a depth from 1 to 4
abbrev pub frame_place : ℕ → ℕ
frame_place depth = min (depth - 1) 3

-- the protection of four frames, all off
abbrev pub all_shut : List Bool
all_shut = replicate 4 false

-- ---- a turn

-- a card keeps the static bytes of a frame for its application
pub record KeepsStatics {N : Type 0} (state : N → DeviceState) (c : Card N) (f : Frame) : Type 0 where
  pub there : IsSome (lookup (card_in state c).apps f.name)
  pub fixed : (app_of (card_in state c).apps (Some f.name)).fixed ≡ f.fixed

-- a card after a turn of a chain, with this much of the budget left before it; if the turn ended its frame, the card
-- keeps the frame's static bytes without what waited
pub record WasTurn {N : Type 0} (state : N → DeviceState) (c : Card N) (n : ℕ) (ch : Chain) (turn : BriefTurn) : Type 0 where
  pub same : bare_turn (turn_of n ch).turn ≡ bare_value turn (turn_of n ch).turn.wrote
  pub shows : Shows state c (turn_of n ch).follows
  pub wide : IsWideNext (turn_of n ch).follows
  pub few : length ch.below ≤ 3
  pub kept : EndsFrame (turn_of n ch).turn → KeepsStatics state c ch.frame

-- whether what follows a turn runs another frame than that of a name
abbrev pub is_other : Follows → List ℕ → Bool
is_other (Ends o) name = false
is_other (Continues ch) name = not (bytes_eq ch.frame.name name)

-- whether what follows a turn at a depth runs a deeper frame
abbrev pub is_deeper : ℕ → Follows → Bool
is_deeper depth (Ends o) = false
is_deeper depth (Continues ch) = nat_lt depth (depth_of ch)

-- a frame that runs deeper after a turn is one deeper, and at most the fourth
abbrev pub IsOneDeeper : ℕ → Follows → Type 0
IsOneDeeper depth (Ends o) = Unit {0}
IsOneDeeper depth (Continues ch) = nat_lt depth (depth_of ch) ≡ true → (depth_of ch ≡ depth + 1) × (depth ≤ 3)

-- LB of the frame of a name, which goes on if the running frame has that name, and else keeps its LB
abbrev pub lb_shown : Follows → List ℕ → ℕ → ℕ
lb_shown (Ends o) name lb = lb
lb_shown (Continues ch) name lb = cond (bytes_eq ch.frame.name name) ch.frame.lb lb

-- ---- shots

-- a shot of the frame that a chain runs; its segments have their sizes, and its pieces wait while protection is on
pub record IsBefore (s : Shot) (ch : Chain) : Type 0 where
  pub lb : s.lb ≡ ch.frame.lb
  pub dt : s.dt ≡ ch.frame.dt
  pub size : s.fixed_len ≡ length ch.frame.fixed
  pub reading : 512 ≤ length ch.frame.dyn → shot_reading s ≡ reading_of ch.frame ch.public
  pub roomy : 512 ≤ length ch.frame.dyn → IsRoomy ch.frame ch.public
  pub guard : ch.frame.protected ≡ false → ch.frame.pieces ≡ []

-- a shot of that frame after a turn
pub record IsAfter (s : Shot) (n : ℕ) (ch : Chain) : Type 0 where
  pub lb : s.lb ≡ (frame_after n ch).lb
  pub reading : 512 ≤ length ch.frame.dyn → shot_reading s ≡ reading_after n ch
