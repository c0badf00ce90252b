-- The frame that runs after a turn, and the protection of each frame, counted turn by turn.
use Rattle.std.specs.Prelude.{◌≡◌, ◌⊎◌, ℕ, ◌<◌, ◌≤◌, Bool, true, false, cond, nat_lt, List, [], ◌∷◌, length, get_or, slice_set, bytes_eq, Option, Some, None}
use Rattle.law_family.specs.model_machine.specs.declared.instruction.Ins.{Ins}
use Rattle.law_family.specs.model_machine.specs.Frame.{Frame}
use Rattle.law_family.specs.model_machine.specs.Chain.{Abended, Chain, Follows, Continues, Ends, Outcome, Reply, depth_of, turn_of}
use Rattle.law_steps.specs.Registers.{frame_after, mode_of, protection_after_mode, registers_of}
use Rattle.law_steps.specs.Shown.{is_exit_of}

-- ---- the next frame

-- a turn ran an instruction that does not exit
abbrev pub RanOn : Option Ins → Type 0
RanOn ins = (i : Ins) × (ins ≡ Some i) × (is_exit_of i ≡ false)

-- the running frame goes on: it has the name and the registers of the frame after the turn, and the same frames wait
pub record StaysOn (ch : Chain) (f : Frame) (ins : Option Ins) (c : Chain) : Type 0 where
  pub ran : RanOn ins
  pub below : c.below ≡ ch.below
  pub name : bytes_eq c.frame.name ch.frame.name ≡ true
  pub registers : registers_of c.frame ≡ registers_of f

-- the turn called a frame of another name, which is one deeper, at most the fourth, and has its protection off; the frame
-- that called it waits as it is after the turn
pub record CallsFrame (ch : Chain) (f : Frame) (ins : Option Ins) (c : Chain) : Type 0 where
  pub ran : RanOn ins
  pub below : c.below ≡ f ∷ ch.below
  pub name : bytes_eq c.frame.name ch.frame.name ≡ false
  pub off : c.frame.protected ≡ false
  pub few : length ch.below < 3

-- the frame exited, and the newest of those that waited runs
pub record LeavesFrame (ch : Chain) (ins : Option Ins) (c : Chain) : Type 0 where
  pub exits : (i : Ins) × (ins ≡ Some i) × (is_exit_of i ≡ true)
  pub below : ch.below ≡ c.frame ∷ c.below

-- the frame that runs after a turn, by the frame that ran it, after it, and by its instruction
abbrev pub Nexts : Chain → Frame → Option Ins → Chain → Type 0
Nexts ch f ins c = StaysOn ch f ins c ⊎ CallsFrame ch f ins c ⊎ LeavesFrame ch ins c

-- ---- protection by turns

-- protection after an instruction, if there is one: off after an exit, and else by its mode, if it has one
abbrev pub open_on : Option Ins → Bool → Bool
open_on None on = on
open_on (Some i) on = cond (is_exit_of i) false (protection_after_mode (mode_of i) on)

-- protection after a turn with this end and instruction, by that before it: an abend leaves it
abbrev pub open_by : Option Outcome → Option Ins → Bool → Bool
open_by None i on = open_on i on
open_by (Some (Reply body sw)) i on = open_on i on
open_by (Some (Abended cause)) i on = on

-- protection after a turn of the frame that ran it: after an abend it is that before the turn, and after an exit it is off
abbrev pub open_after : ℕ → Chain → Bool
open_after n ch = open_by (turn_of n ch).turn.end (turn_of n ch).turn.ins ch.frame.protected

-- protection by depth, after the frame after the one at a depth began, if it did
abbrev pub called_opens : ℕ → Follows → List Bool → List Bool
called_opens depth (Ends o) os = os
called_opens depth (Continues c) os = cond (nat_lt depth (depth_of c)) (slice_set os depth false) os

-- Protection by depth after a turn, computed from that before it and the turn alone: of the frame that ran the turn by
-- its instruction, and of one that it called off.
abbrev pub opens_after : ℕ → Chain → List Bool → List Bool
opens_after n ch os =
    let t = (turn_of n ch).turn in
    called_opens (depth_of ch) (turn_of n ch).follows (slice_set os (length ch.below) (open_by t.end t.ins (get_or os (length ch.below) false)))

-- each of some frames, the deepest first, has its protection by depth
abbrev pub AllOpen : List Bool → List Frame → Type 0
AllOpen os [] = Unit {0}
AllOpen os (f ∷ fs) = (get_or os (length fs) false ≡ f.protected) × AllOpen os fs

-- protection by depth is that of the frames of a chain, of which at most four are
pub record OpensOf (os : List Bool) (ch : Chain) : Type 0 where
  pub size : length os ≡ 4
  pub few : length ch.below ≤ 3
  pub all : AllOpen os (ch.frame ∷ ch.below)

-- ---- the laws

-- After a turn the running frame goes on, or a frame that it called runs, or the one that had called it.
abbrev pub NextLaw : Type 0
NextLaw = (n : ℕ) (ch c : Chain) → (turn_of n ch).follows ≡ Continues c → Nexts ch (frame_after n ch) (turn_of n ch).turn.ins c

-- protection that is computed turn by turn is that of each frame; unless a turn exits, it is that of the frame that ran
-- the turn, after it
pub record OpensLaw : Type 0 where
  pub onward : (n : ℕ) (ch c : Chain) (os : List Bool) → OpensOf os ch → (turn_of n ch).follows ≡ Continues c → OpensOf (opens_after n ch os) c
  pub kept : (n : ℕ) (ch : Chain) → ((i : Ins) → (turn_of n ch).turn.ins ≡ Some i → is_exit_of i ≡ false) → open_after n ch ≡ (frame_after n ch).protected
