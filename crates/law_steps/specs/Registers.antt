-- LB and the protection of the frame that ran a turn, after it.
use Rattle.std.specs.Prelude.{◌≡◌, ◌≢◌, ℕ, zero, suc, Bool, true, false, cond, nat_le, List, bytes_eq, slice_index, Option, Some, None, Result, Ok, Err}
use Rattle.law_family.specs.model_device.specs.Bytes.{lookup}
use Rattle.law_family.specs.model_machine.specs.declared.instruction.Ins.{Ins}
use Rattle.law_family.specs.model_machine.specs.declared.instruction.Ins.TheVariants as ins
use Rattle.law_family.specs.model_machine.specs.declared.instruction.DecodeFault.{DecodeFault}
use Rattle.law_family.specs.model_machine.specs.declared.machine.Abend.{Abend}
use Rattle.law_family.specs.model_machine.specs.Code.{instruction_at}
use Rattle.law_family.specs.model_machine.specs.Frame.{Frame}
use Rattle.law_family.specs.model_machine.specs.Primitives.{Primitive, SetProtection, primitive}
use Rattle.law_family.specs.model_machine.specs.Row.{RowEnd, Abends, Does, row}
use Rattle.law_family.specs.model_machine.specs.Chain.{Abended, Chain, Follows, Continues, Ends, around, chain_after_effect, code_in, follows, frame_at, reported_frame, turn_of}
use Rattle.law_steps.specs.Shown.{is_exit_of}

-- ---- the frame after a turn

-- the frame that ran a turn after it, by the end of its row; if the chain ends with an abend, as it was before it
abbrev pub row_frame : Chain → RowEnd → Frame
row_frame ch (Abends cause) = ch.frame
row_frame ch (Does d) = reported_frame ch.frame d.effect.frame (follows (chain_after_effect ch d.effect) d.next)

-- after a fetch
abbrev pub fetch_frame : Chain → Result (Ins × ℕ) DecodeFault → Frame
fetch_frame ch (Err e) = ch.frame
fetch_frame ch (Ok i) = row_frame ch (row i.0 (frame_at ch.frame i.1) ch.public (around ch))

-- the frame that ran a turn, after it; if the chain ends with an abend, as it was before it
unfoldable pub frame_after : ℕ → Chain → Frame
unfolding row
frame_after zero ch = ch.frame
frame_after (suc n) ch = fetch_frame ch (instruction_at (code_in (lookup ch.map ch.frame.name)) ch.frame.at)

-- ---- registers

-- LB of a frame, and whether its protection is on
abbrev pub registers_of : Frame → ℕ × Bool
registers_of f = (f.lb, f.protected)

-- the registers of the frame of a name after a turn that did not end it: if the running frame has another name, it was
-- called, and the frame that called it keeps its own
abbrev pub registers_shown : Follows → List ℕ → ℕ × Bool → ℕ × Bool
registers_shown (Ends o) name r = r
registers_shown (Continues ch) name r = cond (bytes_eq ch.frame.name name) (registers_of ch.frame) r

-- ---- protection

-- the mode of a primitive that sets the protection
abbrev pub primitive_mode : Primitive → List ℕ → Option ℕ
primitive_mode SetProtection args = Some (slice_index args 0)
primitive_mode _ args = None

-- the mode of a pair of set and number, if it is such a primitive
abbrev pub pair_mode : Option Primitive → List ℕ → Option ℕ
pair_mode None args = None
pair_mode (Some p) args = primitive_mode p args

-- the mode of an instruction that sets the protection
abbrev pub mode_of : Ins → Option ℕ
mode_of (ins.Prim set number args) = pair_mode (primitive set number) args
mode_of i = None

-- whether protection is on after a mode, if there is one: modes 2 and 3 turn it on
abbrev pub protection_after_mode : Option ℕ → Bool → Bool
protection_after_mode None on = on
protection_after_mode (Some mode) on = nat_le 2 mode

-- ---- the law

-- What LB and the protection of the frame that ran a turn are after it: after an abend what they were; an exit leaves
-- them; else they are found in the chain after it. An instruction that sets the protection sets it by its mode, and no
-- other one does.
pub record RegistersLaw : Type 0 where
  pub abends : (n : ℕ) (ch : Chain) (c : Abend) → (turn_of n ch).turn.end ≡ Some (Abended c) → frame_after n ch ≡ ch.frame
  pub exits : (n : ℕ) (ch : Chain) (i : Ins) → (turn_of n ch).turn.ins ≡ Some i → is_exit_of i ≡ true → registers_of (frame_after n ch) ≡ registers_of ch.frame
  pub goes : (n : ℕ) (ch : Chain) → ((i : Ins) → (turn_of n ch).turn.ins ≡ Some i → is_exit_of i ≡ false) → ((c : Abend) → (turn_of n ch).turn.end ≢ Some (Abended c))
      → registers_of (frame_after n ch) ≡ registers_shown (turn_of n ch).follows ch.frame.name (registers_of ch.frame)
  pub protects : (n : ℕ) (ch : Chain) (i : Ins) → (turn_of n ch).turn.ins ≡ Some i → ((c : Abend) → (turn_of n ch).turn.end ≢ Some (Abended c))
      → (frame_after n ch).protected ≡ protection_after_mode (mode_of i) ch.frame.protected
