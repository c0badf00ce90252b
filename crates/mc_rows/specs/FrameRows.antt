-- Rows that depend on their frame alone, and rows that depend on the public segment alone.
use Rattle.std.specs.Prelude.{◌≡◌, ℕ, List, length, Result, Ok, Err}
use Rattle.model_machine.specs.declared.instruction.Ins.{Ins}
use Rattle.model_machine.specs.declared.machine.Abend.{Abend}
use Rattle.model_machine.specs.Frame.{Frame}
use Rattle.model_machine.specs.Primitives.{Then, Goes, Exits, effect_and_next, frame_effect}
use Rattle.model_machine.specs.Row.{RowEnd, Abends, Does, row}
use Rattle.mc_segs.specs.HeldFrames.{Held}
use Rattle.mc_segs.specs.declared.ends.Halt.{Halt}
use Rattle.mc_segs.specs.declared.ends.Halt.TheVariants as halt
use Rattle.mc_rows.specs.declared.registers.Flow.{Flow}
use Rattle.mc_rows.specs.declared.registers.Flow.TheVariants as flow
use Rattle.mc_rows.specs.Rows.{alone}

-- the machine's frame of an application with this name and these static bytes
abbrev pub on_app : Held → List ℕ → List ℕ → Frame
on_app h name fixed = record h.frame { name = name; fixed = fixed }

-- two frames of one application: they have its slot, sizes and access list
pub record AreOfOneApp (h k : Held) : Type 0 where
  pub slot : k.slot ≡ h.slot
  pub code_len : k.frame.code_len ≡ h.frame.code_len
  pub fixed : k.frame.fixed ≡ h.frame.fixed
  pub deny : k.frame.deny ≡ h.frame.deny
  pub session : k.frame.session ≡ h.frame.session

-- the end of a row agrees with the result of a call that changes its frame alone; an abend changes no byte
abbrev pub FrameEnds : Held → Held → List ℕ → List ℕ → List ℕ → RowEnd → Result (Unit {0}) Abend → Type 0
FrameEnds h k name fixed public (Abends a) (Ok u) = ⊥
FrameEnds h k name fixed public (Abends a) (Err b) = (b ≡ a) × (k.frame.dyn ≡ h.frame.dyn) × (k.frame.session ≡ h.frame.session)
FrameEnds h k name fixed public (Does d) (Ok u) = (d ≡ effect_and_next (frame_effect (on_app k name fixed) public)) × AreOfOneApp h k
FrameEnds h k name fixed public (Does d) (Err b) = ⊥

-- The result of a call that changes its frame alone is that of the instruction's row, on every application with as many
-- static bytes and with every public segment.
abbrev pub FrameActs : Ins → Held → Held → Result (Unit {0}) Abend → Type 0
FrameActs i h k r =
    (name fixed public : List ℕ) → length fixed ≡ length h.frame.fixed → FrameEnds h k name fixed public (row i (on_app h name fixed) public alone) r

-- the result of such a call, as that of any instruction
abbrev pub frame_row_result : Result (Unit {0}) Abend → Result Flow Halt
frame_row_result (Ok u) = Ok flow.Go
frame_row_result (Err a) = Err (halt.Abend a)

-- the continuation, as the definition's type
abbrev pub then_after : Flow → Then
then_after flow.Go = Goes
then_after flow.Exit = Exits

-- the result of a call that changes the public segment alone is that of the instruction's row, for every frame, and
-- never an abend
abbrev pub PublicActs : Ins → List ℕ → List ℕ → Flow → Type 0
PublicActs i public public_after next =
    (f : Frame) → row i f public alone ≡ Does (record { effect = frame_effect f public_after; next = then_after next })
