-- What an application does, as its writer counts it: an instruction that was done, and which happenings are events.
use Rattle.std.specs.Prelude.{ℕ, Bool, List, Option}
use Rattle.model_text.specs.model_machine.specs.declared.instruction.Ins.{Ins}
use Rattle.model_text.specs.model_machine.specs.declared.machine.Abend.{Abend}
use Rattle.model_text.specs.model_machine.specs.Apdu.{ApduParts}
use Rattle.model_text.specs.model_machine.specs.Frame.{Frame, Effect}
use Rattle.model_text.specs.model_machine.specs.Chain.{Outcome}

-- An instruction that was done in a frame of the application: the frame before it (its code address is the
-- instruction's place), the public segment before it, whether a selection began the frame (else a delegation), the
-- number of frames, the instruction, and what it changed.
pub record Deed : Type 0 where
  pub frame : Frame
  pub public : List ℕ
  pub direct : Bool
  pub depth : ℕ
  pub ins : Ins
  pub effect : Effect

-- What the writer of an application counts, each if it is an event: an instruction that was done; one at a place that
-- ended with an abend; a command that reaches the application as the selected one, by its bytes and parts; the answer to
-- it; a selection of it; and the end of a session, or a power line, or another's selection. Of the last two the event may
-- depend on whether the application was selected before.
pub record Watch (E : Type 0) : Type 0 where
  pub name : List ℕ
  pub of_deed : Deed → Option E
  pub of_abend : ℕ → Abend → Option E
  pub of_command : List ℕ → ApduParts → Option E
  pub of_answer : List ℕ → Outcome → Option E
  pub of_selection : Bool → Option E
  pub of_end : Bool → Option E
