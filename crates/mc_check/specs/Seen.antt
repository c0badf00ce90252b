-- The properties of an instruction in the code, as those of the definition.
use Rattle.std.specs.Prelude.{ℕ, Result, Ok, Err}
use Rattle.law_family.specs.model_text.specs.declared.checker.CheckCause.{CheckCause}
use Rattle.law_family.specs.model_text.specs.declared.checker.CheckCause.TheVariants.{Undefined, Past}
use Rattle.law_family.specs.model_machine.specs.declared.instruction.DecodeFault.{DecodeFault}
use Rattle.law_family.specs.model_machine.specs.declared.instruction.DecodeFault.TheVariants as fault
use Rattle.model_stack.specs.StackRows as shape
use Rattle.model_stack.specs.StackShape.{FactLook, Bad, Stands}
use Rattle.mc_check.specs.declared.shape.Counts.{Counts}
use Rattle.mc_check.specs.declared.shape.Seen.{Seen}
use Rattle.mc_check.specs.declared.uses.Uses.{Uses}
use Rattle.mc_check.specs.declared.writing.Writing.{Writing}
use Rattle.mc_check.specs.declared.writing.Writing.TheVariants as writing

-- the uses of the definitions that the uses of an instruction are
abbrev pub uses_of : Uses → shape.Uses
uses_of u = shape.uses u.needs u.pops u.pushes

-- the write of the definitions that the write of an instruction is
abbrev pub writing_of : Writing → shape.Writing
writing_of writing.Nothing = shape.WritesNothing
writing_of (writing.At tag off n) = shape.WritesAt tag off n
writing_of writing.Anywhere = shape.WritesAnywhere

-- the counts of a return
abbrev pub pair_of : Counts → ℕ × ℕ
pair_of c = (c.less, c.more)

-- the cause in a fault of the decoder
abbrev pub cause_of : DecodeFault → CheckCause
cause_of fault.Undefined = Undefined
cause_of fault.Past = Past

-- the look of the definitions that the look of a fact is
abbrev pub fact_look_of : Result Seen CheckCause → FactLook
fact_look_of (Ok s) = Stands s.ins s.next
fact_look_of (Err cause) = Bad cause
