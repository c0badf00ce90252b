-- The law of closed tables on jumps and calls to a place that the stack has.
use Rattle.std.specs.Prelude.{ℕ}
use Rattle.law_prove.specs.model_machine.specs.declared.instruction.Ins.TheVariants as ins
use Rattle.law_prove.specs.Laws.{LeadLaw}

-- of the rows whose target is in the top two bytes of the stack
abbrev pub TargetLaw : Type 0
TargetLaw = ((to : ℕ) → LeadLaw (ins.Jump 0 to)) × ((to : ℕ) → LeadLaw (ins.Call 0 to))
