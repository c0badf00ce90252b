-- The laws of closed tables that all rows together give.
use Rattle.std.specs.Prelude.{ℕ, List}
use Rattle.law_prove.specs.model_machine.specs.declared.instruction.Ins.{Ins}
use Rattle.law_prove.specs.model_machine.specs.declared.instruction.Ins.TheVariants as ins
use Rattle.law_prove.specs.Laws.{LeadLaw, RowLaw}

-- of the primitive that delegates
abbrev pub DelegateLaw : Type 0
DelegateLaw = (args : List ℕ) → RowLaw (ins.Prim 0 7 args)

-- of each instruction
abbrev pub AllRowsLaw : Type 0
AllRowsLaw = (i : Ins) → RowLaw i

-- and so of tables that lead into others
abbrev pub AllLeadsLaw : Type 0
AllLeadsLaw = (i : Ins) → LeadLaw i
