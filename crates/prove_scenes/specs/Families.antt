-- The families of instructions, by what a row works on.
use Rattle.model_machine.specs.declared.instruction.Ins.{Ins}
use Rattle.model_machine.specs.declared.instruction.Ins.TheVariants.{Branch, Jump, Call, Ret, Reti, Reto, Retio, Pushz, Pushb, Pushw, Popn, Popb, Popw, Load, Store, Loadi, Storei, Loada, Index, Setb, Cmpb, Addb, Subb, Setw, Cmpw, Addw, Subw, Clearn, Testn, Incn, Decn, Notn, Cmpn, Addn, Subn, Andn, Orn, Xorn}

-- the rows that go to another place
abbrev pub IsFlowRow : Ins → Type 0
IsFlowRow (Branch cond d) = Unit {0}
IsFlowRow (Jump cond to) = Unit {0}
IsFlowRow (Call cond to) = Unit {0}
IsFlowRow Ret = Unit {0}
IsFlowRow (Reti i) = Unit {0}
IsFlowRow (Reto o) = Unit {0}
IsFlowRow (Retio i o) = Unit {0}
IsFlowRow _ = ⊥

-- the rows that push a constant, or pop
abbrev pub IsStackRow : Ins → Type 0
IsStackRow (Pushz n) = Unit {0}
IsStackRow (Pushb b) = Unit {0}
IsStackRow (Pushw w) = Unit {0}
IsStackRow (Popn n) = Unit {0}
IsStackRow Popb = Unit {0}
IsStackRow Popw = Unit {0}
IsStackRow _ = ⊥

-- the rows between the stack and a segment, and of addresses
abbrev pub IsTransfer : Ins → Type 0
IsTransfer (Load tag off n) = Unit {0}
IsTransfer (Store tag off n) = Unit {0}
IsTransfer (Loadi tag off n) = Unit {0}
IsTransfer (Storei tag off n) = Unit {0}
IsTransfer (Loada tag off) = Unit {0}
IsTransfer (Index tag off size) = Unit {0}
IsTransfer _ = ⊥

-- the rows of a byte or a word with an immediate operand
abbrev pub IsImmediate : Ins → Type 0
IsImmediate (Setb tag off b) = Unit {0}
IsImmediate (Cmpb tag off b) = Unit {0}
IsImmediate (Addb tag off b) = Unit {0}
IsImmediate (Subb tag off b) = Unit {0}
IsImmediate (Setw tag off w) = Unit {0}
IsImmediate (Cmpw tag off w) = Unit {0}
IsImmediate (Addw tag off w) = Unit {0}
IsImmediate (Subw tag off w) = Unit {0}
IsImmediate _ = ⊥

-- the rows of n bytes at a place
abbrev pub IsBlockRow : Ins → Type 0
IsBlockRow (Clearn tag off n) = Unit {0}
IsBlockRow (Testn tag off n) = Unit {0}
IsBlockRow (Incn tag off n) = Unit {0}
IsBlockRow (Decn tag off n) = Unit {0}
IsBlockRow (Notn tag off n) = Unit {0}
IsBlockRow (Cmpn tag off n) = Unit {0}
IsBlockRow (Addn tag off n) = Unit {0}
IsBlockRow (Subn tag off n) = Unit {0}
IsBlockRow (Andn tag off n) = Unit {0}
IsBlockRow (Orn tag off n) = Unit {0}
IsBlockRow (Xorn tag off n) = Unit {0}
IsBlockRow _ = ⊥
