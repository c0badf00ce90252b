-- The families of instructions, by what a row reads and changes.
use Rattle.model_machine.specs.declared.instruction.Ins.{Ins}
use Rattle.model_machine.specs.declared.instruction.Ins.TheVariants.{Nop, Setsw, Setla, Setswla, Exit, Exitsw, Exitla, Exitswla, Branch, Jump, Call, Ret, Reti, Reto, Retio, Pushz, Pushb, Pushw, Popn, Popb, Popw, Loada, Index, Setb, Cmpb, Addb, Subb, Setw, Cmpw, Addw, Subw, Prim}

-- the rows other than PRIM
abbrev pub IsNoPrimitive : Ins → Type 0
IsNoPrimitive (Prim set number args) = ⊥
IsNoPrimitive _ = Unit {0}

-- the rows that set the status or the length of the reply, or end the frame
abbrev pub IsRegisterRow : Ins → Type 0
IsRegisterRow Nop = Unit {0}
IsRegisterRow (Setsw sw) = Unit {0}
IsRegisterRow (Setla la) = Unit {0}
IsRegisterRow (Setswla sw la) = Unit {0}
IsRegisterRow Exit = Unit {0}
IsRegisterRow (Exitsw sw) = Unit {0}
IsRegisterRow (Exitla la) = Unit {0}
IsRegisterRow (Exitswla sw la) = Unit {0}
IsRegisterRow _ = ⊥

-- the rows that depend on their frame alone
abbrev pub IsFrameRow : Ins → Type 0
IsFrameRow (Branch cond d) = Unit {0}
IsFrameRow (Jump cond to) = Unit {0}
IsFrameRow (Call cond to) = Unit {0}
IsFrameRow Ret = Unit {0}
IsFrameRow (Reti i) = Unit {0}
IsFrameRow (Reto o) = Unit {0}
IsFrameRow (Retio i o) = Unit {0}
IsFrameRow (Pushz n) = Unit {0}
IsFrameRow (Pushb b) = Unit {0}
IsFrameRow (Pushw w) = Unit {0}
IsFrameRow (Popn n) = Unit {0}
IsFrameRow Popb = Unit {0}
IsFrameRow Popw = Unit {0}
IsFrameRow (Loada tag off) = Unit {0}
IsFrameRow (Index tag off size) = Unit {0}
IsFrameRow _ = ⊥

-- the other rows than PRIM: those that read or write an operand with an address tag
abbrev pub HasOperand : Ins → Type 0
HasOperand Nop = ⊥
HasOperand (Setsw sw) = ⊥
HasOperand (Setla la) = ⊥
HasOperand (Setswla sw la) = ⊥
HasOperand Exit = ⊥
HasOperand (Exitsw sw) = ⊥
HasOperand (Exitla la) = ⊥
HasOperand (Exitswla sw la) = ⊥
HasOperand (Branch cond d) = ⊥
HasOperand (Jump cond to) = ⊥
HasOperand (Call cond to) = ⊥
HasOperand Ret = ⊥
HasOperand (Reti i) = ⊥
HasOperand (Reto o) = ⊥
HasOperand (Retio i o) = ⊥
HasOperand (Pushz n) = ⊥
HasOperand (Pushb b) = ⊥
HasOperand (Pushw w) = ⊥
HasOperand (Popn n) = ⊥
HasOperand Popb = ⊥
HasOperand Popw = ⊥
HasOperand (Loada tag off) = ⊥
HasOperand (Index tag off size) = ⊥
HasOperand (Prim set number args) = ⊥
HasOperand _ = Unit {0}

-- the rows of a byte or a word with an immediate operand
abbrev pub IsImmediate : Ins → Type 0
IsImmediate (Setb tag off b) = Unit {0}
IsImmediate (Cmpb tag off b) = Unit {0}
IsImmediate (Addb tag off b) = Unit {0}
IsImmediate (Subb tag off b) = Unit {0}
IsImmediate (Setw tag off w) = Unit {0}
IsImmediate (Cmpw tag off w) = Unit {0}
IsImmediate (Addw tag off w) = Unit {0}
IsImmediate (Subw tag off w) = Unit {0}
IsImmediate _ = ⊥
