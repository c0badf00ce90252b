-- The laws of closed tables on rows that read at an address from the memory, or that a byte there decides.
use Rattle.std.specs.Prelude.{◌≡◌, ℕ, ℤ, List, None}
use Rattle.law_prove.specs.model_machine.specs.declared.instruction.Ins.TheVariants as ins
use Rattle.law_prove.specs.model_machine.specs.Primitives.{primitive}
use Rattle.law_prove.specs.Laws.{LeadLaw}

-- of a pair of set and number that is no primitive
abbrev pub UnknownLaw : Type 0
UnknownLaw = (set number : ℕ) (args : List ℕ) → primitive set number ≡ None → LeadLaw (ins.Prim set number args)

-- of the primitives that shift the top of the stack
abbrev pub ShiftLaw : Type 0
ShiftLaw = ((args : List ℕ) → LeadLaw (ins.Prim 2 2 args)) × ((args : List ℕ) → LeadLaw (ins.Prim 2 3 args))

-- of the rows that push what an address from the memory leads to
abbrev pub AddressLaw : Type 0
AddressLaw = ((tag : ℕ) (off : ℤ) (n : ℕ) → LeadLaw (ins.Loadi tag off n)) × ((tag : ℕ) (off : ℤ) (size : ℕ) → LeadLaw (ins.Index tag off size))

-- of the primitive that searches a table
abbrev pub SearchLaw : Type 0
SearchLaw = (args : List ℕ) → LeadLaw (ins.Prim 0 4 args)

-- of the primitives that compare the bytes at two addresses
abbrev pub BlockLaw : Type 0
BlockLaw = ((args : List ℕ) → LeadLaw (ins.Prim 0 5 args)) × ((args : List ℕ) → LeadLaw (ins.Prim 1 1 args))

-- of the primitives whose flags are by the top byte of the stack
abbrev pub FlagLaw : Type 0
FlagLaw = ((args : List ℕ) → LeadLaw (ins.Prim 0 1 args)) × ((args : List ℕ) → LeadLaw (ins.Prim 0 3 args))
