-- The laws of closed tables on rows that write at an address that bytes of the memory decide.
use Rattle.std.specs.Prelude.{ℕ, ℤ, List}
use Rattle.law_prove.specs.model_machine.specs.declared.instruction.Ins.TheVariants as ins
use Rattle.law_prove.specs.Laws.{LeadLaw}

-- of the row that stores the top of the stack at the address that an operand has
abbrev pub StoreLaw : Type 0
StoreLaw = (tag : ℕ) (off : ℤ) (n : ℕ) → LeadLaw (ins.Storei tag off n)

-- of the copies whose addresses the stack has
abbrev pub CopyLaw : Type 0
CopyLaw = ((args : List ℕ) → LeadLaw (ins.Prim 0 6 args)) × ((args : List ℕ) → LeadLaw (ins.Prim 1 2 args))

-- of the digest and of the ciphers, whose results have no fact: a message enciphered and deciphered, and a signature,
-- under each cipher
abbrev pub ResultLaw : Type 0
ResultLaw =
    ((args : List ℕ) → LeadLaw (ins.Prim 0 9 args))
    × ((args : List ℕ) → LeadLaw (ins.Prim 1 4 args))
    × ((args : List ℕ) → LeadLaw (ins.Prim 1 5 args))
    × ((args : List ℕ) → LeadLaw (ins.Prim 1 6 args))
    × ((args : List ℕ) → LeadLaw (ins.Prim 1 7 args))
    × ((args : List ℕ) → LeadLaw (ins.Prim 1 8 args))
    × ((args : List ℕ) → LeadLaw (ins.Prim 1 9 args))
    × ((args : List ℕ) → LeadLaw (ins.Prim 1 10 args))
    × ((args : List ℕ) → LeadLaw (ins.Prim 1 11 args))
    × ((args : List ℕ) → LeadLaw (ins.Prim 1 12 args))

-- of the primitive that writes the name of the delegator
abbrev pub DelegatorLaw : Type 0
DelegatorLaw = (args : List ℕ) → LeadLaw (ins.Prim 0 8 args)
