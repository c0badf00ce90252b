-- Operands that are read from the bytes after an instruction byte.
use Rattle.std.specs.Prelude.{◌≡◌, ℕ, true, false, nat_le, List, length, Result, Ok, Err}
use Rattle.model_text.specs.model_machine.specs.declared.instruction.DecodeFault.{DecodeFault}
use Rattle.model_text.specs.model_machine.specs.declared.instruction.DecodeFault.TheVariants.{Past}

-- reading an operand of n bytes: its value if n bytes are there, else the fault `Past`
abbrev pub ReadsOperand : {V : Type 0} → Result V DecodeFault → ℕ → List ℕ → V → Type 0
ReadsOperand (Ok v) n bs w = (nat_le n (length bs) ≡ true) × (v ≡ w)
ReadsOperand (Err e) n bs w = (nat_le n (length bs) ≡ false) × (e ≡ Past)
