-- The refusals of a text, and of code.
use Rattle.std.specs.Prelude.{◌≡◌, ℕ, List, Result, Err, ⊤}
use Rattle.model_text.specs.declared.assembler.AsmCause.{AsmCause}
use Rattle.model_text.specs.model_machine.specs.declared.instruction.DecodeFault.{DecodeFault}
use Rattle.mc_asm.specs.declared.refusal.AsmRefusal.{AsmRefusal}
use Rattle.mc_asm.specs.declared.refusal.AsmRefusal.TheVariants.{At, NoMemory}
use Rattle.mc_asm.specs.declared.refusal.ListRefusal.{ListRefusal}
use Rattle.mc_asm.specs.declared.refusal.ListRefusal

-- the refusal is the one of the definition, or out of memory
abbrev pub AssemblyRefuses : {A : Type 0} → Result A (ℕ × AsmCause) → AsmRefusal → Type 0
AssemblyRefuses r (At n c) = r ≡ Err (n, c)
AssemblyRefuses r NoMemory = ⊤

-- the refusal of a listing is the one of the definition, or out of memory
abbrev pub RefusesListing : Result (List ℕ) (ℕ × DecodeFault) → ListRefusal → Type 0
RefusesListing r (ListRefusal.TheVariants.At p f) = r ≡ Err (p, f)
RefusesListing r ListRefusal.TheVariants.NoMemory = ⊤
