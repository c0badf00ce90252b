-- The words that are printed for the causes of the assembler.
use Rattle.std.specs.Prelude.{ℕ, List, codes}
use Rattle.model_text.specs.declared.assembler.AsmCause.{AsmCause}
use Rattle.model_text.specs.declared.assembler.AsmCause.TheVariants as asm

-- the printed word of why a line of an assembly text is refused
abbrev pub asm_word : AsmCause → List ℕ
asm_word asm.UnknownWord = codes "UnknownWord"
asm_word asm.BadOperands = codes "BadOperands"
asm_word asm.BadNumber = codes "BadNumber"
asm_word asm.OutOfRange = codes "OutOfRange"
asm_word asm.LabelTwice = codes "LabelTwice"
asm_word asm.TooLong = codes "TooLong"
asm_word asm.UnknownLabel = codes "UnknownLabel"
asm_word asm.FarBranch = codes "FarBranch"
