-- The status words of the manager (ISO/IEC 7816-4).
use Rattle.std.specs.Prelude.{ℕ}
use Rattle.mc_manager.specs.declared.status.Status.{Status}
use Rattle.mc_manager.specs.declared.status.Status.TheVariants.{Done, WrongLength, Conditions, WrongData, NotFound, NoRoom, WrongParameters, Exists, NoInstruction, NoClass}

-- the status word of a status
abbrev pub word_of : Status → ℕ
word_of Done = 0x9000
word_of WrongLength = 0x6700
word_of Conditions = 0x6985
word_of WrongData = 0x6A80
word_of NotFound = 0x6A82
word_of NoRoom = 0x6A84
word_of WrongParameters = 0x6A86
word_of Exists = 0x6A89
word_of NoInstruction = 0x6D00
word_of NoClass = 0x6E00
