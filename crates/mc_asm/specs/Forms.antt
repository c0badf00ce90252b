-- The forms of operands of the code, as values of the definition.
use Rattle.std.specs.Prelude.{ℕ, ℤ, List, take, drop}
use Rattle.model_text.specs.model_machine.specs.Code.{Shaped}
use Rattle.model_text.specs.model_machine.specs.declared.instruction.Ins.{Ins}
use Rattle.model_text.specs.model_machine.specs.declared.instruction.Ins.TheVariants.{Setsw, Setla, Setswla, Exitsw, Exitla, Exitswla, Branch, Jump, Call, Pushz, Pushb, Pushw, Popn, Reti, Reto, Retio, Load, Store, Loadi, Storei, Loada, Index, Setb, Cmpb, Addb, Subb, Setw, Cmpw, Addw, Subw, Clearn, Testn, Incn, Decn, Notn, Cmpn, Addn, Subn, Andn, Orn, Xorn}
use Rattle.model_text.specs.Assembly
use Rattle.model_text.specs.Assembly.{words}
use Rattle.mc_asm.specs.declared.words.ByteWord.{ByteWord}
use Rattle.mc_asm.specs.declared.words.WordWord.{WordWord}
use Rattle.mc_asm.specs.declared.words.WordsWord.{WordsWord}
use Rattle.mc_asm.specs.declared.words.PlaceWord.{PlaceWord}
use Rattle.mc_asm.specs.declared.words.AddressedByteWord.{AddressedByteWord}
use Rattle.mc_asm.specs.declared.words.AddressedWordWord.{AddressedWordWord}
use Rattle.mc_asm.specs.declared.words.Form.{Form}

-- the instruction of a word with a byte
abbrev pub of_byte : ByteWord → ℕ → Ins
of_byte ByteWord.Pushz = Pushz
of_byte ByteWord.Pushb = Pushb
of_byte ByteWord.Popn = Popn
of_byte ByteWord.Reti = Reti
of_byte ByteWord.Reto = Reto

-- the instruction of a word with a two-byte number
abbrev pub of_word : WordWord → ℕ → Ins
of_word WordWord.Setsw = Setsw
of_word WordWord.Setla = Setla
of_word WordWord.Exitsw = Exitsw
of_word WordWord.Exitla = Exitla
of_word WordWord.Pushw = Pushw

-- the instruction of a word with two two-byte numbers
abbrev pub of_words : WordsWord → ℕ → ℕ → Ins
of_words WordsWord.Setswla = Setswla
of_words WordsWord.Exitswla = Exitswla

-- the instruction of a word with a condition and an address of code
abbrev pub by_place : PlaceWord → ℕ → ℕ → Ins
by_place PlaceWord.Jump = Jump
by_place PlaceWord.Call = Call

-- the instruction of a word with an address and a byte
abbrev pub addressed_byte : AddressedByteWord → ℕ → ℤ → ℕ → Ins
addressed_byte AddressedByteWord.Load = Load
addressed_byte AddressedByteWord.Store = Store
addressed_byte AddressedByteWord.Loadi = Loadi
addressed_byte AddressedByteWord.Storei = Storei
addressed_byte AddressedByteWord.Index = Index
addressed_byte AddressedByteWord.Setb = Setb
addressed_byte AddressedByteWord.Cmpb = Cmpb
addressed_byte AddressedByteWord.Addb = Addb
addressed_byte AddressedByteWord.Subb = Subb
addressed_byte AddressedByteWord.Clearn = Clearn
addressed_byte AddressedByteWord.Testn = Testn
addressed_byte AddressedByteWord.Incn = Incn
addressed_byte AddressedByteWord.Decn = Decn
addressed_byte AddressedByteWord.Notn = Notn
addressed_byte AddressedByteWord.Cmpn = Cmpn
addressed_byte AddressedByteWord.Addn = Addn
addressed_byte AddressedByteWord.Subn = Subn
addressed_byte AddressedByteWord.Andn = Andn
addressed_byte AddressedByteWord.Orn = Orn
addressed_byte AddressedByteWord.Xorn = Xorn

-- the instruction of a word with an address and a two-byte number
abbrev pub addressed_word : AddressedWordWord → ℕ → ℤ → ℕ → Ins
addressed_word AddressedWordWord.Setw = Setw
addressed_word AddressedWordWord.Cmpw = Cmpw
addressed_word AddressedWordWord.Addw = Addw
addressed_word AddressedWordWord.Subw = Subw

-- the form of a word's operands, as the definition's value
abbrev pub form_of : Form → Assembly.WordForm
form_of (Form.Bare i) = Assembly.Bare i
form_of (Form.OfByte w) = Assembly.OfByte (of_byte w)
form_of Form.Retio = Assembly.OfBytes Retio
form_of (Form.OfWord w) = Assembly.OfWord (of_word w)
form_of (Form.OfWords w) = Assembly.OfWords (of_words w)
form_of Form.RawByte = Assembly.RawByte
form_of Form.ByDistance = Assembly.ByDistance Branch
form_of (Form.ByPlace w) = Assembly.ByPlace (by_place w)
form_of Form.Primitive = Assembly.Primitive
form_of Form.Addressed = Assembly.Addressed Loada
form_of (Form.AddressedByte w) = Assembly.AddressedByte (addressed_byte w)
form_of (Form.AddressedWord w) = Assembly.AddressedWord (addressed_word w)

-- the fields of an instruction without operands are in their ranges
abbrev pub BareShaped : Form → Type 0
BareShaped (Form.Bare i) = Shaped i
BareShaped form = Unit {0}

-- ---- the table of words by families

-- the words of registers and exits
abbrev pub register_words : List (List ℕ × Assembly.WordForm)
register_words = take 8 (drop 0 words)

-- the words of branches, and of pushes and pops
abbrev pub stack_words : List (List ℕ × Assembly.WordForm)
stack_words = take 9 (drop 8 words)

-- the words of primitives and returns, and the raw byte
abbrev pub call_words : List (List ℕ × Assembly.WordForm)
call_words = take 6 (drop 17 words)

-- the words of loads and stores
abbrev pub memory_words : List (List ℕ × Assembly.WordForm)
memory_words = take 6 (drop 23 words)

-- the words of bytes and words
abbrev pub number_words : List (List ℕ × Assembly.WordForm)
number_words = take 8 (drop 29 words)

-- the words of blocks
abbrev pub block_words : List (List ℕ × Assembly.WordForm)
block_words = take 11 (drop 37 words)
