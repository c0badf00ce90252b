-- The text of one instruction, and the listing of code.
-- Bytes, lengths, offsets and displacements in decimal, words and addresses of code as 0x and four upper case
-- hexadecimal digits.
use Rattle.std.specs.Prelude.{ℕ, zero, suc, ◌+◌, ◌-◌, ◌/◌, ◌%◌, Bool, true, false, cond, ◌==◌, nat_lt, ℤ, List, [], ◌∷◌, ◌++◌, length, take, drop, Result, Ok, Err, codes, decimal, slice_index_or}
use Rattle.std.specs.Fmt.{signed_decimal}
use Rattle.model_machine.specs.Code.{front}
use Rattle.model_machine.specs.declared.instruction.DecodeFault.{DecodeFault}
use Rattle.model_machine.specs.declared.instruction.Ins.{Ins}
use Rattle.model_machine.specs.declared.instruction.Ins.TheVariants.{Nop, Setsw, Setla, Setswla, Exit, Exitsw, Exitla, Exitswla, Branch, Jump, Call, Pushz, Pushb, Pushw, Popn, Popb, Popw, Prim, Ret, Reti, Reto, Retio, Load, Store, Loadi, Storei, Loada, Index, Setb, Cmpb, Addb, Subb, Setw, Cmpw, Addw, Subw, Clearn, Testn, Incn, Decn, Notn, Cmpn, Addn, Subn, Andn, Orn, Xorn}

-- ---- parts of a line

-- the upper case hexadecimal digit of a number below 16
abbrev pub hex_digit : ℕ → ℕ
hex_digit d = cond (nat_lt d 10) (48 + d) (55 + d)

-- bytes in upper case hexadecimal, without blanks
abbrev pub hex_text : List ℕ → List ℕ
hex_text [] = []
hex_text (b ∷ bs) = hex_digit (b / 16 % 16) ∷ hex_digit (b % 16) ∷ hex_text bs

-- a word or an address of code
abbrev pub hex_word : ℕ → List ℕ
hex_word w = codes "0x" ++ (hex_digit (w / 4096 % 16) ∷ hex_digit (w / 256 % 16) ∷ hex_digit (w / 16 % 16) ∷ hex_digit (w % 16) ∷ [])

-- the names of the conditions, from 1 on
abbrev pub condition_names : List (List ℕ)
condition_names = codes "EQ" ∷ codes "LT" ∷ codes "LE" ∷ codes "GT" ∷ codes "GE" ∷ codes "NE" ∷ codes "ALL" ∷ []

-- a condition's word
abbrev pub condition_name : ℕ → List ℕ
condition_name c = slice_index_or condition_names (c - 1) []

-- the names of the registers, by tag from 1 on
abbrev pub register_names : List (List ℕ)
register_names = codes "SB" ∷ codes "ST" ∷ codes "DB" ∷ codes "LB" ∷ codes "DT" ∷ codes "PB" ∷ codes "PT" ∷ []

-- a register's word
abbrev pub register_name : ℕ → List ℕ
register_name tag = slice_index_or register_names (tag - 1) []

-- a register with its offset
abbrev pub address_text : ℕ → ℤ → List ℕ
address_text tag off = register_name tag ++ codes "[" ++ signed_decimal off ++ codes "]"

-- the arguments of a primitive, each after a comma
abbrev pub arguments_text : List ℕ → List ℕ
arguments_text [] = []
arguments_text (b ∷ bs) = codes "," ++ decimal b ++ arguments_text bs

-- ---- lines by the shape of their operands

-- a line of a word and a byte
abbrev pub byte_line : List ℕ → ℕ → List ℕ
byte_line name n = name ++ codes " " ++ decimal n

-- a line of a word and a two-byte number
abbrev pub word_line : List ℕ → ℕ → List ℕ
word_line name w = name ++ codes " " ++ hex_word w

-- a line of a word and two two-byte numbers
abbrev pub words_line : List ℕ → ℕ → ℕ → List ℕ
words_line name v w = name ++ codes " " ++ hex_word v ++ codes "," ++ hex_word w

-- a jump or call: the name alone with condition 0
abbrev pub target_line : List ℕ → ℕ → ℕ → List ℕ
target_line name c to = cond (c == 0) name (name ++ codes " " ++ condition_name c ++ codes "," ++ hex_word to)

-- an address alone: the name alone with tag 0
abbrev pub address_line : List ℕ → ℕ → ℤ → List ℕ
address_line name tag off = cond (tag == 0) name (name ++ codes " " ++ address_text tag off)

-- an address, none with tag 0, and an operand
abbrev pub operand_line : List ℕ → ℕ → ℤ → List ℕ → List ℕ
operand_line name tag off operand = name ++ codes " " ++ cond (tag == 0) [] (address_text tag off ++ codes ",") ++ operand

-- ---- the line of one instruction, without its line feed

-- the line of an instruction in a listing, without its line feed
abbrev pub text_of : Ins → List ℕ
text_of Nop = codes "NOP"
text_of (Setsw sw) = word_line (codes "SETSW") sw
text_of (Setla la) = word_line (codes "SETLA") la
text_of (Setswla sw la) = words_line (codes "SETSWLA") sw la
text_of Exit = codes "EXIT"
text_of (Exitsw sw) = word_line (codes "EXITSW") sw
text_of (Exitla la) = word_line (codes "EXITLA") la
text_of (Exitswla sw la) = words_line (codes "EXITSWLA") sw la
text_of (Branch c d) = codes "BRANCH " ++ condition_name c ++ codes "," ++ signed_decimal d
text_of (Jump c to) = target_line (codes "JUMP") c to
text_of (Call c to) = target_line (codes "CALL") c to
text_of (Pushz n) = byte_line (codes "PUSHZ") n
text_of (Pushb b) = byte_line (codes "PUSHB") b
text_of (Pushw w) = word_line (codes "PUSHW") w
text_of (Popn n) = byte_line (codes "POPN") n
text_of Popb = codes "POPB"
text_of Popw = codes "POPW"
text_of (Prim set number args) = byte_line (codes "PRIM") number ++ arguments_text (take set args)
text_of Ret = codes "RET"
text_of (Reti i) = byte_line (codes "RETI") i
text_of (Reto o) = byte_line (codes "RETO") o
text_of (Retio i o) = byte_line (codes "RETIO") i ++ codes "," ++ decimal o
text_of (Load tag off n) = operand_line (codes "LOAD") tag off (decimal n)
text_of (Store tag off n) = operand_line (codes "STORE") tag off (decimal n)
text_of (Loadi tag off n) = operand_line (codes "LOADI") tag off (decimal n)
text_of (Storei tag off n) = operand_line (codes "STOREI") tag off (decimal n)
text_of (Loada tag off) = address_line (codes "LOADA") tag off
text_of (Index tag off n) = operand_line (codes "INDEX") tag off (decimal n)
text_of (Setb tag off b) = operand_line (codes "SETB") tag off (decimal b)
text_of (Cmpb tag off b) = operand_line (codes "CMPB") tag off (decimal b)
text_of (Addb tag off b) = operand_line (codes "ADDB") tag off (decimal b)
text_of (Subb tag off b) = operand_line (codes "SUBB") tag off (decimal b)
text_of (Setw tag off w) = operand_line (codes "SETW") tag off (hex_word w)
text_of (Cmpw tag off w) = operand_line (codes "CMPW") tag off (hex_word w)
text_of (Addw tag off w) = operand_line (codes "ADDW") tag off (hex_word w)
text_of (Subw tag off w) = operand_line (codes "SUBW") tag off (hex_word w)
text_of (Clearn tag off n) = operand_line (codes "CLEARN") tag off (decimal n)
text_of (Testn tag off n) = operand_line (codes "TESTN") tag off (decimal n)
text_of (Incn tag off n) = operand_line (codes "INCN") tag off (decimal n)
text_of (Decn tag off n) = operand_line (codes "DECN") tag off (decimal n)
text_of (Notn tag off n) = operand_line (codes "NOTN") tag off (decimal n)
text_of (Cmpn tag off n) = operand_line (codes "CMPN") tag off (decimal n)
text_of (Addn tag off n) = operand_line (codes "ADDN") tag off (decimal n)
text_of (Subn tag off n) = operand_line (codes "SUBN") tag off (decimal n)
text_of (Andn tag off n) = operand_line (codes "ANDN") tag off (decimal n)
text_of (Orn tag off n) = operand_line (codes "ORN") tag off (decimal n)
text_of (Xorn tag off n) = operand_line (codes "XORN") tag off (decimal n)

-- ---- the listing of code

-- a line before the lines after it
abbrev pub line_before : List ℕ → Result (List ℕ) (ℕ × DecodeFault) → Result (List ℕ) (ℕ × DecodeFault)
line_before line (Ok rest) = Ok (line ++ codes "\n" ++ rest)
line_before line (Err e) = Err e

-- the line of the instruction at a place, and those after it
abbrev pub listing_with : ℕ → Result (Ins × ℕ) DecodeFault → Result (List ℕ) (ℕ × DecodeFault) → Result (List ℕ) (ℕ × DecodeFault)
listing_with at (Ok p) rest = line_before (text_of p.0) rest
listing_with at (Err e) rest = Err (at, e)

-- the number of bytes of an instruction, 0 if there is none
abbrev pub length_of : Result (Ins × ℕ) DecodeFault → ℕ
length_of (Ok p) = p.1
length_of (Err e) = 0

-- the lines of the remaining bytes from a place on; the fuel is at least their number
unfoldable pub listing_from : ℕ → List ℕ → ℕ → Result (List ℕ) (ℕ × DecodeFault)
listing_from zero left at = Ok []
listing_from (suc fuel) [] at = Ok []
listing_from (suc fuel) (b ∷ bs) at =
    let ins = front (b ∷ bs) in
    let rest = listing_from fuel (drop (length_of ins) (b ∷ bs)) (at + length_of ins) in
    listing_with at ins rest

-- the listing of code, or the first place from 0 on that has no instruction
unfoldable pub listing_of_code : List ℕ → Result (List ℕ) (ℕ × DecodeFault)
unfolding listing_from
listing_of_code code = listing_from (length code) code 0
