-- Instructions as bytes: the table of instruction bytes, the spelling, and the instruction at a place of code.
-- An instruction byte is op * 8 + tag, its operands follow, and then two bytes of signed offset if an address has a tag
-- other than 0.
use Rattle.std.specs.Prelude.{◌≡◌, ℕ, ◌+◌, ◌-◌, ◌*◌, ◌/◌, ◌%◌, ◌<◌, ◌≤◌, ◌⊎◌, Bool, true, false, cond, ◌==◌, nat_le, ℤ, pos, FitsSigned, List, [], ◌∷◌, ◌++◌, length, take, drop, replicate, slice_index, Option, Some, None, option_map, option_and_then, Result, Ok, Err}
use Rattle.std.specs.List.{AllByRecursion}
use Rattle.std.specs.Int.{w8, w16, cast_signed, cast_unsigned}
use Rattle.model_device.specs.Bytes.{be2, bytes2, zeros}
use Rattle.model_machine.specs.declared.instruction.DecodeFault.{DecodeFault}
use Rattle.model_machine.specs.declared.instruction.DecodeFault.TheVariants.{Undefined, Past}
use Rattle.model_machine.specs.declared.instruction.Ins.{Ins}
use Rattle.model_machine.specs.declared.instruction.Ins.TheVariants.{Nop, Setsw, Setla, Setswla, Exit, Exitsw, Exitla, Exitswla, Branch, Jump, Call, Pushz, Pushb, Pushw, Popn, Popb, Popw, Prim, Ret, Reti, Reto, Retio, Load, Store, Loadi, Storei, Loada, Index, Setb, Cmpb, Addb, Subb, Setw, Cmpw, Addw, Subw, Clearn, Testn, Incn, Decn, Notn, Cmpn, Addn, Subn, Andn, Orn, Xorn}

-- ---- the table of instruction bytes

-- the kinds of operand: one byte or two, unsigned or in two's complement
pub data Kind : Type 0 where
  U8 : Kind
  U16 : Kind
  I8 : Kind
  I16 : Kind

-- the number of bytes of an operand
abbrev pub size : Kind → ℕ
size U8 = 1
size U16 = 2
size I8 = 1
size I16 = 2

-- the number of bytes of a list of operands
abbrev pub total : List Kind → ℕ
total [] = 0
total (k ∷ ks) = size k + total ks

-- a row: the operands after an instruction byte, in their order, and the instruction that they make; a number in front
-- is the condition, the set or the tag, by which an address or an offset follows or not
pub data Form : Type 0 where
  Plain : Ins → Form
  OneByte : (ℕ → Ins) → Form
  TwoBytes : (ℕ → ℕ → Ins) → Form
  Word : (ℕ → Ins) → Form
  TwoWords : (ℕ → ℕ → Ins) → Form
  Near : (ℤ → Ins) → Form
  Target : ℕ → (ℕ → Ins) → Form
  Primitive : ℕ → Form
  Offset : ℕ → (ℤ → Ins) → Form
  ByteOffset : ℕ → (ℤ → ℕ → Ins) → Form
  WordOffset : ℕ → (ℤ → ℕ → Ins) → Form

-- the entry of a table at a number
abbrev pub row_at : {A : Type 0} → ℕ → List (ℕ × A) → Option A
row_at n [] = None
row_at n (r ∷ rs) = cond (n == r.0) (Some r.1) (row_at n rs)

-- op 00, by tag
abbrev pub register_rows : List (ℕ × Form)
register_rows =
    (0, Plain Nop)
    ∷ (1, Word (λ sw. Setsw sw))
    ∷ (2, Word (λ la. Setla la))
    ∷ (3, TwoWords (λ sw la. Setswla sw la))
    ∷ (4, Plain Exit)
    ∷ (5, Word (λ sw. Exitsw sw))
    ∷ (6, Word (λ la. Exitla la))
    ∷ (7, TwoWords (λ sw la. Exitswla sw la))
    ∷ []

-- op 04, by tag
abbrev pub stack_rows : List (ℕ × Form)
stack_rows =
    (0, OneByte (λ n. Pushz n))
    ∷ (1, OneByte (λ b. Pushb b))
    ∷ (2, Word (λ w. Pushw w))
    ∷ (4, OneByte (λ n. Popn n))
    ∷ (5, Plain Popb)
    ∷ (6, Plain Popw)
    ∷ []

-- op 05, by tag: a primitive of the set `tag`, or a return
abbrev pub call_rows : List (ℕ × Form)
call_rows =
    (0, Primitive 0)
    ∷ (1, Primitive 1)
    ∷ (2, Primitive 2)
    ∷ (3, Primitive 3)
    ∷ (4, Plain Ret)
    ∷ (5, OneByte (λ i. Reti i))
    ∷ (6, OneByte (λ o. Reto o))
    ∷ (7, TwoBytes (λ i o. Retio i o))
    ∷ []

-- a displacement after a condition; there is none for condition 0
abbrev pub near_row : (ℕ → ℤ → Ins) → ℕ → Option Form
near_row f c = cond (c == 0) None (Some (Near (f c)))

-- an address of code after a condition
abbrev pub target_row : (ℕ → ℕ → Ins) → ℕ → Option Form
target_row f c = Some (Target c (f c))

-- a row with an address alone
abbrev pub address_row : (ℕ → ℤ → Ins) → ℕ → Option Form
address_row f tag = Some (Offset tag (f tag))

-- a row with an address and a byte
abbrev pub byte_row : (ℕ → ℤ → ℕ → Ins) → ℕ → Option Form
byte_row f tag = Some (ByteOffset tag (f tag))

-- a row with an address and a word
abbrev pub word_row : (ℕ → ℤ → ℕ → Ins) → ℕ → Option Form
word_row f tag = Some (WordOffset tag (f tag))

-- the rows of each op, by tag or condition
abbrev pub rows : List (ℕ × (ℕ → Option Form))
rows =
    (0x00, λ tag. row_at tag register_rows)
    ∷ (0x01, near_row (λ c d. Branch c d))
    ∷ (0x02, target_row (λ c to. Jump c to))
    ∷ (0x03, target_row (λ c to. Call c to))
    ∷ (0x04, λ tag. row_at tag stack_rows)
    ∷ (0x05, λ tag. row_at tag call_rows)
    ∷ (0x07, byte_row (λ tag off n. Load tag off n))
    ∷ (0x08, byte_row (λ tag off n. Store tag off n))
    ∷ (0x09, byte_row (λ tag off n. Loadi tag off n))
    ∷ (0x0A, byte_row (λ tag off n. Storei tag off n))
    ∷ (0x0B, address_row (λ tag off. Loada tag off))
    ∷ (0x0C, byte_row (λ tag off n. Index tag off n))
    ∷ (0x0D, byte_row (λ tag off b. Setb tag off b))
    ∷ (0x0E, byte_row (λ tag off b. Cmpb tag off b))
    ∷ (0x0F, byte_row (λ tag off b. Addb tag off b))
    ∷ (0x10, byte_row (λ tag off b. Subb tag off b))
    ∷ (0x11, word_row (λ tag off w. Setw tag off w))
    ∷ (0x12, word_row (λ tag off w. Cmpw tag off w))
    ∷ (0x13, word_row (λ tag off w. Addw tag off w))
    ∷ (0x14, word_row (λ tag off w. Subw tag off w))
    ∷ (0x15, byte_row (λ tag off n. Clearn tag off n))
    ∷ (0x16, byte_row (λ tag off n. Testn tag off n))
    ∷ (0x17, byte_row (λ tag off n. Incn tag off n))
    ∷ (0x18, byte_row (λ tag off n. Decn tag off n))
    ∷ (0x19, byte_row (λ tag off n. Notn tag off n))
    ∷ (0x1A, byte_row (λ tag off n. Cmpn tag off n))
    ∷ (0x1B, byte_row (λ tag off n. Addn tag off n))
    ∷ (0x1C, byte_row (λ tag off n. Subn tag off n))
    ∷ (0x1D, byte_row (λ tag off n. Andn tag off n))
    ∷ (0x1E, byte_row (λ tag off n. Orn tag off n))
    ∷ (0x1F, byte_row (λ tag off n. Xorn tag off n))
    ∷ []

-- the row of an op and a tag, None if they begin no instruction
abbrev pub row_of : ℕ → ℕ → Option Form
row_of op tag = option_and_then (λ by_tag. by_tag tag) (row_at op rows)

-- the row of an instruction byte
abbrev pub form : ℕ → Option Form
form b = row_of (b / 8) (b % 8)

-- the kinds after a condition or a tag: condition 0 takes its address from the stack, and tag 0 has no offset
abbrev pub behind : ℕ → Kind → List Kind
behind n k = cond (n == 0) [] (k ∷ [])

-- the operands of a row
abbrev pub operands : Form → List Kind
operands (Plain i) = []
operands (OneByte f) = U8 ∷ []
operands (TwoBytes f) = U8 ∷ U8 ∷ []
operands (Word f) = U16 ∷ []
operands (TwoWords f) = U16 ∷ U16 ∷ []
operands (Near f) = I8 ∷ []
operands (Target c f) = behind c U16
operands (Primitive set) = U8 ∷ replicate set U8
operands (Offset tag f) = behind tag I16
operands (ByteOffset tag f) = U8 ∷ behind tag I16
operands (WordOffset tag f) = U16 ∷ behind tag I16

-- the operands after an instruction byte, None if it begins no instruction
abbrev pub kinds : ℕ → Option (List Kind)
kinds b = option_map operands (form b)

-- ---- spelling

-- the address of a jump or call: none with condition 0
abbrev pub target : ℕ → ℕ → List ℕ
target c to = cond (c == 0) [] (bytes2 to)

-- the offset of an address: none with tag 0
abbrev pub offset : ℕ → ℤ → List ℕ
offset tag off = cond (tag == 0) [] (bytes2 (cast_unsigned w16 off))

-- the one spelling of an instruction: its byte, and its operands in the table's order
abbrev pub spell : Ins → List ℕ
spell Nop = 0x00 ∷ []
spell (Setsw sw) = 0x01 ∷ bytes2 sw
spell (Setla la) = 0x02 ∷ bytes2 la
spell (Setswla sw la) = 0x03 ∷ bytes2 sw ++ bytes2 la
spell Exit = 0x04 ∷ []
spell (Exitsw sw) = 0x05 ∷ bytes2 sw
spell (Exitla la) = 0x06 ∷ bytes2 la
spell (Exitswla sw la) = 0x07 ∷ bytes2 sw ++ bytes2 la
spell (Branch c d) = (0x01 * 8 + c) ∷ cast_unsigned w8 d ∷ []
spell (Jump c to) = (0x02 * 8 + c) ∷ target c to
spell (Call c to) = (0x03 * 8 + c) ∷ target c to
spell (Pushz n) = 0x20 ∷ n ∷ []
spell (Pushb b) = 0x21 ∷ b ∷ []
spell (Pushw w) = 0x22 ∷ bytes2 w
spell (Popn n) = 0x24 ∷ n ∷ []
spell Popb = 0x25 ∷ []
spell Popw = 0x26 ∷ []
spell (Prim set number args) = (0x05 * 8 + set) ∷ number ∷ take set args
spell Ret = 0x2C ∷ []
spell (Reti i) = 0x2D ∷ i ∷ []
spell (Reto o) = 0x2E ∷ o ∷ []
spell (Retio i o) = 0x2F ∷ i ∷ o ∷ []
spell (Load tag off n) = (0x07 * 8 + tag) ∷ n ∷ offset tag off
spell (Store tag off n) = (0x08 * 8 + tag) ∷ n ∷ offset tag off
spell (Loadi tag off n) = (0x09 * 8 + tag) ∷ n ∷ offset tag off
spell (Storei tag off n) = (0x0A * 8 + tag) ∷ n ∷ offset tag off
spell (Loada tag off) = (0x0B * 8 + tag) ∷ offset tag off
spell (Index tag off size) = (0x0C * 8 + tag) ∷ size ∷ offset tag off
spell (Setb tag off b) = (0x0D * 8 + tag) ∷ b ∷ offset tag off
spell (Cmpb tag off b) = (0x0E * 8 + tag) ∷ b ∷ offset tag off
spell (Addb tag off b) = (0x0F * 8 + tag) ∷ b ∷ offset tag off
spell (Subb tag off b) = (0x10 * 8 + tag) ∷ b ∷ offset tag off
spell (Setw tag off w) = (0x11 * 8 + tag) ∷ bytes2 w ++ offset tag off
spell (Cmpw tag off w) = (0x12 * 8 + tag) ∷ bytes2 w ++ offset tag off
spell (Addw tag off w) = (0x13 * 8 + tag) ∷ bytes2 w ++ offset tag off
spell (Subw tag off w) = (0x14 * 8 + tag) ∷ bytes2 w ++ offset tag off
spell (Clearn tag off n) = (0x15 * 8 + tag) ∷ n ∷ offset tag off
spell (Testn tag off n) = (0x16 * 8 + tag) ∷ n ∷ offset tag off
spell (Incn tag off n) = (0x17 * 8 + tag) ∷ n ∷ offset tag off
spell (Decn tag off n) = (0x18 * 8 + tag) ∷ n ∷ offset tag off
spell (Notn tag off n) = (0x19 * 8 + tag) ∷ n ∷ offset tag off
spell (Cmpn tag off n) = (0x1A * 8 + tag) ∷ n ∷ offset tag off
spell (Addn tag off n) = (0x1B * 8 + tag) ∷ n ∷ offset tag off
spell (Subn tag off n) = (0x1C * 8 + tag) ∷ n ∷ offset tag off
spell (Andn tag off n) = (0x1D * 8 + tag) ∷ n ∷ offset tag off
spell (Orn tag off n) = (0x1E * 8 + tag) ∷ n ∷ offset tag off
spell (Xorn tag off n) = (0x1F * 8 + tag) ∷ n ∷ offset tag off

-- ---- ranges

-- a number of one byte
abbrev pub IsByte : ℕ → Type 0
IsByte n = n < 256

-- a number of two bytes
abbrev pub IsWord : ℕ → Type 0
IsWord n = n < 65536

-- the condition and the address of a jump or call
pub record IsTarget (c to : ℕ) : Type 0 where
  pub condition : c < 8
  pub address : to < 65536
  pub stack : c ≡ 0 → to ≡ 0

-- the tag and the offset of an address
pub record IsAddress (tag : ℕ) (off : ℤ) : Type 0 where
  pub register : tag < 8
  pub offset : FitsSigned w16 off
  pub top : tag ≡ 0 → off ≡ pos 0

-- a primitive: its set, number and three argument bytes, of which those past the set's number are 0
pub record IsPrimitive (set number : ℕ) (args : List ℕ) : Type 0 where
  pub sets : set < 4
  pub byte : number < 256
  pub three : length args ≡ 3
  pub bytes : AllByRecursion (λ b. b < 256) args
  pub rest : drop set args ≡ zeros (3 - set)

-- the fields of an instruction are in their ranges
abbrev pub Shaped : Ins → Type 0
Shaped Nop = Unit {0}
Shaped (Setsw sw) = IsWord sw
Shaped (Setla la) = IsWord la
Shaped (Setswla sw la) = IsWord sw × IsWord la
Shaped Exit = Unit {0}
Shaped (Exitsw sw) = IsWord sw
Shaped (Exitla la) = IsWord la
Shaped (Exitswla sw la) = IsWord sw × IsWord la
Shaped (Branch c d) = (0 < c) × (c < 8) × FitsSigned w8 d
Shaped (Jump c to) = IsTarget c to
Shaped (Call c to) = IsTarget c to
Shaped (Pushz n) = IsByte n
Shaped (Pushb b) = IsByte b
Shaped (Pushw w) = IsWord w
Shaped (Popn n) = IsByte n
Shaped Popb = Unit {0}
Shaped Popw = Unit {0}
Shaped (Prim set number args) = IsPrimitive set number args
Shaped Ret = Unit {0}
Shaped (Reti i) = IsByte i
Shaped (Reto o) = IsByte o
Shaped (Retio i o) = IsByte i × IsByte o
Shaped (Load tag off n) = IsAddress tag off × IsByte n
Shaped (Store tag off n) = IsAddress tag off × IsByte n
Shaped (Loadi tag off n) = IsAddress tag off × IsByte n
Shaped (Storei tag off n) = IsAddress tag off × IsByte n
Shaped (Loada tag off) = IsAddress tag off
Shaped (Index tag off n) = IsAddress tag off × IsByte n
Shaped (Setb tag off b) = IsAddress tag off × IsByte b
Shaped (Cmpb tag off b) = IsAddress tag off × IsByte b
Shaped (Addb tag off b) = IsAddress tag off × IsByte b
Shaped (Subb tag off b) = IsAddress tag off × IsByte b
Shaped (Setw tag off w) = IsAddress tag off × IsWord w
Shaped (Cmpw tag off w) = IsAddress tag off × IsWord w
Shaped (Addw tag off w) = IsAddress tag off × IsWord w
Shaped (Subw tag off w) = IsAddress tag off × IsWord w
Shaped (Clearn tag off n) = IsAddress tag off × IsByte n
Shaped (Testn tag off n) = IsAddress tag off × IsByte n
Shaped (Incn tag off n) = IsAddress tag off × IsByte n
Shaped (Decn tag off n) = IsAddress tag off × IsByte n
Shaped (Notn tag off n) = IsAddress tag off × IsByte n
Shaped (Cmpn tag off n) = IsAddress tag off × IsByte n
Shaped (Addn tag off n) = IsAddress tag off × IsByte n
Shaped (Subn tag off n) = IsAddress tag off × IsByte n
Shaped (Andn tag off n) = IsAddress tag off × IsByte n
Shaped (Orn tag off n) = IsAddress tag off × IsByte n
Shaped (Xorn tag off n) = IsAddress tag off × IsByte n

-- ---- the instruction at a place

-- the instruction is at the place, whole in the code, and `next` is the place after it
pub record Decodes (code : List ℕ) (at : ℕ) (ins : Ins) (next : ℕ) : Type 0 where
  pub shaped : Shaped ins
  pub place : next ≡ at + length (spell ins)
  pub inside : next ≤ length code
  pub bytes : take (length (spell ins)) (drop at code) ≡ spell ins

-- the byte at the place begins no instruction
pub record IsUndefined (code : List ℕ) (at : ℕ) : Type 0 where
  pub inside : at < length code
  pub byte : kinds (slice_index code at) ≡ None

-- the place is not in the code, or the instruction that begins there ends past the code's end
abbrev pub IsPast : List ℕ → ℕ → Type 0
IsPast code at =
    (length code ≤ at)
    ⊎ ((ks : List Kind) × (kinds (slice_index code at) ≡ Some ks) × (length code < at + 1 + total ks))

-- a result is right for a place: the instruction there and the place after it, or why there is none
abbrev pub DecodesTo : List ℕ → ℕ → Result (Ins × ℕ) DecodeFault → Type 0
DecodesTo code at (Ok p) = Decodes code at p.0 p.1
DecodesTo code at (Err Undefined) = IsUndefined code at
DecodesTo code at (Err Past) = IsPast code at

-- the address at the front of some bytes: 0 with condition 0, which has none
abbrev pub target_in : ℕ → List ℕ → ℕ
target_in c bs = cond (c == 0) 0 (be2 bs 0)

-- the offset in some bytes from i on: 0 with tag 0, which has none
abbrev pub offset_in : ℕ → List ℕ → ℕ → ℤ
offset_in tag bs i = cond (tag == 0) (pos 0) (cast_signed w16 (be2 bs i))

-- the instruction of a row with the operand bytes that follow
abbrev pub instruction_of_form : Form → List ℕ → Ins
instruction_of_form (Plain i) bs = i
instruction_of_form (OneByte f) bs = f (slice_index bs 0)
instruction_of_form (TwoBytes f) bs = f (slice_index bs 0) (slice_index bs 1)
instruction_of_form (Word f) bs = f (be2 bs 0)
instruction_of_form (TwoWords f) bs = f (be2 bs 0) (be2 bs 2)
instruction_of_form (Near f) bs = f (cast_signed w8 (slice_index bs 0))
instruction_of_form (Target c f) bs = f (target_in c bs)
instruction_of_form (Primitive set) bs = Prim set (slice_index bs 0) (take set (drop 1 bs) ++ zeros (3 - set))
instruction_of_form (Offset tag f) bs = f (offset_in tag bs 0)
instruction_of_form (ByteOffset tag f) bs = f (offset_in tag bs 1) (slice_index bs 0)
instruction_of_form (WordOffset tag f) bs = f (offset_in tag bs 2) (be2 bs 0)

-- a row's instruction and its length, if there are bytes enough after its first
abbrev pub made_of : Option Form → List ℕ → Result (Ins × ℕ) DecodeFault
made_of None bs = Err Undefined
made_of (Some f) bs =
    let n = total (operands f) in
    cond (nat_le n (length bs)) (Ok (instruction_of_form f bs, n + 1)) (Err Past)

-- the instruction at the front of bytes, and its length
abbrev pub front : List ℕ → Result (Ins × ℕ) DecodeFault
front [] = Err Past
front (b ∷ bs) = made_of (form b) bs

-- an instruction with the place after it instead of its length
abbrev pub from_place : ℕ → Result (Ins × ℕ) DecodeFault → Result (Ins × ℕ) DecodeFault
from_place at (Ok p) = Ok (p.0, at + p.1)
from_place at (Err e) = Err e

-- the instruction at a place, and the place after it
abbrev pub instruction_at : List ℕ → ℕ → Result (Ins × ℕ) DecodeFault
instruction_at code at = from_place at (front (drop at code))
