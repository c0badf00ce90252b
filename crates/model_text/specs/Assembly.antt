-- Assembly texts: operands, the table of words, lines, the places of labels, and the code or the first refusal.
use Rattle.std.specs.Prelude.{ℕ, zero, suc, ◌+◌, ℤ, pos, negsuc, ◌-ℤ◌, Bool, true, false, cond, not, ◌&&◌, nat_lt, nat_le, ◌==◌, List, [], ◌∷◌, ◌++◌, map, length, take, drop, bytes_eq, codes, Option, Some, None, option_map, is_none, ok_or, Result, Ok, Err}
use Rattle.model_text.specs.declared.assembler.AsmCause.{AsmCause}
use Rattle.model_text.specs.declared.assembler.AsmCause.TheVariants.{UnknownWord, BadOperands, BadNumber, OutOfRange, LabelTwice, TooLong, UnknownLabel, FarBranch}
use Rattle.model_machine.specs.declared.instruction.Ins.{Ins}
use Rattle.model_machine.specs.declared.instruction.Ins.TheVariants.{Nop, Setsw, Setla, Setswla, Exit, Exitsw, Exitla, Exitswla, Branch, Jump, Call, Pushz, Pushb, Pushw, Popn, Popb, Popw, Prim, Ret, Reti, Reto, Retio, Load, Store, Loadi, Storei, Loada, Index, Setb, Cmpb, Addb, Subb, Setw, Cmpw, Addw, Subw, Clearn, Testn, Incn, Decn, Notn, Cmpn, Addn, Subn, Andn, Orn, Xorn}
use Rattle.model_machine.specs.model_device.specs.Limits.{most_code}
use Rattle.model_machine.specs.model_device.specs.Bytes.{zeros, lookup}
use Rattle.model_text.specs.Text.{◌>>=◌, ok_as, err_as, only_if, pieces, first_cut, begins, lines, with_numbers, is_blank, is_empty, trim, is_within, is_digit, is_name, digits_onto, decimal_number, hex_values}
use Rattle.model_machine.specs.Code.{spell}
use Rattle.model_text.specs.Listing.{condition_names, register_names}

-- whether a text is a label: a name that does not begin with a digit
abbrev pub is_label : List ℕ → Bool
is_label [] = false
is_label (c ∷ t) = not (is_digit c) && is_name (c ∷ t)

-- ---- operands

-- the number that 1 to 4 hexadecimal digits spell
abbrev pub hex_number : List ℕ → Option ℕ
hex_number t = cond (is_within 1 4 (length t)) (option_map (digits_onto 16 0) (hex_values t)) None

-- a number without a sign: decimal digits, or `0x` and hexadecimal ones
abbrev pub natural : List ℕ → Option ℕ
natural t = cond (bytes_eq (take 2 t) (codes "0x")) (hex_number (drop 2 t)) (decimal_number t)

-- a number with the sign minus
abbrev pub minus : ℕ → ℤ
minus zero = pos 0
minus (suc n) = negsuc n

-- a number with a sign: `-` and decimal digits, or one without a sign
abbrev pub signed_number : List ℕ → Option ℤ
signed_number t = cond (begins 45 t) (option_map minus (decimal_number (drop 1 t))) (option_map pos (natural t))

-- whether a signed number lies from -half to half - 1
abbrev pub fits_signed : ℕ → ℤ → Bool
fits_signed half (pos n) = nat_lt n half
fits_signed half (negsuc n) = nat_lt n half

-- an operand that is a number up to `high`
abbrev pub number_operand : ℕ → List ℕ → Result ℕ AsmCause
number_operand high t = ok_or (natural t) BadNumber >>= λ n. only_if (nat_le n high) OutOfRange n

-- an operand of one byte
abbrev pub byte : List ℕ → Result ℕ AsmCause
byte t = number_operand 255 t

-- an operand of two bytes
abbrev pub word : List ℕ → Result ℕ AsmCause
word t = number_operand 65535 t

-- a signed operand from -half to half - 1
abbrev pub signed_operand : ℕ → List ℕ → Result ℤ AsmCause
signed_operand half t = ok_or (signed_number t) BadNumber >>= λ z. only_if (fits_signed half z) OutOfRange z

-- the place of a word in a list, counted from n on
abbrev pub place_among : ℕ → List (List ℕ) → List ℕ → Option ℕ
place_among n [] t = None
place_among n (w ∷ ws) t = cond (bytes_eq w t) (Some n) (place_among (suc n) ws t)

-- a condition's number
abbrev pub condition : List ℕ → Result ℕ AsmCause
condition t = ok_or (place_among 1 condition_names t) BadOperands

-- an address `REG[off]`: the register's tag, and the offset
abbrev pub offset_and_end : Option ℕ → List (List ℕ) → Result (ℕ × ℤ) AsmCause
offset_and_end (Some tag) (off ∷ [] ∷ []) = ok_as (λ z. (tag, z)) (signed_operand 32768 off)
offset_and_end register rest = Err BadOperands

-- an address from its register and the text after the opening bracket
abbrev pub register_and_rest : List (List ℕ) → Result (ℕ × ℤ) AsmCause
register_and_rest (register ∷ rest ∷ []) = offset_and_end (place_among 1 register_names register) (pieces (λ c. c == 93) rest)
register_and_rest parts = Err BadOperands

-- an address operand: the register's tag, and the offset
abbrev pub address : List ℕ → Result (ℕ × ℤ) AsmCause
address t = register_and_rest (pieces (λ c. c == 91) t)

-- of two causes in one line the one that comes first in the order of the table
abbrev pub first_cause : AsmCause → AsmCause → AsmCause
first_cause BadOperands f = BadOperands
first_cause e BadOperands = BadOperands
first_cause BadNumber f = BadNumber
first_cause e BadNumber = BadNumber
first_cause e f = e

-- two operands
abbrev pub both : {A B : Type 0} → Result A AsmCause → Result B AsmCause → Result (A × B) AsmCause
both (Ok a) (Ok b) = Ok (a, b)
both (Ok a) (Err f) = Err f
both (Err e) (Ok b) = Err e
both (Err e) (Err f) = Err (first_cause e f)

-- operands of one byte each
abbrev pub all_bytes : List (List ℕ) → Result (List ℕ) AsmCause
all_bytes [] = Ok []
all_bytes (t ∷ ts) = ok_as (λ p. p.0 ∷ p.1) (both (byte t) (all_bytes ts))

-- ---- the table of words

-- what a line puts into the code: nothing, a raw byte, an instruction, one that takes the place of a label, one that
-- takes the distance to it
pub data CodeItem : Type 0 where
  Nothing : CodeItem
  Raw : ℕ → CodeItem
  Plain : Ins → CodeItem
  ToPlace : (ℕ → Ins) → List ℕ → CodeItem
  ToDistance : (ℤ → Ins) → List ℕ → CodeItem

-- the form of the operands of a word
pub data WordForm : Type 0 where
  Bare : Ins → WordForm
  OfByte : (ℕ → Ins) → WordForm
  OfBytes : (ℕ → ℕ → Ins) → WordForm
  OfWord : (ℕ → Ins) → WordForm
  OfWords : (ℕ → ℕ → Ins) → WordForm
  RawByte : WordForm
  ByDistance : (ℕ → ℤ → Ins) → WordForm
  ByPlace : (ℕ → ℕ → Ins) → WordForm
  Primitive : WordForm
  Addressed : (ℕ → ℤ → Ins) → WordForm
  AddressedByte : (ℕ → ℤ → ℕ → Ins) → WordForm
  AddressedWord : (ℕ → ℤ → ℕ → Ins) → WordForm

-- the table of words: each word with its form
abbrev pub words : List (List ℕ × WordForm)
words =
    (codes "NOP", Bare Nop) ∷
    (codes "SETSW", OfWord Setsw) ∷
    (codes "SETLA", OfWord Setla) ∷
    (codes "SETSWLA", OfWords Setswla) ∷
    (codes "EXIT", Bare Exit) ∷
    (codes "EXITSW", OfWord Exitsw) ∷
    (codes "EXITLA", OfWord Exitla) ∷
    (codes "EXITSWLA", OfWords Exitswla) ∷
    (codes "BRANCH", ByDistance Branch) ∷
    (codes "JUMP", ByPlace Jump) ∷
    (codes "CALL", ByPlace Call) ∷
    (codes "PUSHZ", OfByte Pushz) ∷
    (codes "PUSHB", OfByte Pushb) ∷
    (codes "PUSHW", OfWord Pushw) ∷
    (codes "POPN", OfByte Popn) ∷
    (codes "POPB", Bare Popb) ∷
    (codes "POPW", Bare Popw) ∷
    (codes "PRIM", Primitive) ∷
    (codes "RET", Bare Ret) ∷
    (codes "RETI", OfByte Reti) ∷
    (codes "RETO", OfByte Reto) ∷
    (codes "RETIO", OfBytes Retio) ∷
    (codes "BYTE", RawByte) ∷
    (codes "LOAD", AddressedByte Load) ∷
    (codes "STORE", AddressedByte Store) ∷
    (codes "LOADI", AddressedByte Loadi) ∷
    (codes "STOREI", AddressedByte Storei) ∷
    (codes "LOADA", Addressed Loada) ∷
    (codes "INDEX", AddressedByte Index) ∷
    (codes "SETB", AddressedByte Setb) ∷
    (codes "CMPB", AddressedByte Cmpb) ∷
    (codes "ADDB", AddressedByte Addb) ∷
    (codes "SUBB", AddressedByte Subb) ∷
    (codes "SETW", AddressedWord Setw) ∷
    (codes "CMPW", AddressedWord Cmpw) ∷
    (codes "ADDW", AddressedWord Addw) ∷
    (codes "SUBW", AddressedWord Subw) ∷
    (codes "CLEARN", AddressedByte Clearn) ∷
    (codes "TESTN", AddressedByte Testn) ∷
    (codes "INCN", AddressedByte Incn) ∷
    (codes "DECN", AddressedByte Decn) ∷
    (codes "NOTN", AddressedByte Notn) ∷
    (codes "CMPN", AddressedByte Cmpn) ∷
    (codes "ADDN", AddressedByte Addn) ∷
    (codes "SUBN", AddressedByte Subn) ∷
    (codes "ANDN", AddressedByte Andn) ∷
    (codes "ORN", AddressedByte Orn) ∷
    (codes "XORN", AddressedByte Xorn) ∷ []

-- a target: a label, or the number in its place
pub data Target (A : Type 0) : Type 0 where
  Label : List ℕ → Target A
  Given : A → Target A

-- a target by its text: a label if it has the form of one, else the number
abbrev pub label_or_given : {A : Type 0} → Bool → List ℕ → Result A AsmCause → Result (Target A) AsmCause
label_or_given true t given = Ok (Label t)
label_or_given false t given = ok_as Given given

-- a branch to a label, or by a displacement
abbrev pub by_distance : (ℤ → Ins) → Target ℤ → CodeItem
by_distance f (Label l) = ToDistance f l
by_distance f (Given d) = Plain (f d)

-- a jump to a label, or to an address
abbrev pub by_place : (ℕ → Ins) → Target ℕ → CodeItem
by_place f (Label l) = ToPlace f l
by_place f (Given p) = Plain (f p)

-- a primitive's number and its arguments
abbrev pub primitive : List ℕ → CodeItem
primitive [] = Nothing
primitive (number ∷ args) = Plain (Prim (length args) number (take 3 (args ++ zeros 3)))

-- a word with its operands
abbrev pub item_of_word : WordForm → List (List ℕ) → Result CodeItem AsmCause
item_of_word (Bare i) [] = Ok (Plain i)
item_of_word (OfByte f) (n ∷ []) = ok_as (λ n. Plain (f n)) (byte n)
item_of_word (OfBytes f) (i ∷ o ∷ []) = ok_as (λ p. Plain (f p.0 p.1)) (both (byte i) (byte o))
item_of_word (OfWord f) (w ∷ []) = ok_as (λ w. Plain (f w)) (word w)
item_of_word (OfWords f) (v ∷ w ∷ []) = ok_as (λ p. Plain (f p.0 p.1)) (both (word v) (word w))
item_of_word RawByte (n ∷ []) = ok_as Raw (byte n)
item_of_word (ByDistance f) (c ∷ t ∷ []) = ok_as (λ p. by_distance (f p.0) p.1) (both (condition c) (label_or_given (is_label t) t (signed_operand 128 t)))
item_of_word (ByPlace f) [] = Ok (Plain (f 0 0))
item_of_word (ByPlace f) (c ∷ t ∷ []) = ok_as (λ p. by_place (f p.0) p.1) (both (condition c) (label_or_given (is_label t) t (word t)))
item_of_word Primitive (n ∷ args) = cond (nat_le (length args) 3) (ok_as primitive (all_bytes (n ∷ args))) (Err BadOperands)
item_of_word (Addressed f) [] = Ok (Plain (f 0 (pos 0)))
item_of_word (Addressed f) (a ∷ []) = ok_as (λ a. Plain (f a.0 a.1)) (address a)
item_of_word (AddressedByte f) (n ∷ []) = ok_as (λ n. Plain (f 0 (pos 0) n)) (byte n)
item_of_word (AddressedByte f) (a ∷ n ∷ []) = ok_as (λ p. Plain (f (p.0).0 (p.0).1 p.1)) (both (address a) (byte n))
item_of_word (AddressedWord f) (w ∷ []) = ok_as (λ w. Plain (f 0 (pos 0) w)) (word w)
item_of_word (AddressedWord f) (a ∷ w ∷ []) = ok_as (λ p. Plain (f (p.0).0 (p.0).1 p.1)) (both (address a) (word w))
item_of_word form operands = Err BadOperands

-- ---- a line

-- the operands after a word, which commas separate
abbrev pub operands : Option (List ℕ) → List (List ℕ)
operands None = []
operands (Some t) = map trim (pieces (λ c. c == 44) t)

-- the word of a line and its operands
abbrev pub word_and_operands : List ℕ × Option (List ℕ) → Result CodeItem AsmCause
word_and_operands s = cond (is_empty s.0) (Ok Nothing) (ok_or (lookup words s.0) UnknownWord >>= λ form. item_of_word form (operands s.1))

-- a line's label, and what it puts into the code
pub record Line : Type 0 where
  pub label : Option (List ℕ)
  pub item : CodeItem

-- a label before its colon, and the rest of the line
abbrev pub label_and_rest : List ℕ → Option (List ℕ) → Result Line AsmCause
label_and_rest t None = ok_as (λ i. record { label = None; item = i }) (word_and_operands (first_cut is_blank (trim t)))
label_and_rest t (Some rest) =
    cond (is_label (trim t)) (ok_as (λ i. record { label = Some (trim t); item = i }) (word_and_operands (first_cut is_blank (trim rest)))) (Err UnknownWord)

-- [LABEL:] [WORD [OPERANDS]] [; comment]
unfoldable pub line_read : List ℕ → Result Line AsmCause
line_read l =
    let text = (first_cut (λ c. c == 59) l).0 in
    let parts = first_cut (λ c. c == 58) text in
    label_and_rest parts.0 parts.1

-- ---- the places of the lines, and the code

-- the number of bytes of a line's code
abbrev pub size : CodeItem → ℕ
size Nothing = 0
size (Raw b) = 1
size (Plain i) = length (spell i)
size (ToPlace f l) = length (spell (f 0))
size (ToDistance f l) = length (spell (f (pos 0)))

-- a line of a text with its place in the code
pub record Placed : Type 0 where
  pub number : ℕ
  pub place : ℕ
  pub item : CodeItem

-- the labels of a text with their places, and its lines
pub record Laid : Type 0 where
  pub labels : List (List ℕ × ℕ)
  pub placed : List Placed

-- whether a line's label, if it has one, was not defined before
abbrev pub is_new : List (List ℕ × ℕ) → Option (List ℕ) → Bool
is_new labels None = true
is_new labels (Some l) = is_none (lookup labels l)

-- the labels with one more
abbrev pub with_label : List (List ℕ × ℕ) → Option (List ℕ) → ℕ → List (List ℕ × ℕ)
with_label labels None place = labels
with_label labels (Some l) place = (l, place) ∷ labels

-- a line at a place, after these labels
unfoldable pub line_laid : List (List ℕ × ℕ) → ℕ → List ℕ → Result Line AsmCause
unfolding line_read
line_laid labels place text = do
  l ← line_read text
  l ← only_if (is_new labels l.label) LabelTwice l
  only_if (nat_le (place + size l.item) most_code) TooLong l

-- the lines in their places
unfoldable pub laid_lines : List (List ℕ × ℕ) → ℕ → List (ℕ × List ℕ) → Result Laid (ℕ × AsmCause)
unfolding line_laid
laid_lines labels place [] = Ok (record { labels = labels; placed = [] })
laid_lines labels place (t ∷ ts) = do
  l ← err_as (λ c. (t.0, c)) (line_laid labels place t.1)
  rest ← laid_lines (with_label labels l.label place) (place + size l.item) ts
  Ok (record rest { placed = record { number = t.0; place = place; item = l.item } ∷ rest.placed })

-- the bytes that a line puts into the code, with these labels
abbrev pub bytes_of_item : List (List ℕ × ℕ) → ℕ → CodeItem → Result (List ℕ) AsmCause
bytes_of_item labels place Nothing = Ok []
bytes_of_item labels place (Raw b) = Ok (b ∷ [])
bytes_of_item labels place (Plain i) = Ok (spell i)
bytes_of_item labels place (ToPlace f l) = ok_as (λ p. spell (f p)) (ok_or (lookup labels l) UnknownLabel)
bytes_of_item labels place (ToDistance f l) = do
  p ← ok_or (lookup labels l) UnknownLabel
  let d = pos p -ℤ pos (place + 2)
  only_if (fits_signed 128 d) FarBranch (spell (f d))

-- the code of the lines, with each label replaced
unfoldable pub joined_code : List (List ℕ × ℕ) → List Placed → Result (List ℕ) (ℕ × AsmCause)
joined_code labels [] = Ok []
joined_code labels (p ∷ ps) = do
  bytes ← err_as (λ c. (p.number, c)) (bytes_of_item labels p.place p.item)
  ok_as (λ rest. bytes ++ rest) (joined_code labels ps)

-- the code of numbered lines, or the first refusal
unfoldable pub assembled_lines : List (ℕ × List ℕ) → Result (List ℕ) (ℕ × AsmCause)
unfolding laid_lines joined_code
assembled_lines ls = laid_lines [] 0 ls >>= λ laid. joined_code laid.labels laid.placed

-- the code of a text, or the first refusal
unfoldable pub assembly_of : List ℕ → Result (List ℕ) (ℕ × AsmCause)
unfolding assembled_lines
assembly_of t = assembled_lines (with_numbers 1 (lines t))
