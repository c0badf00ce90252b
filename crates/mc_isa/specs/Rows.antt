-- The operands of a row as bytes and as text.
use Rattle.std.specs.Prelude.{ℕ, ◌<◌, List, [], ◌∷◌, ◌++◌, take, codes, decimal}
use Rattle.std.specs.Int.{w8, cast_unsigned}
use Rattle.std.specs.Fmt.{signed_decimal}
use Rattle.model_text.specs.model_device.specs.Bytes.{bytes2}
use Rattle.model_text.specs.model_machine.specs.Code.{target, offset}
use Rattle.model_text.specs.Listing.{byte_line, word_line, words_line, target_line, address_line, operand_line, arguments_text, condition_name, hex_word}
use Rattle.mc_isa.specs.declared.rows.Operands.{Operands}
use Rattle.mc_isa.specs.declared.rows.Operands.TheVariants.{Plain, Byte, Bytes, Word, Words, Near, Target, Primitive, Address, WithByte, WithWord}

-- the operand bytes after the instruction byte, words in big endian
abbrev pub operand_bytes : Operands → List ℕ
operand_bytes Plain = []
operand_bytes (Byte n) = n ∷ []
operand_bytes (Bytes a b) = a ∷ b ∷ []
operand_bytes (Word w) = bytes2 w
operand_bytes (Words v w) = bytes2 v ++ bytes2 w
operand_bytes (Near c d) = cast_unsigned w8 d ∷ []
operand_bytes (Target c to) = target c to
operand_bytes (Primitive set number args) = number ∷ take set args
operand_bytes (Address tag off) = offset tag off
operand_bytes (WithByte tag off n) = n ∷ offset tag off
operand_bytes (WithWord tag off w) = bytes2 w ++ offset tag off

-- the line of a listing: the name and the operands
abbrev pub line_of : List ℕ → Operands → List ℕ
line_of name Plain = name
line_of name (Byte n) = byte_line name n
line_of name (Bytes a b) = byte_line name a ++ codes "," ++ decimal b
line_of name (Word w) = word_line name w
line_of name (Words v w) = words_line name v w
line_of name (Near c d) = name ++ codes " " ++ condition_name c ++ codes "," ++ signed_decimal d
line_of name (Target c to) = target_line name c to
line_of name (Primitive set number args) = byte_line name number ++ arguments_text (take set args)
line_of name (Address tag off) = address_line name tag off
line_of name (WithByte tag off n) = operand_line name tag off (decimal n)
line_of name (WithWord tag off w) = operand_line name tag off (hex_word w)

-- whether conditions, tags and sets of arguments are in their ranges
abbrev pub OperandsInRange : Operands → Type 0
OperandsInRange Plain = Unit {0}
OperandsInRange (Byte n) = Unit {0}
OperandsInRange (Bytes a b) = Unit {0}
OperandsInRange (Word w) = Unit {0}
OperandsInRange (Words v w) = Unit {0}
OperandsInRange (Near c d) = (0 < c) × (c < 8)
OperandsInRange (Target c to) = c < 8
OperandsInRange (Primitive set number args) = set < 4
OperandsInRange (Address tag off) = tag < 8
OperandsInRange (WithByte tag off n) = tag < 8
OperandsInRange (WithWord tag off w) = tag < 8
