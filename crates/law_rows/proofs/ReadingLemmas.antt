-- Reading back spelled operands, form by form.
use Rattle.std.proofs.Common.{◌≡◌, ℕ, ◌+◌, ◌*◌, ◌/◌, ◌%◌, ◌<◌, ◌≤◌, Bool, true, false, List, [], ◌∷◌, ◌++◌, length, Option, Some, None, Ok, arith, rules, ap, ◌∙◌}
use Rattle.std.specs.Prelude.{nat_eq, ℤ, FitsSigned}
use Rattle.std.specs.Int.{w8, w16, cast_signed, cast_unsigned}
use Rattle.std.proofs.lemmas.Int.{ints, to_z-of_z, of_z-to_z}
use Rattle.model_machine.specs.model_device.specs.Bytes.{bytes2}
use Rattle.model_machine.specs.Code.{Form, Plain, OneByte, TwoBytes, Word, TwoWords, Near, Target, Offset, ByteOffset, WordOffset, made_of, IsTarget, IsAddress, offset, target}
use Rattle.model_machine.specs.declared.instruction.Ins.{Ins}
use Rattle.model_machine.specs.model_device.proofs.ListLemmas.{two_bytes as word_of}

-- an instruction is no longer than its opcode byte and the operand bytes that it is made of
pub made_of_inside : (o : Option Form) (bs : List ℕ) (i : Ins) (n : ℕ) → made_of o bs ≡ Ok (i, n) → n ≤ length bs + 1
made_of_inside None bs i n h = absurd (cc h)
made_of_inside (Some f) bs i n h = grind (arith, h)

-- the two big-endian bytes of a word
pub bytes2_of : (x y : ℕ) → x < 256 → y < 256 → bytes2 (256 * x + y) ≡ x ∷ y ∷ []
bytes2_of x y h k = grind arith

pub unsigned8 : (x : ℕ) → x < 256 → cast_unsigned w8 (cast_signed w8 x) ≡ x
unsigned8 x h = of_z-to_z w8 x h

pub unsigned16 : (x : ℕ) → x < 65536 → cast_unsigned w16 (cast_signed w16 x) ≡ x
unsigned16 x h = of_z-to_z w16 x h

pub fits8 : (x : ℕ) → x < 256 → FitsSigned w8 (cast_signed w8 x)
fits8 x h = search (rules, ints)

pub fits16 : (x : ℕ) → x < 65536 → FitsSigned w16 (cast_signed w16 x)
fits16 x h = search (rules, ints)

below16 : (d : ℤ) → FitsSigned w16 d → cast_unsigned w16 d < 65536
below16 d h = omega (arith, ints)

below8 : (d : ℤ) → FitsSigned w8 d → cast_unsigned w8 d < 256
below8 d h = omega (arith, ints)

pub op_of : (op tag : ℕ) → tag < 8 → (op * 8 + tag) / 8 ≡ op
op_of op tag h = omega arith

pub tag_of : (op tag : ℕ) → tag < 8 → (op * 8 + tag) % 8 ≡ tag
tag_of op tag h = omega arith

pub back_plain : (i : Ins) (rest : List ℕ) → made_of (Some (Plain i)) rest ≡ Ok (i, 1)
back_plain i rest = grind arith

pub back_byte : (f : ℕ → Ins) (v : ℕ) (rest : List ℕ) → made_of (Some (OneByte f)) ((v ∷ []) ++ rest) ≡ Ok (f v, 2)
back_byte f v rest = grind arith

pub back_bytes : (f : ℕ → ℕ → Ins) (v w : ℕ) (rest : List ℕ) → made_of (Some (TwoBytes f)) ((v ∷ w ∷ []) ++ rest) ≡ Ok (f v w, 3)
back_bytes f v w rest = grind arith

pub back_word : (f : ℕ → Ins) (v : ℕ) (rest : List ℕ) → v < 65536 → made_of (Some (Word f)) (bytes2 v ++ rest) ≡ Ok (f v, 3)
back_word f v rest h = grind (arith, word_of v h)

pub back_words : (f : ℕ → ℕ → Ins) (v w : ℕ) (rest : List ℕ) → v < 65536 → w < 65536 → made_of (Some (TwoWords f)) ((bytes2 v ++ bytes2 w) ++ rest) ≡ Ok (f v w, 5)
back_words f v w rest h k = grind (arith, word_of v h, word_of w k)

pub back_near : (f : ℤ → Ins) (d : ℤ) (rest : List ℕ) → FitsSigned w8 d → made_of (Some (Near f)) ((cast_unsigned w8 d ∷ []) ++ rest) ≡ Ok (f d, 2)
back_near f d rest h = grind (arith, to_z-of_z w8 d h)

word_back : (off : ℤ) → FitsSigned w16 off → cast_signed w16 (256 * (cast_unsigned w16 off / 256 % 256) + cast_unsigned w16 off % 256) ≡ off
word_back off h = ap (cast_signed w16) (word_of (cast_unsigned w16 off) (below16 off h)) ∙ to_z-of_z w16 off h

pub back_offset_at : (tag : ℕ) (f : ℤ → Ins) (off : ℤ) (rest : List ℕ) → IsAddress tag off → (b : Bool) → nat_eq tag 0 ≡ b → made_of (Some (Offset tag f)) (offset tag off ++ rest) ≡ Ok (f off, length (offset tag off) + 1)
back_offset_at tag f off rest a true e = grind (arith, e, a.top)
back_offset_at tag f off rest a false e = grind (arith, e, word_back off a.offset)

pub back_byte_offset_at : (tag : ℕ) (f : ℤ → ℕ → Ins) (off : ℤ) (v : ℕ) (rest : List ℕ) → IsAddress tag off → (b : Bool) → nat_eq tag 0 ≡ b → made_of (Some (ByteOffset tag f)) ((v ∷ offset tag off) ++ rest) ≡ Ok (f off v, length (offset tag off) + 2)
back_byte_offset_at tag f off v rest a true e = grind (arith, e, a.top)
back_byte_offset_at tag f off v rest a false e = grind (arith, e, word_back off a.offset)

pub back_word_offset_at : (tag : ℕ) (f : ℤ → ℕ → Ins) (off : ℤ) (v : ℕ) (rest : List ℕ) → IsAddress tag off → v < 65536 → (b : Bool) → nat_eq tag 0 ≡ b → made_of (Some (WordOffset tag f)) ((bytes2 v ++ offset tag off) ++ rest) ≡ Ok (f off v, length (offset tag off) + 3)
back_word_offset_at tag f off v rest a h true e = grind (arith, e, a.top, word_of v h)
back_word_offset_at tag f off v rest a h false e = grind (arith, e, word_back off a.offset, word_of v h)

pub back_target_at : (c : ℕ) (f : ℕ → Ins) (to : ℕ) (rest : List ℕ) → IsTarget c to → (b : Bool) → nat_eq c 0 ≡ b → made_of (Some (Target c f)) (target c to ++ rest) ≡ Ok (f to, length (target c to) + 1)
back_target_at c f to rest a true e = grind (arith, e, a.stack)
back_target_at c f to rest a false e = grind (arith, e, word_of to a.address)
