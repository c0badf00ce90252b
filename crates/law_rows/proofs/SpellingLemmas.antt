-- A spelling at the front of bytes is decoded there, so no spelling is a proper prefix of another.
use Rattle.std.proofs.Common.{◌≡◌, ℕ, zero, suc, ◌+◌, ◌*◌, ◌<◌, false, List, [], ◌∷◌, ◌++◌, length, take, Some, Result, Ok, Err, arith, refl, sym, ap, ◌∙◌, length-append, append-nil, zero-add}
use Rattle.std.specs.Prelude.{nat_eq, ℤ, FitsSigned}
use Rattle.std.specs.Int.{w8, cast_unsigned}
use Rattle.model_machine.specs.model_device.specs.Bytes.{bytes2}
use Rattle.model_machine.specs.Code.{Near, Target, Offset, ByteOffset, WordOffset, made_of, row_of, form, Shaped, IsTarget, IsAddress, IsPrimitive, spell, offset, target, front, instruction_at, from_place}
use Rattle.model_machine.specs.declared.instruction.DecodeFault.{DecodeFault}
use Rattle.model_machine.specs.declared.instruction.Ins.{Ins}
use Rattle.model_machine.specs.declared.instruction.Ins.TheVariants.{Nop, Setsw, Setla, Setswla, Exit, Exitsw, Exitla, Exitswla, Branch, Jump, Call, Pushz, Pushb, Pushw, Popn, Popb, Popw, Prim, Ret, Reti, Reto, Retio, Load, Store, Loadi, Storei, Loada, Index, Setb, Cmpb, Addb, Subb, Setw, Cmpw, Addw, Subw, Clearn, Testn, Incn, Decn, Notn, Cmpn, Addn, Subn, Andn, Orn, Xorn}
use Rattle.law_rows.proofs.ReadingLemmas.{op_of, tag_of, back_plain, back_byte, back_bytes, back_word, back_words, back_near, back_offset_at, back_byte_offset_at, back_word_offset_at, back_target_at}
use Rattle.std.proofs.lemmas.List.{nil_from_length}

-- ---- spelled and read back

form_of : (op tag : ℕ) → tag < 8 → form (op * 8 + tag) ≡ row_of op tag
form_of op tag h = rw (op_of op tag h, tag_of op tag h) refl

target_back : (op c to : ℕ) (f : ℕ → ℕ → Ins) (rest : List ℕ) → row_of op c ≡ Some (Target c (f c)) → IsTarget c to → made_of (form (op * 8 + c)) (target c to ++ rest) ≡ Ok (f c to, suc (length (target c to)))
target_back op c to f rest e a =
    ap (λ o. made_of o (target c to ++ rest)) (form_of op c a.condition ∙ e)
    ∙ back_target_at c (f c) to rest a (nat_eq c 0) refl ∙ grind arith

offset_back : (op tag : ℕ) (off : ℤ) (f : ℕ → ℤ → Ins) (rest : List ℕ) → row_of op tag ≡ Some (Offset tag (f tag)) → IsAddress tag off → made_of (form (op * 8 + tag)) (offset tag off ++ rest) ≡ Ok (f tag off, suc (length (offset tag off)))
offset_back op tag off f rest e a =
    ap (λ o. made_of o (offset tag off ++ rest)) (form_of op tag a.register ∙ e)
    ∙ back_offset_at tag (f tag) off rest a (nat_eq tag 0) refl ∙ grind arith

byte_back : (op tag : ℕ) (off : ℤ) (v : ℕ) (f : ℕ → ℤ → ℕ → Ins) (rest : List ℕ) → row_of op tag ≡ Some (ByteOffset tag (f tag)) → IsAddress tag off → made_of (form (op * 8 + tag)) ((v ∷ offset tag off) ++ rest) ≡ Ok (f tag off v, suc (suc (length (offset tag off))))
byte_back op tag off v f rest e a =
    ap (λ o. made_of o ((v ∷ offset tag off) ++ rest)) (form_of op tag a.register ∙ e)
    ∙ back_byte_offset_at tag (f tag) off v rest a (nat_eq tag 0) refl ∙ grind arith

word_offset_back : (op tag : ℕ) (off : ℤ) (v : ℕ) (f : ℕ → ℤ → ℕ → Ins) (rest : List ℕ) → row_of op tag ≡ Some (WordOffset tag (f tag)) → IsAddress tag off → v < 65536 → made_of (form (op * 8 + tag)) ((bytes2 v ++ offset tag off) ++ rest) ≡ Ok (f tag off v, suc (suc (suc (length (offset tag off)))))
word_offset_back op tag off v f rest e a h =
    ap (λ o. made_of o ((bytes2 v ++ offset tag off) ++ rest)) (form_of op tag a.register ∙ e)
    ∙ back_word_offset_at tag (f tag) off v rest a h (nat_eq tag 0) refl ∙ grind arith

near_back : (c : ℕ) (d : ℤ) (rest : List ℕ) → 0 < c → c < 8 → FitsSigned w8 d → made_of (form (8 + c)) ((cast_unsigned w8 d ∷ []) ++ rest) ≡ Ok (Branch c d, 2)
near_back c d rest p h f =
    let e : nat_eq c 0 ≡ false = grind (arith, p) in
    let r : row_of 1 c ≡ Some (Near (λ d. Branch c d)) = rw e refl in
    ap (λ o. made_of o ((cast_unsigned w8 d ∷ []) ++ rest)) (form_of 1 c h ∙ r) ∙ back_near (λ d. Branch c d) d rest f

prim_back : (set number : ℕ) (args rest : List ℕ) → IsPrimitive set number args → made_of (form (40 + set)) ((number ∷ take set args) ++ rest) ≡ Ok (Prim set number args, suc (suc (length (take set args))))
prim_back set number [] rest a = absurd (grind (arith, a.three))
prim_back set number (x ∷ []) rest a = absurd (grind (arith, a.three))
prim_back set number (x ∷ y ∷ []) rest a = absurd (grind (arith, a.three))
prim_back set number (x ∷ y ∷ z ∷ w ∷ args) rest a = absurd (grind (arith, a.three))
prim_back zero number (x ∷ y ∷ z ∷ []) rest a = grind (arith, a.rest)
prim_back (suc zero) number (x ∷ y ∷ z ∷ []) rest a = grind (arith, a.rest)
prim_back (suc (suc zero)) number (x ∷ y ∷ z ∷ []) rest a = grind (arith, a.rest)
prim_back (suc (suc (suc zero))) number (x ∷ y ∷ z ∷ []) rest a = grind (arith, a.rest)
prim_back (suc (suc (suc (suc n)))) number (x ∷ y ∷ z ∷ []) rest a = absurd (grind (arith, a.sets))

-- a spelling at the front of bytes is decoded there, with its length
pub front_spell : (i : Ins) (rest : List ℕ) → Shaped i → front (spell i ++ rest) ≡ Ok (i, length (spell i))
front_spell Nop rest s = back_plain Nop rest
front_spell (Setsw sw) rest s = back_word (λ w. Setsw w) sw rest s
front_spell (Setla la) rest s = back_word (λ w. Setla w) la rest s
front_spell (Setswla sw la) rest s = back_words (λ v w. Setswla v w) sw la rest s.0 s.1
front_spell Exit rest s = back_plain Exit rest
front_spell (Exitsw sw) rest s = back_word (λ w. Exitsw w) sw rest s
front_spell (Exitla la) rest s = back_word (λ w. Exitla w) la rest s
front_spell (Exitswla sw la) rest s = back_words (λ v w. Exitswla v w) sw la rest s.0 s.1
front_spell (Branch c d) rest s = near_back c d rest s.0 s.1 s.2
front_spell (Jump c to) rest s = target_back 2 c to (λ c to. Jump c to) rest refl s
front_spell (Call c to) rest s = target_back 3 c to (λ c to. Call c to) rest refl s
front_spell (Pushz n) rest s = back_byte (λ v. Pushz v) n rest
front_spell (Pushb b) rest s = back_byte (λ v. Pushb v) b rest
front_spell (Pushw w) rest s = back_word (λ v. Pushw v) w rest s
front_spell (Popn n) rest s = back_byte (λ v. Popn v) n rest
front_spell Popb rest s = back_plain Popb rest
front_spell Popw rest s = back_plain Popw rest
front_spell (Prim set number args) rest s = prim_back set number args rest s
front_spell Ret rest s = back_plain Ret rest
front_spell (Reti i) rest s = back_byte (λ v. Reti v) i rest
front_spell (Reto o) rest s = back_byte (λ v. Reto v) o rest
front_spell (Retio i o) rest s = back_bytes (λ v w. Retio v w) i o rest
front_spell (Load tag off n) rest s = byte_back 0x07 tag off n (λ t o v. Load t o v) rest refl s.0
front_spell (Store tag off n) rest s = byte_back 0x08 tag off n (λ t o v. Store t o v) rest refl s.0
front_spell (Loadi tag off n) rest s = byte_back 0x09 tag off n (λ t o v. Loadi t o v) rest refl s.0
front_spell (Storei tag off n) rest s = byte_back 0x0A tag off n (λ t o v. Storei t o v) rest refl s.0
front_spell (Loada tag off) rest s = offset_back 0x0B tag off (λ t o. Loada t o) rest refl s
front_spell (Index tag off n) rest s = byte_back 0x0C tag off n (λ t o v. Index t o v) rest refl s.0
front_spell (Setb tag off b) rest s = byte_back 0x0D tag off b (λ t o v. Setb t o v) rest refl s.0
front_spell (Cmpb tag off b) rest s = byte_back 0x0E tag off b (λ t o v. Cmpb t o v) rest refl s.0
front_spell (Addb tag off b) rest s = byte_back 0x0F tag off b (λ t o v. Addb t o v) rest refl s.0
front_spell (Subb tag off b) rest s = byte_back 0x10 tag off b (λ t o v. Subb t o v) rest refl s.0
front_spell (Setw tag off w) rest s = word_offset_back 0x11 tag off w (λ t o v. Setw t o v) rest refl s.0 s.1
front_spell (Cmpw tag off w) rest s = word_offset_back 0x12 tag off w (λ t o v. Cmpw t o v) rest refl s.0 s.1
front_spell (Addw tag off w) rest s = word_offset_back 0x13 tag off w (λ t o v. Addw t o v) rest refl s.0 s.1
front_spell (Subw tag off w) rest s = word_offset_back 0x14 tag off w (λ t o v. Subw t o v) rest refl s.0 s.1
front_spell (Clearn tag off n) rest s = byte_back 0x15 tag off n (λ t o v. Clearn t o v) rest refl s.0
front_spell (Testn tag off n) rest s = byte_back 0x16 tag off n (λ t o v. Testn t o v) rest refl s.0
front_spell (Incn tag off n) rest s = byte_back 0x17 tag off n (λ t o v. Incn t o v) rest refl s.0
front_spell (Decn tag off n) rest s = byte_back 0x18 tag off n (λ t o v. Decn t o v) rest refl s.0
front_spell (Notn tag off n) rest s = byte_back 0x19 tag off n (λ t o v. Notn t o v) rest refl s.0
front_spell (Cmpn tag off n) rest s = byte_back 0x1A tag off n (λ t o v. Cmpn t o v) rest refl s.0
front_spell (Addn tag off n) rest s = byte_back 0x1B tag off n (λ t o v. Addn t o v) rest refl s.0
front_spell (Subn tag off n) rest s = byte_back 0x1C tag off n (λ t o v. Subn t o v) rest refl s.0
front_spell (Andn tag off n) rest s = byte_back 0x1D tag off n (λ t o v. Andn t o v) rest refl s.0
front_spell (Orn tag off n) rest s = byte_back 0x1E tag off n (λ t o v. Orn t o v) rest refl s.0
front_spell (Xorn tag off n) rest s = byte_back 0x1F tag off n (λ t o v. Xorn t o v) rest refl s.0

ins_of : Result (Ins × ℕ) DecodeFault → Ins
ins_of (Ok p) = p.0
ins_of (Err e) = Nop

-- a spelling is a prefix of no other spelling
pub spell_front : (i j : Ins) (r q : List ℕ) → Shaped i → Shaped j → spell i ++ r ≡ spell j ++ q → i ≡ j
unfolding ins_of
spell_front i j r q s t e = ap ins_of (sym (front_spell i r s) ∙ ap front e ∙ front_spell j q t)

pub prefix_free : (i j : Ins) (r : List ℕ) → Shaped i → Shaped j → spell i ++ r ≡ spell j → (i ≡ j) × (r ≡ [])
prefix_free i j r s t e =
    let same = spell_front i j r [] s t (e ∙ sym (append-nil (spell j))) in
    let l : length (spell i) + length r ≡ length (spell j) = sym (length-append (spell i) r) ∙ ap length e in
    let k : length (spell i) ≡ length (spell j) = ap (λ i. length (spell i)) same in
    (same, nil_from_length r (omega (arith, l, k)))

pub spelling_decoded : (i : Ins) (rest : List ℕ) → Shaped i → instruction_at (spell i ++ rest) 0 ≡ Ok (i, length (spell i))
spelling_decoded i rest s = ap (from_place 0) (front_spell i rest s) ∙ ap (λ n. Ok (i, n)) (zero-add (length (spell i)))
