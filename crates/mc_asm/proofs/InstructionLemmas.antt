-- The listing line of each instruction is read as that instruction.
use Rattle.std.proofs.Common.{◌≡◌, ℕ, zero, suc, ◌<◌, ◌≤◌, Bool, true, false, List, [], ◌∷◌, ◌++◌, length, map, take, Some, None, Ok, arith, refl, sym, ap, subst, append-nil, append_assoc, ◌∙◌}
use Rattle.std.specs.Prelude.{ℤ, FitsSigned, ◌==◌, nat_le, codes, decimal}
use Rattle.std.specs.List.{AllByRecursion}
use Rattle.std.specs.Int.{w8}
use Rattle.std.specs.Fmt.{signed_decimal}
use Rattle.model_text.specs.model_device.specs.Bytes.{lookup, zeros}
use Rattle.model_text.specs.Text.{every}
use Rattle.model_text.specs.model_machine.specs.declared.instruction.Ins.{Ins}
use Rattle.model_text.specs.model_machine.specs.declared.instruction.Ins.TheVariants.{Nop, Setsw, Setla, Setswla, Exit, Exitsw, Exitla, Exitswla, Branch, Jump, Call, Pushz, Pushb, Pushw, Popn, Popb, Popw, Prim, Ret, Reti, Reto, Retio, Load, Store, Loadi, Storei, Loada, Index, Setb, Cmpb, Addb, Subb, Setw, Cmpw, Addw, Subw, Clearn, Testn, Incn, Decn, Notn, Cmpn, Addn, Subn, Andn, Orn, Xorn}
use Rattle.model_text.specs.model_machine.specs.Code.{Shaped, IsTarget, IsAddress, IsPrimitive}
use Rattle.model_text.specs.Listing.{hex_word, condition_name, address_text, arguments_text, byte_line, word_line, words_line, target_line, address_line, operand_line, text_of}
use Rattle.model_text.specs.Assembly.{WordForm, Bare, OfByte, OfBytes, OfWord, OfWords, ByDistance, ByPlace, Primitive, Addressed, AddressedByte, AddressedWord, Plain, words, item_of_word, line_read, all_bytes}
use Rattle.mc_asm.proofs.CleanLemmas.{Solid, AllSolid, written, joined, behind_word, line_is_read, word_written}
use Rattle.mc_asm.proofs.NumeralLemmas.{byte_read, byte_solid, word_read, word_solid, signed_read, signed_solid, signed_no_label, half_8, condition_read, condition_solid, address_read, address_solid}

-- a line is read as an instruction, and has no character that ends a line, a label or the part before a comment
pub record ReadsAs (t : List ℕ) (i : Ins) : Type 0 where
  pub read : line_read t ≡ Ok (record { label = None; item = Plain i })
  pub all : every written t ≡ true

-- a name of the table with its form
record NamedForm (name : List ℕ) (f : WordForm) : Type 0 where
  solid : Solid name
  found : lookup words name ≡ Some f

of_operands : (name t : List ℕ) (ts : List (List ℕ)) (f : WordForm) (i : Ins) → NamedForm name f → AllSolid ts → item_of_word f ts ≡ Ok (Plain i) → t ≡ name ++ behind_word ts → ReadsAs t i
of_operands name t ts f i n s h e = subst (λ (x : List ℕ). ReadsAs x i) (sym e) (record { read = line_is_read name ts f (Plain i) n.solid s n.found h; all = word_written name ts n.solid s })

bare_line : (name : List ℕ) → name ≡ name ++ behind_word []
unfolding behind_word
bare_line name = sym (append-nil name)

one_line : (name a : List ℕ) → name ++ codes " " ++ a ≡ name ++ behind_word (a ∷ [])
unfolding behind_word joined
one_line name a = append_assoc name (codes " ") a

two_line : (name a b : List ℕ) → name ++ codes " " ++ a ++ codes "," ++ b ≡ name ++ behind_word (a ∷ b ∷ [])
unfolding behind_word joined
two_line name a b = append_assoc (name ++ codes " " ++ a) (codes ",") b ∙ append_assoc (name ++ codes " ") a (codes "," ++ b) ∙ append_assoc name (codes " ") (a ++ (codes "," ++ b))

no_address_line : (name a : List ℕ) → name ++ codes " " ++ [] ++ a ≡ name ++ behind_word (a ∷ [])
unfolding behind_word joined
no_address_line name a = ap (λ l. l ++ a) (append-nil (name ++ codes " ")) ∙ append_assoc name (codes " ") a

with_address_line : (name a b : List ℕ) → name ++ codes " " ++ (a ++ codes ",") ++ b ≡ name ++ behind_word (a ∷ b ∷ [])
unfolding behind_word joined
with_address_line name a b = append_assoc (name ++ codes " ") (a ++ codes ",") b ∙ ap (λ l. (name ++ codes " ") ++ l) (append_assoc a (codes ",") b) ∙ append_assoc name (codes " ") (a ++ (codes "," ++ b))

no_operand : (name : List ℕ) (f : WordForm) (i : Ins) → NamedForm name f → item_of_word f [] ≡ Ok (Plain i) → ReadsAs name i
no_operand name f i n h = of_operands name name [] f i n tt h (bare_line name)

one_operand : (name a : List ℕ) (f : WordForm) (i : Ins) → NamedForm name f → Solid a → item_of_word f (a ∷ []) ≡ Ok (Plain i) → ReadsAs (name ++ codes " " ++ a) i
one_operand name a f i n s h = of_operands name (name ++ codes " " ++ a) (a ∷ []) f i n (s, tt) h (one_line name a)

two_operands : (name a b : List ℕ) (f : WordForm) (i : Ins) → NamedForm name f → Solid a → Solid b → item_of_word f (a ∷ b ∷ []) ≡ Ok (Plain i) → ReadsAs (name ++ codes " " ++ a ++ codes "," ++ b) i
two_operands name a b f i n s k h = of_operands name (name ++ codes " " ++ a ++ codes "," ++ b) (a ∷ b ∷ []) f i n (s, (k, tt)) h (two_line name a b)

-- ---- by the shape of the operands

with_byte : (name : List ℕ) (f : ℕ → Ins) (v : ℕ) → NamedForm name (OfByte f) → v < 256 → ReadsAs (byte_line name v) (f v)
with_byte name f v n h = one_operand name (decimal v) (OfByte f) (f v) n (byte_solid v h) (rw (byte_read v h) refl)

with_word : (name : List ℕ) (f : ℕ → Ins) (v : ℕ) → NamedForm name (OfWord f) → v < 65536 → ReadsAs (word_line name v) (f v)
with_word name f v n h = one_operand name (hex_word v) (OfWord f) (f v) n (word_solid v) (rw (word_read v h) refl)

with_words : (name : List ℕ) (f : ℕ → ℕ → Ins) (v w : ℕ) → NamedForm name (OfWords f) → v < 65536 → w < 65536 → ReadsAs (words_line name v w) (f v w)
with_words name f v w n h k = two_operands name (hex_word v) (hex_word w) (OfWords f) (f v w) n (word_solid v) (word_solid w) (rw (word_read v h, word_read w k) refl)

with_bytes : (name : List ℕ) (f : ℕ → ℕ → Ins) (v w : ℕ) → NamedForm name (OfBytes f) → v < 256 → w < 256 → ReadsAs (byte_line name v ++ codes "," ++ decimal w) (f v w)
with_bytes name f v w n h k = two_operands name (decimal v) (decimal w) (OfBytes f) (f v w) n (byte_solid v h) (byte_solid w k) (rw (byte_read v h, byte_read w k) refl)

with_distance : (name : List ℕ) (f : ℕ → ℤ → Ins) (c : ℕ) (d : ℤ) → NamedForm name (ByDistance f) → 0 < c → c < 8 → FitsSigned w8 d → ReadsAs (name ++ codes " " ++ condition_name c ++ codes "," ++ signed_decimal d) (f c d)
with_distance name f c d n l h k =
    two_operands name (condition_name c) (signed_decimal d) (ByDistance f) (f c d) n (condition_solid c l h) (signed_solid 128 d (half_8 d k))
    (rw (condition_read c l h, signed_no_label 128 d (half_8 d k), signed_read 128 d (half_8 d k)) refl)

zero_is : (n : ℕ) → (n == 0) ≡ true → n ≡ 0
zero_is n h = grind (arith, h)

zero_not : (n : ℕ) → (n == 0) ≡ false → 0 < n
zero_not n h = grind (arith, h)

with_place_by : (b : Bool) (name : List ℕ) (f : ℕ → ℕ → Ins) (c to : ℕ) → (c == 0) ≡ b → NamedForm name (ByPlace f) → IsTarget c to → ReadsAs (target_line name c to) (f c to)
with_place_by true name f c to e n t =
    let z = zero_is c e in
    rw e (no_operand name (ByPlace f) (f c to) n (rw (z, t.stack z) refl))
with_place_by false name f c to e n t =
    let l = zero_not c e in
    rw e (two_operands name (condition_name c) (hex_word to) (ByPlace f) (f c to) n (condition_solid c l t.condition) (word_solid to) (rw (condition_read c l t.condition, word_read to t.address) refl))

with_place : (name : List ℕ) (f : ℕ → ℕ → Ins) (c to : ℕ) → NamedForm name (ByPlace f) → IsTarget c to → ReadsAs (target_line name c to) (f c to)
with_place name f c to n t = with_place_by (c == 0) name f c to refl n t

with_address_by : (b : Bool) (name : List ℕ) (f : ℕ → ℤ → Ins) (tag : ℕ) (off : ℤ) → (tag == 0) ≡ b → NamedForm name (Addressed f) → IsAddress tag off → ReadsAs (address_line name tag off) (f tag off)
with_address_by true name f tag off e n a =
    let z = zero_is tag e in
    rw e (no_operand name (Addressed f) (f tag off) n (rw (z, a.top z) refl))
with_address_by false name f tag off e n a =
    let l = zero_not tag e in
    rw e (one_operand name (address_text tag off) (Addressed f) (f tag off) n (address_solid tag off l a.register a.offset) (rw (address_read tag off l a.register a.offset) refl))

with_address : (name : List ℕ) (f : ℕ → ℤ → Ins) (tag : ℕ) (off : ℤ) → NamedForm name (Addressed f) → IsAddress tag off → ReadsAs (address_line name tag off) (f tag off)
with_address name f tag off n a = with_address_by (tag == 0) name f tag off refl n a

address_byte_by : (b : Bool) (name : List ℕ) (f : ℕ → ℤ → ℕ → Ins) (tag : ℕ) (off : ℤ) (v : ℕ) → (tag == 0) ≡ b → NamedForm name (AddressedByte f) → IsAddress tag off → v < 256 → ReadsAs (operand_line name tag off (decimal v)) (f tag off v)
address_byte_by true name f tag off v e n a h =
    let z = zero_is tag e in
    rw e (of_operands name (name ++ codes " " ++ [] ++ decimal v) (decimal v ∷ []) (AddressedByte f) (f tag off v) n (byte_solid v h, tt) (rw (z, a.top z, byte_read v h) refl) (no_address_line name (decimal v)))
address_byte_by false name f tag off v e n a h =
    let l = zero_not tag e in
    rw e (of_operands name (name ++ codes " " ++ (address_text tag off ++ codes ",") ++ decimal v) (address_text tag off ∷ decimal v ∷ []) (AddressedByte f) (f tag off v) n
    (address_solid tag off l a.register a.offset, (byte_solid v h, tt)) (rw (address_read tag off l a.register a.offset, byte_read v h) refl) (with_address_line name (address_text tag off) (decimal v)))

address_byte : (name : List ℕ) (f : ℕ → ℤ → ℕ → Ins) (tag : ℕ) (off : ℤ) (v : ℕ) → NamedForm name (AddressedByte f) → IsAddress tag off × (v < 256) → ReadsAs (operand_line name tag off (decimal v)) (f tag off v)
address_byte name f tag off v n s = address_byte_by (tag == 0) name f tag off v refl n s.0 s.1

address_word_by : (b : Bool) (name : List ℕ) (f : ℕ → ℤ → ℕ → Ins) (tag : ℕ) (off : ℤ) (v : ℕ) → (tag == 0) ≡ b → NamedForm name (AddressedWord f) → IsAddress tag off → v < 65536 → ReadsAs (operand_line name tag off (hex_word v)) (f tag off v)
address_word_by true name f tag off v e n a h =
    let z = zero_is tag e in
    rw e (of_operands name (name ++ codes " " ++ [] ++ hex_word v) (hex_word v ∷ []) (AddressedWord f) (f tag off v) n (word_solid v, tt) (rw (z, a.top z, word_read v h) refl) (no_address_line name (hex_word v)))
address_word_by false name f tag off v e n a h =
    let l = zero_not tag e in
    rw e (of_operands name (name ++ codes " " ++ (address_text tag off ++ codes ",") ++ hex_word v) (address_text tag off ∷ hex_word v ∷ []) (AddressedWord f) (f tag off v) n
    (address_solid tag off l a.register a.offset, (word_solid v, tt)) (rw (address_read tag off l a.register a.offset, word_read v h) refl) (with_address_line name (address_text tag off) (hex_word v)))

address_word : (name : List ℕ) (f : ℕ → ℤ → ℕ → Ins) (tag : ℕ) (off : ℤ) (v : ℕ) → NamedForm name (AddressedWord f) → IsAddress tag off × (v < 65536) → ReadsAs (operand_line name tag off (hex_word v)) (f tag off v)
address_word name f tag off v n s = address_word_by (tag == 0) name f tag off v refl n s.0 s.1

-- ---- primitives

arguments_joined : (a : List ℕ) (bs : List ℕ) → a ++ arguments_text bs ≡ joined (a ∷ map decimal bs)
unfolding joined
arguments_joined a [] = append-nil a
arguments_joined a (b ∷ bs) = ap (λ t. a ++ 44 ∷ t) (arguments_joined (decimal b) bs)

arguments_line : (name a : List ℕ) (bs : List ℕ) → name ++ codes " " ++ a ++ arguments_text bs ≡ name ++ behind_word (a ∷ map decimal bs)
unfolding behind_word
arguments_line name a bs = append_assoc (name ++ codes " ") a (arguments_text bs) ∙ append_assoc name (codes " ") (a ++ arguments_text bs) ∙ ap (λ t. name ++ 32 ∷ t) (arguments_joined a bs)

arguments_read : (bs : List ℕ) → AllByRecursion (λ b. b < 256) bs → all_bytes (map decimal bs) ≡ Ok bs
arguments_read [] a = refl
arguments_read (b ∷ bs) a = rw (byte_read b a.0, arguments_read bs a.1) refl

arguments_solid : (bs : List ℕ) → AllByRecursion (λ b. b < 256) bs → AllSolid (map decimal bs)
arguments_solid [] a = tt
arguments_solid (b ∷ bs) a = (byte_solid b a.0, arguments_solid bs a.1)

length_decimals : (bs : List ℕ) → length (map decimal bs) ≡ length bs
length_decimals [] = refl
length_decimals (b ∷ bs) = ap suc (length_decimals bs)

up_to_three : (n : ℕ) → n ≤ 3 → nat_le n 3 ≡ true
up_to_three n h = grind (arith, h)

primitive_line : (name : List ℕ) (number : ℕ) (bs : List ℕ) → NamedForm name Primitive → number < 256 → AllByRecursion (λ b. b < 256) bs → length bs ≤ 3
    → ReadsAs (byte_line name number ++ arguments_text bs) (Prim (length bs) number (take 3 (bs ++ zeros 3)))
primitive_line name number bs n h a l =
    let few : nat_le (length (map decimal bs)) 3 ≡ true = rw (length_decimals bs) (up_to_three (length bs) l) in
    of_operands name (byte_line name number ++ arguments_text bs) (decimal number ∷ map decimal bs) Primitive (Prim (length bs) number (take 3 (bs ++ zeros 3))) n
    (byte_solid number h, arguments_solid bs a) (rw (few, byte_read number h, arguments_read bs a) refl) (arguments_line name (decimal number) bs)

prim_named : NamedForm (codes "PRIM") Primitive
prim_named = record { solid = record { some = refl; all = refl }; found = refl }

prim_line : (set number : ℕ) (args : List ℕ) → IsPrimitive set number args → ReadsAs (text_of (Prim set number args)) (Prim set number args)
prim_line set number [] a = absurd (grind (arith, a.three))
prim_line set number (x ∷ []) a = absurd (grind (arith, a.three))
prim_line set number (x ∷ y ∷ []) a = absurd (grind (arith, a.three))
prim_line set number (x ∷ y ∷ z ∷ w ∷ args) a = absurd (grind (arith, a.three))
prim_line zero number (x ∷ y ∷ z ∷ []) a =
    subst (λ (l : List ℕ). ReadsAs (byte_line (codes "PRIM") number ++ []) (Prim 0 number l)) (sym a.rest) (primitive_line (codes "PRIM") number [] prim_named a.byte tt (omega arith))
prim_line (suc zero) number (x ∷ y ∷ z ∷ []) a =
    subst (λ (l : List ℕ). ReadsAs (byte_line (codes "PRIM") number ++ arguments_text (x ∷ [])) (Prim 1 number (x ∷ l))) (sym a.rest) (primitive_line (codes "PRIM") number (x ∷ []) prim_named a.byte (a.bytes.0, tt) (omega arith))
prim_line (suc (suc zero)) number (x ∷ y ∷ z ∷ []) a =
    subst (λ (l : List ℕ). ReadsAs (byte_line (codes "PRIM") number ++ arguments_text (x ∷ y ∷ [])) (Prim 2 number (x ∷ y ∷ l))) (sym a.rest) (primitive_line (codes "PRIM") number (x ∷ y ∷ []) prim_named a.byte (a.bytes.0, (a.bytes.1.0, tt)) (omega arith))
prim_line (suc (suc (suc zero))) number (x ∷ y ∷ z ∷ []) a = primitive_line (codes "PRIM") number (x ∷ y ∷ z ∷ []) prim_named a.byte a.bytes (omega arith)
prim_line (suc (suc (suc (suc n)))) number (x ∷ y ∷ z ∷ []) a = absurd (omega (arith, a.sets))

-- ---- each instruction

pub instruction_read : (i : Ins) → Shaped i → ReadsAs (text_of i) i
instruction_read Nop s = no_operand (codes "NOP") (Bare Nop) Nop (record { solid = record { some = refl; all = refl }; found = refl }) refl
instruction_read (Setsw v) s = with_word (codes "SETSW") (λ v. Setsw v) v (record { solid = record { some = refl; all = refl }; found = refl }) s
instruction_read (Setla v) s = with_word (codes "SETLA") (λ v. Setla v) v (record { solid = record { some = refl; all = refl }; found = refl }) s
instruction_read (Setswla v w) s = with_words (codes "SETSWLA") (λ v w. Setswla v w) v w (record { solid = record { some = refl; all = refl }; found = refl }) s.0 s.1
instruction_read Exit s = no_operand (codes "EXIT") (Bare Exit) Exit (record { solid = record { some = refl; all = refl }; found = refl }) refl
instruction_read (Exitsw v) s = with_word (codes "EXITSW") (λ v. Exitsw v) v (record { solid = record { some = refl; all = refl }; found = refl }) s
instruction_read (Exitla v) s = with_word (codes "EXITLA") (λ v. Exitla v) v (record { solid = record { some = refl; all = refl }; found = refl }) s
instruction_read (Exitswla v w) s = with_words (codes "EXITSWLA") (λ v w. Exitswla v w) v w (record { solid = record { some = refl; all = refl }; found = refl }) s.0 s.1
instruction_read (Branch c d) s = with_distance (codes "BRANCH") (λ c d. Branch c d) c d (record { solid = record { some = refl; all = refl }; found = refl }) s.0 s.1 s.2
instruction_read (Jump c to) s = with_place (codes "JUMP") (λ c p. Jump c p) c to (record { solid = record { some = refl; all = refl }; found = refl }) s
instruction_read (Call c to) s = with_place (codes "CALL") (λ c p. Call c p) c to (record { solid = record { some = refl; all = refl }; found = refl }) s
instruction_read (Pushz v) s = with_byte (codes "PUSHZ") (λ v. Pushz v) v (record { solid = record { some = refl; all = refl }; found = refl }) s
instruction_read (Pushb v) s = with_byte (codes "PUSHB") (λ v. Pushb v) v (record { solid = record { some = refl; all = refl }; found = refl }) s
instruction_read (Pushw v) s = with_word (codes "PUSHW") (λ v. Pushw v) v (record { solid = record { some = refl; all = refl }; found = refl }) s
instruction_read (Popn v) s = with_byte (codes "POPN") (λ v. Popn v) v (record { solid = record { some = refl; all = refl }; found = refl }) s
instruction_read Popb s = no_operand (codes "POPB") (Bare Popb) Popb (record { solid = record { some = refl; all = refl }; found = refl }) refl
instruction_read Popw s = no_operand (codes "POPW") (Bare Popw) Popw (record { solid = record { some = refl; all = refl }; found = refl }) refl
instruction_read (Prim set number args) s = prim_line set number args s
instruction_read Ret s = no_operand (codes "RET") (Bare Ret) Ret (record { solid = record { some = refl; all = refl }; found = refl }) refl
instruction_read (Reti v) s = with_byte (codes "RETI") (λ v. Reti v) v (record { solid = record { some = refl; all = refl }; found = refl }) s
instruction_read (Reto v) s = with_byte (codes "RETO") (λ v. Reto v) v (record { solid = record { some = refl; all = refl }; found = refl }) s
instruction_read (Retio i o) s = with_bytes (codes "RETIO") (λ v w. Retio v w) i o (record { solid = record { some = refl; all = refl }; found = refl }) s.0 s.1
instruction_read (Load tag off n) s = address_byte (codes "LOAD") (λ t o v. Load t o v) tag off n (record { solid = record { some = refl; all = refl }; found = refl }) s
instruction_read (Store tag off n) s = address_byte (codes "STORE") (λ t o v. Store t o v) tag off n (record { solid = record { some = refl; all = refl }; found = refl }) s
instruction_read (Loadi tag off n) s = address_byte (codes "LOADI") (λ t o v. Loadi t o v) tag off n (record { solid = record { some = refl; all = refl }; found = refl }) s
instruction_read (Storei tag off n) s = address_byte (codes "STOREI") (λ t o v. Storei t o v) tag off n (record { solid = record { some = refl; all = refl }; found = refl }) s
instruction_read (Loada tag off) s = with_address (codes "LOADA") (λ t o. Loada t o) tag off (record { solid = record { some = refl; all = refl }; found = refl }) s
instruction_read (Index tag off n) s = address_byte (codes "INDEX") (λ t o v. Index t o v) tag off n (record { solid = record { some = refl; all = refl }; found = refl }) s
instruction_read (Setb tag off n) s = address_byte (codes "SETB") (λ t o v. Setb t o v) tag off n (record { solid = record { some = refl; all = refl }; found = refl }) s
instruction_read (Cmpb tag off n) s = address_byte (codes "CMPB") (λ t o v. Cmpb t o v) tag off n (record { solid = record { some = refl; all = refl }; found = refl }) s
instruction_read (Addb tag off n) s = address_byte (codes "ADDB") (λ t o v. Addb t o v) tag off n (record { solid = record { some = refl; all = refl }; found = refl }) s
instruction_read (Subb tag off n) s = address_byte (codes "SUBB") (λ t o v. Subb t o v) tag off n (record { solid = record { some = refl; all = refl }; found = refl }) s
instruction_read (Setw tag off w) s = address_word (codes "SETW") (λ t o v. Setw t o v) tag off w (record { solid = record { some = refl; all = refl }; found = refl }) s
instruction_read (Cmpw tag off w) s = address_word (codes "CMPW") (λ t o v. Cmpw t o v) tag off w (record { solid = record { some = refl; all = refl }; found = refl }) s
instruction_read (Addw tag off w) s = address_word (codes "ADDW") (λ t o v. Addw t o v) tag off w (record { solid = record { some = refl; all = refl }; found = refl }) s
instruction_read (Subw tag off w) s = address_word (codes "SUBW") (λ t o v. Subw t o v) tag off w (record { solid = record { some = refl; all = refl }; found = refl }) s
instruction_read (Clearn tag off n) s = address_byte (codes "CLEARN") (λ t o v. Clearn t o v) tag off n (record { solid = record { some = refl; all = refl }; found = refl }) s
instruction_read (Testn tag off n) s = address_byte (codes "TESTN") (λ t o v. Testn t o v) tag off n (record { solid = record { some = refl; all = refl }; found = refl }) s
instruction_read (Incn tag off n) s = address_byte (codes "INCN") (λ t o v. Incn t o v) tag off n (record { solid = record { some = refl; all = refl }; found = refl }) s
instruction_read (Decn tag off n) s = address_byte (codes "DECN") (λ t o v. Decn t o v) tag off n (record { solid = record { some = refl; all = refl }; found = refl }) s
instruction_read (Notn tag off n) s = address_byte (codes "NOTN") (λ t o v. Notn t o v) tag off n (record { solid = record { some = refl; all = refl }; found = refl }) s
instruction_read (Cmpn tag off n) s = address_byte (codes "CMPN") (λ t o v. Cmpn t o v) tag off n (record { solid = record { some = refl; all = refl }; found = refl }) s
instruction_read (Addn tag off n) s = address_byte (codes "ADDN") (λ t o v. Addn t o v) tag off n (record { solid = record { some = refl; all = refl }; found = refl }) s
instruction_read (Subn tag off n) s = address_byte (codes "SUBN") (λ t o v. Subn t o v) tag off n (record { solid = record { some = refl; all = refl }; found = refl }) s
instruction_read (Andn tag off n) s = address_byte (codes "ANDN") (λ t o v. Andn t o v) tag off n (record { solid = record { some = refl; all = refl }; found = refl }) s
instruction_read (Orn tag off n) s = address_byte (codes "ORN") (λ t o v. Orn t o v) tag off n (record { solid = record { some = refl; all = refl }; found = refl }) s
instruction_read (Xorn tag off n) s = address_byte (codes "XORN") (λ t o v. Xorn t o v) tag off n (record { solid = record { some = refl; all = refl }; found = refl }) s
