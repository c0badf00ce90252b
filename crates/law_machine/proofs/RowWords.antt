-- The words that each row's change touches, from the causes that do not hold and the ranges of its operands.
use Rattle.std.proofs.Common.{◌≡◌, ℕ, ◌+◌, ◌*◌, ◌<◌, ◌≤◌, ℤ, Bool, true, false, cond, List, [], ◌∷◌, length, Option, Some, None, refl, sym, subst, inl, inr, arith}
use Rattle.std.specs.Prelude.{◌&&◌, ◌||◌, ◌⊎◌, ⊤, nat_le, slice_index, IfSome}
use Rattle.std.specs.List.{AllByRecursion}
use Rattle.std.proofs.lemmas.Bool.{and_parts, or_parts, not-false, leb-true}
use Rattle.sha1.specs.Sha1.{sha1}
use Rattle.model_card.specs.model_machine.specs.declared.instruction.Ins.{Ins}
use Rattle.model_card.specs.model_machine.specs.declared.instruction.Ins.TheVariants as ins
use Rattle.model_card.specs.model_machine.specs.declared.machine.Abend.{Abend}
use Rattle.model_card.specs.model_device.specs.Bytes.{bytes2}
use Rattle.model_card.specs.model_machine.specs.Code.{Shaped}
use Rattle.model_card.specs.model_machine.specs.Modes.{ecb}
use Rattle.model_card.specs.model_device.specs.Pieces.{touched_words}
use Rattle.model_card.specs.model_machine.specs.Frame.{Frame, Effect, bytes_at, address_at, is_outside, no_access, frame_after_pop, top}
use Rattle.model_card.specs.model_machine.specs.Primitives.{Around, Then, Done, Exits, Delegates, Cipher, block_len, key_len, Primitive, MemoryCopy, DelegateTo, DelegatorAid, Digest, CopyFixed, SetProtection, Encipher, Decipher, Sign, primitive, in_range, number_below_top, count_at, reported_causes, cipher_causes, later_causes, prim_causes, prim_effect, prim_done, encipherment, decipherment}
use Rattle.model_card.specs.model_machine.specs.Row.{operand, address_or_zero, writes, immediate_writes, pair_writes, place_of, causes, effect, first_cause, row_end, row}
use Rattle.model_card.specs.model_device.proofs.ListLemmas.{zeros_short}
use Rattle.model_card.specs.model_machine.specs.Shapes.{Shape, meaning, delegator_shape, prim_shape, pair_shape, shape}
use Rattle.law_rows.specs.Keeping.{PiecesWithin, Leaves, OnLeave}
use Rattle.law_rows.proofs.RowShapes.{shapes}
use Rattle.law_rows.proofs.Keeping.{effect_keeps, effect_leaves, fixed_length}
use Rattle.law_machine.specs.FewWords.{HoldsFew, IsReportedName, most_of, most_words, EndsFew, EndsWithin, FewWordsLaw, FewWritesLaw}
use Rattle.law_machine.proofs.BlockLengths.{worked_short, each_short, map_short, stacked_short, at_short, enciphered_message, deciphered_message, signature_short, length_sha1}
use Rattle.law_machine.proofs.ActWords.{ChangesFew, WriteFacts, Tested, act_most, shape_few}

-- ---- no cause holds

-- none of some causes holds
abbrev pub NoneHolds : List (Abend × Bool) → Type 0
NoneHolds [] = ⊤
NoneHolds (c ∷ cs) = (c.1 ≡ false) × NoneHolds cs

-- if the first cause does not hold, what is left has none
pub not_first : (b : Bool) (a : Abend) (rest : Option Abend) → cond b (Some a) rest ≡ None → (b ≡ false) × (rest ≡ None)
not_first true a rest e = absurd (cc e)
not_first false a rest e = (refl, e)

-- if there is no first cause, none holds
pub none_holds : (cs : List (Abend × Bool)) → first_cause cs ≡ None → NoneHolds cs
none_holds [] e = tt
none_holds (c ∷ cs) e =
    let parts = not_first c.1 c.0 (first_cause cs) e in
    (parts.0, none_holds cs parts.1)

-- what is known of a row that is done
pub record DoneRowFacts (i : Ins) (f : Frame) (public : List ℕ) (x : Around) : Type 0 where
  pub shaped : Shaped i
  pub reported : IsReportedName i x.delegator
  pub none : NoneHolds (causes i f public x)

-- ---- tested writes

there_by : (f : Frame) (o : Option ℕ) (n : ℕ) → no_access f o n ≡ false → is_outside f (address_or_zero o) n ≡ false
there_by f None n h = absurd (cc h)
there_by f (Some a) n h = h

-- a write at an operand whose access was tested
operand_facts : (f : Frame) (o : Option ℕ) (n : ℕ) (b : List ℕ) → NoneHolds (writes f o n) → length b ≤ n → n ≤ 256 → WriteFacts f (address_or_zero o) n b
operand_facts f o n b none short small = record { short = short; small = small; there = there_by f o n none.0; room = none.1.0 }

byte_most : (n : ℕ) → n < 256 → n ≤ 256
byte_most n h = omega arith

-- a number in a range is at most its upper end
pub ranged : (low high n : ℕ) → in_range low high n ≡ true → n ≤ high
ranged low high n h = leb-true n high (and_parts (nat_le low n) (nat_le n high) h).1

-- the first argument byte is a byte, or zero if there is none
pub first_byte : (args : List ℕ) → AllByRecursion (λ b. b < 256) args → slice_index args 0 < 256
first_byte [] a = omega arith
first_byte (b ∷ bs) a = a.0

-- what a shape writes was tested
abbrev IsTested : Frame → Shape → Type 0
IsTested f s = Tested s.act (record f { dt = s.dt })

-- ---- primitives

record PrimFacts (p : Primitive) (args : List ℕ) (f : Frame) (public : List ℕ) (x : Around) : Type 0 where
  bytes : AllByRecursion (λ b. b < 256) args
  reported : IfSome x.delegator (λ n. length n ≤ 16)
  none : NoneHolds (later_causes p args f public x)

block_most : (c : Cipher) → block_len c ≤ 256
block_most c = grind arith

copy_facts : (args : List ℕ) (f : Frame) (public : List ℕ) (x : Around) → PrimFacts MemoryCopy args f public x → WriteFacts (frame_after_pop f 6) (number_below_top f 4) (number_below_top f 6) (bytes_at (frame_after_pop f 6) public (number_below_top f 2) (number_below_top f 6))
unfolding later_causes
copy_facts args f public x p =
    let g = frame_after_pop f 6 in
    let n : ℕ = number_below_top f 6 in
    let range : in_range 1 255 n ≡ true = not-false (in_range 1 255 n) p.none.1.1.0 in
    let small : n ≤ 255 = ranged 1 255 n range in
    let outside : (is_outside g (number_below_top f 4) n || is_outside g (number_below_top f 2) n) ≡ false = subst (λ (b : Bool). (b && (is_outside g (number_below_top f 4) n || is_outside g (number_below_top f 2) n)) ≡ false) range p.none.1.0 in
    record { short = at_short g public (number_below_top f 2) n; small = omega arith; there = (or_parts (is_outside g (number_below_top f 4) n) (is_outside g (number_below_top f 2) n) outside).0; room = p.none.1.1.1.0 }

fixed_facts : (args : List ℕ) (f : Frame) (public : List ℕ) (x : Around) → PrimFacts CopyFixed args f public x
    → WriteFacts (frame_after_pop f 4) (number_below_top f 4) (slice_index args 0) (bytes_at (frame_after_pop f 4) public (number_below_top f 2) (slice_index args 0))
unfolding later_causes
fixed_facts args f public x p =
    let g = frame_after_pop f 4 in
    let n : ℕ = slice_index args 0 in
    record {
      short = at_short g public (number_below_top f 2) n;
      small = byte_most n (first_byte args p.bytes);
      there = (or_parts (is_outside g (number_below_top f 4) n) (is_outside g (number_below_top f 2) n) p.none.1.0).0;
      room = p.none.1.1.0;
    }

digest_facts : (args : List ℕ) (f : Frame) (public : List ℕ) (x : Around) → PrimFacts Digest args f public x
    → WriteFacts (frame_after_pop f 6) (number_below_top f 2) 20 (sha1 (bytes_at (frame_after_pop f 6) public (number_below_top f 4) (number_below_top f 6)))
unfolding later_causes
digest_facts args f public x p =
    let g = frame_after_pop f 6 in
    let n : ℕ = number_below_top f 6 in
    record {
      short = omega (arith, length_sha1 (bytes_at g public (number_below_top f 4) n));
      small = omega arith;
      there = (or_parts (in_range 1 255 n && is_outside g (number_below_top f 4) n) (is_outside g (number_below_top f 2) 20) p.none.1.0).1;
      room = p.none.1.1.1.0;
    }

cipher_facts : (c : Cipher) (n : ℕ) (f : Frame) (b : List ℕ) → NoneHolds (cipher_causes c n f) → n < 256 → length b ≤ n → WriteFacts (frame_after_pop f 6) (number_below_top f 4) n b
cipher_facts c n f b none small short = grind (arith, or_parts, byte_most)

encipher_facts : (c : Cipher) (args : List ℕ) (f : Frame) (public key : List ℕ) (x : Around) → PrimFacts (Encipher c) args f public x
    → let g = frame_after_pop f 6 in let n = slice_index args 0 in WriteFacts g (number_below_top f 4) n (ecb (encipherment c key) (block_len c) (bytes_at g public (number_below_top f 6) n))
unfolding later_causes
encipher_facts c args f public key x p =
    let g = frame_after_pop f 6 in
    let n : ℕ = slice_index args 0 in
    let message = bytes_at g public (number_below_top f 6) n in
    let one : length message ≤ n = at_short g public (number_below_top f 6) n in
    let all : length (ecb (encipherment c key) (block_len c) message) ≤ length message = enciphered_message c key message in
    cipher_facts c n f (ecb (encipherment c key) (block_len c) message) p.none (first_byte args p.bytes) (omega arith)

decipher_facts : (c : Cipher) (args : List ℕ) (f : Frame) (public key : List ℕ) (x : Around) → PrimFacts (Decipher c) args f public x
    → let g = frame_after_pop f 6 in let n = slice_index args 0 in WriteFacts g (number_below_top f 4) n (ecb (decipherment c key) (block_len c) (bytes_at g public (number_below_top f 6) n))
unfolding later_causes
decipher_facts c args f public key x p =
    let g = frame_after_pop f 6 in
    let n : ℕ = slice_index args 0 in
    let message = bytes_at g public (number_below_top f 6) n in
    let one : length message ≤ n = at_short g public (number_below_top f 6) n in
    let all : length (ecb (decipherment c key) (block_len c) message) ≤ length message = deciphered_message c key message in
    cipher_facts c n f (ecb (decipherment c key) (block_len c) message) p.none (first_byte args p.bytes) (omega arith)

sign_facts : (c : Cipher) (args : List ℕ) (f : Frame) (public b : List ℕ) (x : Around) → PrimFacts (Sign c) args f public x → length b ≤ block_len c → WriteFacts (frame_after_pop f 8) (number_below_top f 4) (block_len c) b
unfolding later_causes
sign_facts c args f public b x p short =
    let g = frame_after_pop f 8 in
    let n : ℕ = slice_index args 0 in
    let m : ℕ = block_len c in
    let last = or_parts (is_outside g (number_below_top f 8) m || is_outside g (number_below_top f 6) n || is_outside g (number_below_top f 4) m) (is_outside g (number_below_top f 2) (key_len c)) p.none.1.0 in
    let middle = or_parts (is_outside g (number_below_top f 8) m || is_outside g (number_below_top f 6) n) (is_outside g (number_below_top f 4) m) last.0 in
    record { short = short; small = block_most c; there = middle.1; room = p.none.1.1.0 }

delegator_tested : (f : Frame) (o : Option (List ℕ)) → IfSome o (λ n. length n ≤ 16) → NoneHolds (reported_causes (frame_after_pop f 2) (number_below_top f 2) o) → IsTested f (delegator_shape f o)
delegator_tested f None t h = tt
delegator_tested f (Some name) t h = record { short = omega arith; small = let few : length name ≤ 16 = t in omega arith; there = h.0; room = h.1.0 }

prim_tested : (p : Primitive) (args : List ℕ) (f : Frame) (public : List ℕ) (x : Around) → PrimFacts p args f public x → IsTested f (prim_shape p args f public x)
unfolding prim_shape later_causes
prim_tested MemoryCopy args f public x p = copy_facts args f public x p
prim_tested DelegatorAid args f public x p = delegator_tested f x.delegator p.reported p.none.1
prim_tested Digest args f public x p = digest_facts args f public x p
prim_tested CopyFixed args f public x p = fixed_facts args f public x p
prim_tested (Encipher c) args f public x p = encipher_facts c args f public _ x p
prim_tested (Decipher c) args f public x p = decipher_facts c args f public _ x p
prim_tested (Sign c) args f public x p =
    sign_facts c args f public _ x p (signature_short c _ _ _ (at_short (frame_after_pop f 8) public (number_below_top f 8) (block_len c)))
prim_tested _ args f public x p = tt

pair_tested : (o : Option Primitive) (args : List ℕ) (f : Frame) (public : List ℕ) (x : Around) → ((p : Primitive) → o ≡ Some p → PrimFacts p args f public x) → IsTested f (pair_shape o args f public x)
pair_tested None args f public x facts = tt
pair_tested (Some p) args f public x facts = prim_tested p args f public x (facts p refl)

-- ---- rows

imm_facts : (f : Frame) (tag : ℕ) (off : ℤ) (n : ℕ) (b : List ℕ) → NoneHolds (immediate_writes f tag off n) → length b ≤ n → n ≤ 256 → WriteFacts f (place_of f tag off n) n b
imm_facts f tag off n b none short small = operand_facts f (operand f tag off n) n b none.1 short small

pair_facts : (f : Frame) (tag : ℕ) (off : ℤ) (n : ℕ) (b : List ℕ) → NoneHolds (pair_writes f tag off n) → length b ≤ n → n < 256 → WriteFacts f (place_of f tag off (2 * n)) n b
pair_facts f tag off n b none short small = operand_facts f (operand f tag off (2 * n)) n b none.1 short (byte_most n small)

prim_facts : (set number : ℕ) (args : List ℕ) (f : Frame) (public : List ℕ) (x : Around) (p : Primitive) → primitive set number ≡ Some p → DoneRowFacts (ins.Prim set number args) f public x → PrimFacts p args f public x
unfolding causes
prim_facts set number args f public x p is h =
    let none : NoneHolds (prim_causes (Some p) args f public x) = subst (λ (o : Option Primitive). NoneHolds (prim_causes o args f public x)) is h.none in
    record { bytes = h.shaped.bytes; reported = h.reported; none = none.1.1 }

-- what each row writes was tested
shape_tested : (i : Ins) (f : Frame) (public : List ℕ) (x : Around) → DoneRowFacts i f public x → IsTested f (shape i f public x)
unfolding shape causes
shape_tested (ins.Prim set number args) f public x p = pair_tested (primitive set number) args f public x (λ q is. prim_facts set number args f public x q is p)
shape_tested (ins.Store tag off n) f public x p = operand_facts (frame_after_pop f n) (operand f tag off (2 * n)) n (top f n) p.none.1.1 (stacked_short f n n) (byte_most n p.shaped.1)
shape_tested (ins.Storei tag off n) f public x p =
    record {
      short = stacked_short f n n;
      small = byte_most n p.shaped.1;
      there = (or_parts (no_access f (operand f tag off (n + 2)) 2) (is_outside (frame_after_pop f n) (address_at f public (place_of f tag off (n + 2))) n) p.none.1.1.0).1;
      room = p.none.1.1.1.0;
    }
shape_tested (ins.Setb tag off b) f public x p = imm_facts f tag off 1 _ p.none (omega arith) (omega arith)
shape_tested (ins.Addb tag off b) f public x p = imm_facts f tag off 1 _ p.none (worked_short _ 1 _ (at_short f public _ 1)) (omega arith)
shape_tested (ins.Subb tag off b) f public x p = imm_facts f tag off 1 _ p.none (worked_short _ 1 _ (at_short f public _ 1)) (omega arith)
shape_tested (ins.Setw tag off w) f public x p = imm_facts f tag off 2 (bytes2 w) p.none (omega arith) (omega arith)
shape_tested (ins.Addw tag off w) f public x p = imm_facts f tag off 2 _ p.none (worked_short _ 2 _ (at_short f public _ 2)) (omega arith)
shape_tested (ins.Subw tag off w) f public x p = imm_facts f tag off 2 _ p.none (worked_short _ 2 _ (at_short f public _ 2)) (omega arith)
shape_tested (ins.Clearn tag off n) f public x p = imm_facts f tag off n _ p.none.1 (zeros_short n) (byte_most n p.shaped.1)
shape_tested (ins.Incn tag off n) f public x p = imm_facts f tag off n _ p.none.1 (worked_short _ n _ (at_short f public _ n)) (byte_most n p.shaped.1)
shape_tested (ins.Decn tag off n) f public x p = imm_facts f tag off n _ p.none.1 (worked_short _ n _ (at_short f public _ n)) (byte_most n p.shaped.1)
shape_tested (ins.Notn tag off n) f public x p = imm_facts f tag off n _ p.none.1 (map_short _ _ n (at_short f public _ n)) (byte_most n p.shaped.1)
shape_tested (ins.Addn tag off n) f public x p = pair_facts f tag off n _ p.none.1 (worked_short _ n _ (at_short f public _ n)) p.shaped.1
shape_tested (ins.Subn tag off n) f public x p = pair_facts f tag off n _ p.none.1 (worked_short _ n _ (at_short f public _ n)) p.shaped.1
shape_tested (ins.Andn tag off n) f public x p = pair_facts f tag off n _ p.none.1 (each_short _ _ (top f n) n (at_short f public _ n)) p.shaped.1
shape_tested (ins.Orn tag off n) f public x p = pair_facts f tag off n _ p.none.1 (each_short _ _ (top f n) n (at_short f public _ n)) p.shaped.1
shape_tested (ins.Xorn tag off n) f public x p = pair_facts f tag off n _ p.none.1 (each_short _ _ (top f n) n (at_short f public _ n)) p.shaped.1
shape_tested _ f public x p = tt

-- only a change of protection may change more than 33 words
pair_most : (o : Option Primitive) (args : List ℕ) (f : Frame) (public : List ℕ) (x : Around) → act_most (pair_shape o args f public x).act ≡ most_of o
unfolding prim_shape
pair_most None args f public x = refl
pair_most (Some DelegatorAid) args f public x = by x.delegator
  where
    by : (o : Option (List ℕ)) → act_most (delegator_shape f o).act ≡ 33
    by None = refl
    by (Some name) = refl
pair_most (Some p) args f public x = refl

shape_most : (i : Ins) (f : Frame) (public : List ℕ) (x : Around) → act_most (shape i f public x).act ≡ most_words i
unfolding shape
shape_most (ins.Prim set number args) f public x = pair_most (primitive set number) args f public x
shape_most _ f public x = refl

-- the words that an instruction changes, if no cause holds
pub row_few : (i : Ins) (f : Frame) (public : List ℕ) (x : Around) → DoneRowFacts i f public x → ChangesFew (length f.fixed) f.pieces (most_words i) (effect i f public x).effect
row_few i f public x p =
    let s = shape i f public x in
    let k : ChangesFew (length f.fixed) f.pieces (act_most s.act) (meaning s f public).effect = shape_few s f public (shape_tested i f public x p) in
    let l : ChangesFew (length f.fixed) f.pieces (most_words i) (meaning s f public).effect = subst (λ (n : ℕ). ChangesFew (length f.fixed) f.pieces n (meaning s f public).effect) (shape_most i f public x) k in
    subst (λ (d : Done). ChangesFew (length f.fixed) f.pieces (most_words i) d.effect) (sym (shapes i f public x)) l

-- ---- exits

exit_by : (t : Then) (f : Frame) (e : Effect) → OnLeave t (Leaves f e) → t ≡ Exits → e.changes ≡ None
exit_by t f e h is = grind arith

exit_none : (d : Done) (f : Frame) → OnLeave d.next (Leaves f d.effect) → d.next ≡ Exits → d.effect.changes ≡ None
exit_none d f h is = exit_by d.next f d.effect h is

-- ---- the law

-- the frame that a row leaves is within the limits
pub held_after : (i : Ins) (f : Frame) (public : List ℕ) (x : Around) → DoneRowFacts i f public x → HoldsFew f → HoldsFew (effect i f public x).effect.frame
held_after i f public x p held =
    let k = effect_keeps i f public x in
    let same : length (effect i f public x).effect.frame.fixed ≡ length f.fixed = fixed_length f public (effect i f public x).effect k held.inside in
    record {
      fixed = subst (λ (n : ℕ). n ≤ 4096) (sym same) held.fixed;
      inside = subst (λ (n : ℕ). PiecesWithin n (effect i f public x).effect.frame.pieces) (sym same) (k.inside held.inside);
      few = (row_few i f public x p).few held.fixed held.few;
    }

-- a name that every row may write
pub reported_any : (i : Ins) (o : Option (List ℕ)) → IfSome o (λ n. length n ≤ 16) → IsReportedName i o
reported_any (ins.Prim set number args) o h = h
reported_any i o h = tt

-- the words that a row changes, whatever its frame is like: a row that may change more than 33 changes what is pending
judged_words : (i : Ins) (f : Frame) (public : List ℕ) (x : Around) → Shaped i → IsReportedName i x.delegator → (most_words i ≡ 64 → length (touched_words f.pieces) ≤ 64) → (o : Option Abend) → first_cause (causes i f public x) ≡ o
    → EndsWithin (most_words i) (row_end o (effect i f public x))
judged_words i f public x shaped reported few (Some a) e = tt
judged_words i f public x shaped reported few None e = (row_few i f public x (record { shaped = shaped; reported = reported; none = none_holds (causes i f public x) e })).words few

-- a row touches at most the words of its instruction
pub row_words : (i : Ins) (f : Frame) (public : List ℕ) (x : Around) → Shaped i → IsReportedName i x.delegator → (most_words i ≡ 64 → length (touched_words f.pieces) ≤ 64) → EndsWithin (most_words i) (row i f public x)
unfolding row
row_words i f public x shaped reported few = judged_words i f public x shaped reported few (first_cause (causes i f public x)) refl

judged_few : (i : Ins) (f : Frame) (public : List ℕ) (x : Around) → Shaped i → IfSome x.delegator (λ n. length n ≤ 16) → HoldsFew f → (o : Option Abend) → first_cause (causes i f public x) ≡ o
    → EndsFew (most_words i) (row_end o (effect i f public x))
judged_few i f public x shaped reported held (Some a) e = tt
judged_few i f public x shaped reported held None e =
    let p : DoneRowFacts i f public x = record { shaped = shaped; reported = reported_any i x.delegator reported; none = none_holds (causes i f public x) e } in
    record { words = (row_few i f public x p).words (λ e. held.few); frame = held_after i f public x p held; exit = exit_none (effect i f public x) f (effect_leaves i f public x) }

-- a name that a row delegates to has at most 16 bytes
delegates_prim : (p : Primitive) (args : List ℕ) (f : Frame) (public : List ℕ) (x : Around) → NoneHolds (later_causes p args f public x) → (n : List ℕ) → (prim_effect p args f public x).next ≡ Delegates n → length n ≤ 16
unfolding later_causes prim_effect
delegates_prim DelegateTo args f public x none n e =
    let g = frame_after_pop f 2 in
    let a : ℕ = number_below_top f 2 in
    let count : ℕ = count_at g public a in
    let small : count ≤ 16 = ranged 5 16 count (not-false (in_range 5 16 count) none.1.1.0) in
    let same : bytes_at g public (a + 1) count ≡ n = cc e in
    let short : length (bytes_at g public (a + 1) count) ≤ count = at_short g public (a + 1) count in
    subst (λ (l : List ℕ). length l ≤ 16) same (omega arith)
delegates_prim p args f public x none n e = absurd (cc e)

delegates_done : (o : Option Primitive) (args : List ℕ) (f : Frame) (public : List ℕ) (x : Around) → NoneHolds (prim_causes o args f public x) → (n : List ℕ) → (prim_done o args f public x).next ≡ Delegates n → length n ≤ 16
delegates_done None args f public x none n e = absurd (cc e)
delegates_done (Some p) args f public x none n e = delegates_prim p args f public x none.1.1 n e

-- a delegation has a name of at most 16 bytes
pub delegates_short : (i : Ins) (f : Frame) (public : List ℕ) (x : Around) → NoneHolds (causes i f public x) → (n : List ℕ) → (effect i f public x).next ≡ Delegates n → length n ≤ 16
unfolding causes effect
delegates_short (ins.Prim set number args) f public x none n e = delegates_done (primitive set number) args f public x none n e
delegates_short i f public x none n e = absurd (cc e)

most_of_64 : (o : Option Primitive) → most_of o ≤ 64
most_of_64 (Some SetProtection) = omega arith
most_of_64 o = omega arith

-- an instruction touches at most 64 words
pub most_64 : (i : Ins) → most_words i ≤ 64
most_64 (ins.Prim set number args) = most_of_64 (primitive set number)
most_64 i = omega arith

-- a row changes at most 64 words, or at most 33
most_of_is : (o : Option Primitive) → (most_of o ≡ 64) ⊎ (most_of o ≡ 33)
most_of_is (Some SetProtection) = inl refl
most_of_is o = inr refl

-- it may touch 64 or at most 33
pub most_is : (i : Ins) → (most_words i ≡ 64) ⊎ (most_words i ≡ 33)
most_is (ins.Prim set number args) = most_of_is (primitive set number)
most_is i = inr refl

-- a row changes few words, in a frame within the limits
pub few_words_law : FewWordsLaw
unfolding row
few_words_law i f public x shaped reported held = judged_few i f public x shaped reported held (first_cause (causes i f public x)) refl

-- 33 words cost at most 78 device writes, and 64 words 147; in journal 1 they cost 102 and 195
pub few_writes_law : FewWritesLaw
few_writes_law w = (λ h. record { two = omega arith; one = omega arith }, λ h. record { two = omega arith; one = omega arith })
