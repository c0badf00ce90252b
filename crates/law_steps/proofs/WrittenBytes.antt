-- The bytes that a row writes, if no cause holds: as many as were tested, at least one, and not too many.
use Rattle.std.proofs.Common.{◌≡◌, ℕ, suc, ◌+◌, ◌-◌, ◌*◌, ◌%◌, ◌<◌, ◌≤◌, ℤ, Bool, true, false, cond, not, List, [], ◌∷◌, length, map, take, drop, Option, Some, None, refl, ap, subst, ◌∙◌, arith}
use Rattle.std.specs.Prelude.{◌==◌, ◌&&◌, ◌||◌, ⊤, is_none, nat_le, slice_index}
use Rattle.std.proofs.lemmas.Bool.{and_parts, or_parts, not-false, leb-true, eqb-true}
use Rattle.std.proofs.lemmas.Bool.Decides.{nat_tests}
use Rattle.std.proofs.lemmas.List.{length-take, length-drop, length-map, length-replicate}
use Rattle.law_family.specs.model_machine.specs.declared.instruction.Ins.{Ins}
use Rattle.law_family.specs.model_machine.specs.declared.instruction.Ins.TheVariants as ins
use Rattle.law_family.specs.model_device.specs.Bytes.{bytes, bytes2, splice, zeros}
use Rattle.law_family.specs.model_device.proofs.ListLemmas.{length_bytes, splice_longer}
use Rattle.law_family.specs.model_device.specs.Pieces.{laid_pieces}
use Rattle.law_family.specs.model_machine.specs.Blocks.{each_byte}
use Rattle.law_family.specs.model_machine.specs.Modes.{ecb}
use Rattle.law_family.specs.model_machine.specs.Frame.{Frame, Place, Static, Dynamic, Public, bytes_at, bytes_in, dynamic_base, floor, frame_after_pop, is_outside, is_under, no_access, public_base, public_end, static_bytes, too_many, top, where_is}
use Rattle.law_family.specs.model_machine.specs.Primitives.{Around, Cipher, Des, TripleDes, Aes, Primitive, CopyFixed, Decipher, DelegatorAid, Digest, Encipher, MemoryCopy, Sign, block_len, cipher_causes, decipherment, encipherment, has_bad_argument, in_range, is_message, key_len, later_causes, number_below_top, prim_causes, primitive, reported_causes, signature}
use Rattle.law_family.specs.model_machine.specs.Row.{address_or_zero, causes, immediate_writes, on_stack, operand, pair_writes, place_of}
use Rattle.law_family.specs.model_machine.specs.Shapes.{Act, Shape, Writes, delegator_shape, pair_shape, prim_shape, shape}
use Rattle.law_family.specs.law_machine.proofs.RowWords.{NoneHolds}
use Rattle.law_steps.specs.Writes.{IsRoomy}
use Rattle.law_family.specs.law_machine.proofs.BlockSizes.{deciphered_length, digest_length, enciphered_length, signature_length}

-- what is known of a write of some bytes, if an access of n bytes was tested
pub record Exact (f : Frame) (a n : ℕ) (b : List ℕ) : Type 0 where
  pub size : length b ≡ n
  pub some : 0 < n
  pub room : too_many f a n ≡ false

-- what is known of what an act writes
abbrev pub IsExact : Act → Frame → Type 0
IsExact (Writes a n b) f = Exact f a n b
IsExact _ f = ⊤

-- ---- bytes that are read

laid_longer : (ps : List (ℕ × List ℕ)) (l : List ℕ) → length l ≤ length (laid_pieces l ps)
laid_longer [] l = omega arith
laid_longer (p ∷ ps) l = omega (arith, splice_longer l p.0 p.1, laid_longer ps (splice l p.0 p.1))

-- a place has n bytes
abbrev InPlace : Frame → ℕ → Option Place → Type 0
InPlace f n None = ⊤
InPlace f n (Some (Static i)) = i + n ≤ length f.fixed
InPlace f n (Some (Dynamic i)) = i + n ≤ f.dt - dynamic_base
InPlace f n (Some (Public i)) = i + n ≤ public_end - public_base

place_by : (s d p : Bool) (f : Frame) (a n : ℕ) → nat_le (a + n) (length f.fixed) ≡ s → (nat_le dynamic_base a && nat_le (a + n) f.dt) ≡ d → (nat_le public_base a && nat_le (a + n) public_end) ≡ p
    → InPlace f n (cond s (Some (Static a)) (cond d (Some (Dynamic (a - dynamic_base))) (cond p (Some (Public (a - public_base))) None)))
place_by true d p f a n st dt pt = leb-true (a + n) (length f.fixed) st
place_by false true p f a n st dt pt =
    let parts = and_parts (nat_le dynamic_base a) (nat_le (a + n) f.dt) dt in
    omega (arith, leb-true dynamic_base a parts.0, leb-true (a + n) f.dt parts.1)
place_by false false true f a n st dt pt =
    let parts = and_parts (nat_le public_base a) (nat_le (a + n) public_end) pt in
    omega (arith, leb-true public_base a parts.0, leb-true (a + n) public_end parts.1)
place_by false false false f a n st dt pt = tt

-- a segment has n bytes at the place of an access of n bytes
pub in_place : (f : Frame) (a n : ℕ) → InPlace f n (where_is f a n)
in_place f a n = place_by _ _ _ f a n refl refl refl

taken : (n i : ℕ) (l : List ℕ) → i + n ≤ length l → length (take n (drop i l)) ≡ n
taken n i l fits = omega (arith, fits, length-take n (drop i l), length-drop i l)

whole_in : (b : Bool) (f : Frame) (public : List ℕ) (n : ℕ) (place : Option Place) → (n == 0) ≡ b → IsRoomy f public → InPlace f n place → (not b && is_none place) ≡ false → length (cond b [] (bytes_in f public n place)) ≡ n
whole_in true f public n place is r fits there = let nothing : n ≡ 0 = eqb-true n 0 is in omega (arith, nothing)
whole_in false f public n None is r fits there = absurd (cc there)
whole_in false f public n (Some (Static i)) is r fits there = taken n i (static_bytes f) (omega (arith, fits, laid_longer f.pieces f.fixed))
whole_in false f public n (Some (Dynamic i)) is r fits there = let dyn = r.dyn in let high = r.high in taken n i f.dyn (omega (arith, fits, dyn, high))
whole_in false f public n (Some (Public i)) is r fits there = let all = r.whole in taken n i public (omega (arith, fits, all))

-- as many bytes are read as are asked for
pub at_whole : (f : Frame) (public : List ℕ) (a n : ℕ) → IsRoomy f public → is_outside f a n ≡ false → length (bytes_at f public a n) ≡ n
unfolding bytes_at
at_whole f public a n r there = whole_in (n == 0) f public n (where_is f a n) refl r (in_place f a n) there

operand_whole : (f : Frame) (public : List ℕ) (o : Option ℕ) (n : ℕ) → IsRoomy f public → no_access f o n ≡ false → length (bytes_at f public (address_or_zero o) n) ≡ n
operand_whole f public None n r there = absurd (cc there)
operand_whole f public (Some a) n r there = at_whole f public a n r there

-- the segments of a frame keep their room after a pop
pub popped_roomy : (f : Frame) (public : List ℕ) (k : ℕ) → IsRoomy f public → IsRoomy (frame_after_pop f k) public
popped_roomy f public k r = let high = r.high in record { fixed = r.fixed; dyn = r.dyn; high = omega (arith, high); whole = r.whole }

-- a stack that is not under a pop has its bytes above the floor
pub not_under : (f : Frame) (n : ℕ) → is_under f n ≡ false → floor f + n ≤ f.dt
not_under f n e = grind (arith, nat_tests, e)

-- on the stack there are at least n bytes
pub stack_enough : (f : Frame) (tag m n : ℕ) → n ≤ m → is_under f (on_stack tag m n) ≡ false → floor f + n ≤ f.dt
stack_enough f tag m n less e = by (tag == 0) (not_under f (on_stack tag m n) e)
  where
    by : (b : Bool) → floor f + cond b m n ≤ f.dt → floor f + n ≤ f.dt
    by true h = omega (arith, h, less)
    by false h = h

top_whole : (f : Frame) (public : List ℕ) (n : ℕ) → IsRoomy f public → floor f + n ≤ f.dt → length (top f n) ≡ n
top_whole f public n r enough =
    let dyn = r.dyn in
    let high = r.high in
    taken n (f.dt - n - dynamic_base) f.dyn (omega (arith, dyn, high, enough))

-- ---- results

-- a number that is not zero is above zero
pub not_zero : (n : ℕ) → (n == 0) ≡ false → 0 < n
not_zero n e = grind (arith, nat_tests, e)

in_some : (low high n : ℕ) → 0 < low → in_range low high n ≡ true → 0 < n
in_some low high n some e = omega (arith, some, leb-true low n (and_parts (nat_le low n) (nat_le n high) e).0)

in_range_some : (n high : ℕ) → not (in_range 1 high n) ≡ false → 0 < n
in_range_some n high e = in_some 1 high n (omega arith) (not-false (in_range 1 high n) e)

worked_whole : (a : List ℕ) (n v : ℕ) → length a ≡ n → length (bytes (length a) v) ≡ n
worked_whole a n v size = length_bytes (length a) v ∙ size

each_whole : (op : ℕ → ℕ → ℕ) (a b : List ℕ) (n : ℕ) → length a ≡ n → length b ≡ n → length (each_byte op a b) ≡ n
each_whole op [] b n one two = one
each_whole op (x ∷ a) [] n one two = absurd (omega (arith, one, two))
each_whole op (x ∷ a) (y ∷ b) n one two = ap suc (each_whole op a b (length a) refl (omega (arith, one, two))) ∙ one

map_whole : (op : ℕ → ℕ) (a : List ℕ) (n : ℕ) → length a ≡ n → length (map op a) ≡ n
map_whole op a n size = length-map a op ∙ size

zeros_whole : (n : ℕ) → length (zeros n) ≡ n
zeros_whole n = length-replicate {A = ℕ} n 0

-- ---- operands

-- a byte or a word, or n bytes, at an operand
imm_exact : (f : Frame) (tag : ℕ) (off : ℤ) (n : ℕ) (b : List ℕ) → 0 < n → NoneHolds (immediate_writes f tag off n) → length b ≡ n → Exact f (place_of f tag off n) n b
imm_exact f tag off n b some none size = record { size = size; some = some; room = none.1.1.0 }

imm_value : (f : Frame) (public : List ℕ) (tag : ℕ) (off : ℤ) (n : ℕ) → IsRoomy f public → NoneHolds (immediate_writes f tag off n) → length (bytes_at f public (place_of f tag off n) n) ≡ n
imm_value f public tag off n r none = operand_whole f public (operand f tag off n) n r none.1.0

pair_exact : (f : Frame) (tag : ℕ) (off : ℤ) (n : ℕ) (b : List ℕ) → 0 < n → NoneHolds (pair_writes f tag off n) → length b ≡ n → Exact f (place_of f tag off (2 * n)) n b
pair_exact f tag off n b some none size = record { size = size; some = some; room = none.1.1.0 }

pair_value : (f : Frame) (public : List ℕ) (tag : ℕ) (off : ℤ) (n : ℕ) → IsRoomy f public → NoneHolds (pair_writes f tag off n) → length (bytes_at f public (place_of f tag off (2 * n)) n) ≡ n
pair_value f public tag off n r none = operand_whole f public (operand f tag off (2 * n)) n r none.1.0

pair_top : (f : Frame) (public : List ℕ) (tag : ℕ) (off : ℤ) (n : ℕ) → IsRoomy f public → NoneHolds (pair_writes f tag off n) → length (top f n) ≡ n
pair_top f public tag off n r none = top_whole f public n r (stack_enough f tag (2 * n) n (omega arith) none.0)

-- ---- primitives

-- what is known of what a shape writes
abbrev IsExactShape : Frame → Shape → Type 0
IsExactShape f s = IsExact s.act (record f { dt = s.dt })

delegator_exact : (f : Frame) (o : Option (List ℕ)) → NoneHolds (reported_causes (frame_after_pop f 2) (number_below_top f 2) o) → IsExactShape f (delegator_shape f o)
delegator_exact f None none = tt
delegator_exact f (Some name) none = record { size = omega arith; some = omega arith; room = none.1.0 }

whole_message : (c : Cipher) (n : ℕ) → not (is_message c n) ≡ false → (block_len c ≤ n) × (n % block_len c ≡ 0)
whole_message c n e =
    let parts = and_parts (nat_le (block_len c) n) (n % block_len c == 0) (not-false (is_message c n) e) in
    (leb-true (block_len c) n parts.0, eqb-true (n % block_len c) 0 parts.1)

some_block : (c : Cipher) → 0 < block_len c
some_block Des = omega arith
some_block TripleDes = omega arith
some_block Aes = omega arith

message_there : (c : Cipher) (n : ℕ) (f : Frame) → NoneHolds (cipher_causes c n f) → is_outside (frame_after_pop f 6) (number_below_top f 6) n ≡ false
message_there c n f none =
    let g = frame_after_pop f 6 in
    let front = or_parts (is_outside g (number_below_top f 6) n || is_outside g (number_below_top f 4) n) (is_outside g (number_below_top f 2) (key_len c)) none.1.0 in
    (or_parts (is_outside g (number_below_top f 6) n) (is_outside g (number_below_top f 4) n) front.0).0

encipher_exact : (c : Cipher) (n : ℕ) (f : Frame) (public key : List ℕ) → IsRoomy f public → not (is_message c n) ≡ false → NoneHolds (cipher_causes c n f)
    → (let g = frame_after_pop f 6 in Exact g (number_below_top f 4) n (ecb (encipherment c key) (block_len c) (bytes_at g public (number_below_top f 6) n)))
encipher_exact c n f public key r message none =
    let g = frame_after_pop f 6 in
    let whole = whole_message c n message in
    let least = whole.0 in
    let size : length (bytes_at g public (number_below_top f 6) n) ≡ n = at_whole g public (number_below_top f 6) n (popped_roomy f public 6 r) (message_there c n f none) in
    record { size = enciphered_length c key (bytes_at g public (number_below_top f 6) n) n size whole.1; some = omega (arith, least, some_block c); room = none.1.1.0 }

decipher_exact : (c : Cipher) (n : ℕ) (f : Frame) (public key : List ℕ) → IsRoomy f public → not (is_message c n) ≡ false → NoneHolds (cipher_causes c n f)
    → (let g = frame_after_pop f 6 in Exact g (number_below_top f 4) n (ecb (decipherment c key) (block_len c) (bytes_at g public (number_below_top f 6) n)))
decipher_exact c n f public key r message none =
    let g = frame_after_pop f 6 in
    let whole = whole_message c n message in
    let least = whole.0 in
    let size : length (bytes_at g public (number_below_top f 6) n) ≡ n = at_whole g public (number_below_top f 6) n (popped_roomy f public 6 r) (message_there c n f none) in
    record { size = deciphered_length c key (bytes_at g public (number_below_top f 6) n) n size whole.1; some = omega (arith, least, some_block c); room = none.1.1.0 }

sign_exact : (c : Cipher) (args : List ℕ) (f : Frame) (public key message : List ℕ) (x : Around) → IsRoomy f public → NoneHolds (later_causes (Sign c) args f public x)
    → (let g = frame_after_pop f 8 in Exact g (number_below_top f 4) (block_len c) (signature c key (bytes_at g public (number_below_top f 8) (block_len c)) message))
unfolding later_causes
sign_exact c args f public key message x r none =
    let g = frame_after_pop f 8 in
    let n : ℕ = slice_index args 0 in
    let m : ℕ = block_len c in
    let last = or_parts (is_outside g (number_below_top f 8) m || is_outside g (number_below_top f 6) n || is_outside g (number_below_top f 4) m) (is_outside g (number_below_top f 2) (key_len c)) none.1.0 in
    let middle = or_parts (is_outside g (number_below_top f 8) m || is_outside g (number_below_top f 6) n) (is_outside g (number_below_top f 4) m) last.0 in
    let first = or_parts (is_outside g (number_below_top f 8) m) (is_outside g (number_below_top f 6) n) middle.0 in
    let size : length (bytes_at g public (number_below_top f 8) m) ≡ m = at_whole g public (number_below_top f 8) m (popped_roomy f public 8 r) first.0 in
    record { size = signature_length c key (bytes_at g public (number_below_top f 8) m) message size; some = some_block c; room = none.1.1.0 }

copy_exact : (args : List ℕ) (f : Frame) (public : List ℕ) (x : Around) → IsRoomy f public → NoneHolds (later_causes MemoryCopy args f public x)
    → (let g = frame_after_pop f 6 in let n = number_below_top f 6 in Exact g (number_below_top f 4) n (bytes_at g public (number_below_top f 2) n))
unfolding later_causes
copy_exact args f public x r none =
    let g = frame_after_pop f 6 in
    let n : ℕ = number_below_top f 6 in
    let range : in_range 1 255 n ≡ true = not-false (in_range 1 255 n) none.1.1.0 in
    let outside : (is_outside g (number_below_top f 4) n || is_outside g (number_below_top f 2) n) ≡ false = subst (λ (b : Bool). (b && (is_outside g (number_below_top f 4) n || is_outside g (number_below_top f 2) n)) ≡ false) range none.1.0 in
    record {
      size = at_whole g public (number_below_top f 2) n (popped_roomy f public 6 r) (or_parts (is_outside g (number_below_top f 4) n) (is_outside g (number_below_top f 2) n) outside).1;
      some = in_some 1 255 n (omega arith) range;
      room = none.1.1.1.0;
    }

fixed_exact : (args : List ℕ) (f : Frame) (public : List ℕ) (x : Around) → IsRoomy f public → (slice_index args 0 == 0) ≡ false → NoneHolds (later_causes CopyFixed args f public x)
    → (let g = frame_after_pop f 4 in let n = slice_index args 0 in Exact g (number_below_top f 4) n (bytes_at g public (number_below_top f 2) n))
unfolding later_causes
fixed_exact args f public x r bad none =
    let g = frame_after_pop f 4 in
    let n : ℕ = slice_index args 0 in
    record {
      size = at_whole g public (number_below_top f 2) n (popped_roomy f public 4 r) (or_parts (is_outside g (number_below_top f 4) n) (is_outside g (number_below_top f 2) n) none.1.0).1;
      some = not_zero n bad;
      room = none.1.1.0;
    }

prim_exact : (p : Primitive) (args : List ℕ) (f : Frame) (public : List ℕ) (x : Around) → IsRoomy f public → has_bad_argument p args ≡ false → NoneHolds (later_causes p args f public x) → IsExactShape f (prim_shape p args f public x)
unfolding prim_shape later_causes
prim_exact MemoryCopy args f public x r bad none = copy_exact args f public x r none
prim_exact DelegatorAid args f public x r bad none = delegator_exact f x.delegator none.1
prim_exact Digest args f public x r bad none = record { size = digest_length (bytes_at (frame_after_pop f 6) public (number_below_top f 4) (number_below_top f 6)); some = omega arith; room = none.1.1.1.0 }
prim_exact CopyFixed args f public x r bad none = fixed_exact args f public x r bad none
prim_exact (Encipher c) args f public x r bad none = encipher_exact c (slice_index args 0) f public _ r bad none
prim_exact (Decipher c) args f public x r bad none = decipher_exact c (slice_index args 0) f public _ r bad none
prim_exact (Sign c) args f public x r bad none = sign_exact c args f public _ _ x r none
prim_exact _ args f public x r bad none = tt

pair_of_exact : (o : Option Primitive) (args : List ℕ) (f : Frame) (public : List ℕ) (x : Around) → IsRoomy f public → NoneHolds (prim_causes o args f public x) → IsExactShape f (pair_shape o args f public x)
pair_of_exact None args f public x r none = tt
pair_of_exact (Some p) args f public x r none = prim_exact p args f public x r none.0 none.1.1

-- ---- rows

-- what each row writes, if no cause holds
pub shape_exact : (i : Ins) (f : Frame) (public : List ℕ) (x : Around) → IsRoomy f public → NoneHolds (causes i f public x) → IsExactShape f (shape i f public x)
unfolding shape causes
shape_exact (ins.Prim set number args) f public x r none = pair_of_exact (primitive set number) args f public x r none
shape_exact (ins.Store tag off n) f public x r none = record { size = top_whole f public n r (stack_enough f tag (2 * n) n (omega arith) none.1.0); some = not_zero n none.0; room = none.1.1.1.0 }
shape_exact (ins.Storei tag off n) f public x r none = record { size = top_whole f public n r (stack_enough f tag (n + 2) n (omega arith) none.1.0); some = not_zero n none.0; room = none.1.1.1.0 }
shape_exact (ins.Setb tag off b) f public x r none = imm_exact f tag off 1 _ (omega arith) none refl
shape_exact (ins.Addb tag off b) f public x r none = imm_exact f tag off 1 _ (omega arith) none (worked_whole _ 1 _ (imm_value f public tag off 1 r none))
shape_exact (ins.Subb tag off b) f public x r none = imm_exact f tag off 1 _ (omega arith) none (worked_whole _ 1 _ (imm_value f public tag off 1 r none))
shape_exact (ins.Setw tag off w) f public x r none = imm_exact f tag off 2 (bytes2 w) (omega arith) none refl
shape_exact (ins.Addw tag off w) f public x r none = imm_exact f tag off 2 _ (omega arith) none (worked_whole _ 2 _ (imm_value f public tag off 2 r none))
shape_exact (ins.Subw tag off w) f public x r none = imm_exact f tag off 2 _ (omega arith) none (worked_whole _ 2 _ (imm_value f public tag off 2 r none))
shape_exact (ins.Clearn tag off n) f public x r none = imm_exact f tag off n _ (not_zero n none.0) none.1 (zeros_whole n)
shape_exact (ins.Incn tag off n) f public x r none = imm_exact f tag off n _ (in_range_some n 16 none.0) none.1 (worked_whole _ n _ (imm_value f public tag off n r none.1))
shape_exact (ins.Decn tag off n) f public x r none = imm_exact f tag off n _ (in_range_some n 16 none.0) none.1 (worked_whole _ n _ (imm_value f public tag off n r none.1))
shape_exact (ins.Notn tag off n) f public x r none = imm_exact f tag off n _ (not_zero n none.0) none.1 (map_whole _ _ n (imm_value f public tag off n r none.1))
shape_exact (ins.Addn tag off n) f public x r none = pair_exact f tag off n _ (in_range_some n 16 none.0) none.1 (worked_whole _ n _ (pair_value f public tag off n r none.1))
shape_exact (ins.Subn tag off n) f public x r none = pair_exact f tag off n _ (in_range_some n 16 none.0) none.1 (worked_whole _ n _ (pair_value f public tag off n r none.1))
shape_exact (ins.Andn tag off n) f public x r none = pair_exact f tag off n _ (not_zero n none.0) none.1 (each_whole _ _ (top f n) n (pair_value f public tag off n r none.1) (pair_top f public tag off n r none.1))
shape_exact (ins.Orn tag off n) f public x r none = pair_exact f tag off n _ (not_zero n none.0) none.1 (each_whole _ _ (top f n) n (pair_value f public tag off n r none.1) (pair_top f public tag off n r none.1))
shape_exact (ins.Xorn tag off n) f public x r none = pair_exact f tag off n _ (not_zero n none.0) none.1 (each_whole _ _ (top f n) n (pair_value f public tag off n r none.1) (pair_top f public tag off n r none.1))
shape_exact _ f public x r none = tt
