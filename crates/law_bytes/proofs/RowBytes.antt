-- Each act of bytes keeps bytes, and each row is such an act.
use Rattle.std.proofs.Common.{ℕ, ◌+◌, ◌-◌, ◌*◌, ◌<◌, ◌≤◌, Bool, cond, List, [], ◌∷◌, length, take, drop, Option, Some, None, refl, sym, subst, arith}
use Rattle.std.specs.Prelude.{⊤, ◌==◌, slice_index}
use Rattle.law_family.specs.model_device.specs.Bytes.{AreBytes, bytes2, num, splice}
use Rattle.law_family.specs.model_device.proofs.ImageLemmas.{all_append}
use Rattle.law_family.specs.model_device.proofs.ListLemmas.{pair_bytes, bytes_from}
use Rattle.law_family.specs.model_machine.specs.declared.instruction.Ins.{Ins}
use Rattle.law_family.specs.model_machine.specs.declared.instruction.Ins.TheVariants as ins
use Rattle.law_family.specs.model_machine.specs.Code.{Shaped}
use Rattle.law_family.specs.model_machine.specs.Frame.{Frame, Effect, Place, where_is, dynamic_base, bytes_at, static_written, write_effect_at, write_effect, frame_after_pop, stack_bytes, top, protect, pending_change}
use Rattle.law_family.specs.model_machine.specs.Primitives.{Around, Done, frame_effect, Primitive, LoadCcr, Lookup, MemoryCopy, DelegatorAid, Digest, CopyFixed, Encipher, Decipher, Sign, BitByte, ShiftLeft, ShiftRight, BitWord, primitive, block_len, key_len, encipherment, decipherment, number_below_top, count_at, masked_bytes}
use Rattle.law_family.specs.model_machine.specs.Row.{causes, effect, first_cause, row, place_of, value_of, first_of, address_or_zero, indexed_address}
use Rattle.law_family.specs.model_machine.specs.Shapes.{Act, Pushes, Replaces, Writes, with_status, with_length, act_effect, with_flags, Shape, meaning, delegator_shape, prim_shape, pair_shape, shape}
use Rattle.law_family.specs.law_rows.proofs.RowShapes.{shapes}
use Rattle.law_family.specs.law_rows.proofs.Keeping.{on_done}
use Rattle.law_bytes.specs.OfBytes.{ArePieces, IsChange, IsByteFrame, IsByteEffect, IsCaller, RowBytesLaw}
use Rattle.law_bytes.proofs.ByteLists.{taken, joined, spliced, laid, zero_bytes, number_bytes, anded, xored, ored, inverted, in_cond, read_bytes, short_read, small_number, found_low}
use Rattle.law_bytes.proofs.CipherBytes.{message_bytes, enciphered, deciphered, signed, digested}

-- ---- frames

-- a frame of bytes stays so after a pop
pub popped : (f : Frame) (n : ℕ) → IsByteFrame f → IsByteFrame (frame_after_pop f n)
popped f n h = record { static = h.static; pieces = h.pieces; stack = h.stack }

-- a frame with bytes written to its stack
stacked : (f : Frame) (at : ℕ) (b : List ℕ) → IsByteFrame f → AreBytes b → IsByteFrame (record f { dyn = splice f.dyn at b })
stacked f at b h k = record { static = h.static; pieces = h.pieces; stack = spliced f.dyn at b h.stack k }

topped : (f : Frame) (k n : ℕ) → IsByteFrame f → AreBytes (stack_bytes f k n)
topped f k n h = taken n (drop (f.dt - k - dynamic_base) f.dyn) (bytes_from f.dyn (f.dt - k - dynamic_base) h.stack)

-- ---- acts

-- an act that carries bytes alone
abbrev pub IsByteAct : Act → Type 0
IsByteAct (Pushes b) = AreBytes b
IsByteAct (Replaces b) = AreBytes b
IsByteAct (Writes a n b) = AreBytes b
IsByteAct act = ⊤

-- an effect without a change
quiet : (f : Frame) (public : List ℕ) → IsByteFrame f → AreBytes public → IsByteEffect (frame_effect f public)
quiet f public h p = record { frame = h; public = p; change = tt }

status_bytes : (sw : Option ℕ) (public : List ℕ) → AreBytes public → AreBytes (with_status sw public)
status_bytes None public p = p
status_bytes (Some sw) public p = spliced public 1039 (bytes2 sw) p (pair_bytes sw)

reply_bytes : (la : Option ℕ) (public : List ℕ) → AreBytes public → AreBytes (with_length la public)
reply_bytes None public p = p
reply_bytes (Some la) public p = spliced public 1037 (bytes2 la) p (pair_bytes la)

static_bytes_written : (on : Bool) (f : Frame) (public : List ℕ) (i : ℕ) (b : List ℕ) → IsByteFrame f → AreBytes public → AreBytes b → IsByteEffect (static_written on f public i b)
static_bytes_written on f public i b h p k = grind (arith, spliced, all_append)

written_at : (f : Frame) (public b : List ℕ) (o : Option Place) → IsByteFrame f → AreBytes public → AreBytes b → IsByteEffect (write_effect_at f public b o)
written_at f public b o h p k = grind (arith, static_bytes_written, stacked, spliced)

written : (f : Frame) (public : List ℕ) (a : ℕ) (b : List ℕ) → IsByteFrame f → AreBytes public → AreBytes b → IsByteEffect (write_effect f public a b)
unfolding write_effect
written f public a b h p k = written_at f public b (where_is f a (length b)) h p k

committed : (f : Frame) (ps : List (ℕ × List ℕ)) → ArePieces ps → IsChange (pending_change f ps)
committed f [] h = tt
committed f (p ∷ ps) h = h

protected_bytes : (f : Frame) (public : List ℕ) (mode : ℕ) → IsByteFrame f → AreBytes public → IsByteEffect (protect f public mode)
protected_bytes f public mode h p = grind (arith, laid, committed)

act_bytes : (act : Act) (f : Frame) (public : List ℕ) → IsByteAct act → IsByteFrame f → AreBytes public → IsByteEffect (act_effect act f public)
act_bytes act f public k h p = grind (arith, quiet, reply_bytes, status_bytes, spliced, joined, pair_bytes, topped, written, protected_bytes)

-- ---- primitives

flags_low : (c z : Bool) → cond c 2 0 + cond z 1 0 < 256
flags_low c z = grind arith

masked : (op : ℕ) (v mask : List ℕ) → AreBytes v → AreBytes mask → AreBytes (masked_bytes op v mask)
masked op v mask h k = grind (arith, in_cond, anded, ored, xored)

called : (f : Frame) (o : Option (List ℕ)) → IsCaller o → IsByteAct (delegator_shape f o).act
called f None h = tt
called f (Some name) h = (h.1, h.0)

module _ (args : List ℕ) (f : Frame) (public : List ℕ) (x : Around) (given : AreBytes args) (h : IsByteFrame f) (p : AreBytes public) (c : IsCaller x.delegator) where
  -- bytes below those that are popped
  below_pop : (k a n : ℕ) → AreBytes (bytes_at (frame_after_pop f k) public a n)
  below_pop k a n = read_bytes (frame_after_pop f k) public a n (popped f k h) p

  looked : IsByteAct (prim_shape Lookup args f public x).act
  unfolding prim_shape
  looked =
      let g = frame_after_pop f 3 in
      let a = number_below_top f 2 in
      let many : length (bytes_at g public (a + 1) (count_at g public a)) ≤ count_at g public a = short_read g public (a + 1) (count_at g public a) in
      let few : count_at g public a < 256 = small_number (bytes_at g public a 1) (short_read g public a 1) (below_pop 3 a 1) in
      (found_low (λ b. b == num (stack_bytes f 3 1)) (bytes_at g public (a + 1) (count_at g public a)) _ refl (omega (arith, many, few)), tt)

  prim_bytes : (q : Primitive) → IsByteAct (prim_shape q args f public x).act
  unfolding prim_shape
  prim_bytes LoadCcr = (flags_low f.c f.z, tt)
  prim_bytes Lookup = looked
  prim_bytes MemoryCopy = below_pop 6 (number_below_top f 2) (number_below_top f 6)
  prim_bytes DelegatorAid = called f x.delegator c
  prim_bytes Digest = digested (bytes_at (frame_after_pop f 6) public (number_below_top f 4) (number_below_top f 6))
  prim_bytes CopyFixed = below_pop 4 (number_below_top f 2) (slice_index args 0)
  prim_bytes (Encipher k) =
      let key = bytes_at (frame_after_pop f 6) public (number_below_top f 2) (key_len k) in
      message_bytes (encipherment k key) (λ b l. enciphered k key b (below_pop 6 (number_below_top f 2) (key_len k)) l) (block_len k)
      (bytes_at (frame_after_pop f 6) public (number_below_top f 6) (slice_index args 0)) (below_pop 6 (number_below_top f 6) (slice_index args 0))
  prim_bytes (Decipher k) =
      let key = bytes_at (frame_after_pop f 6) public (number_below_top f 2) (key_len k) in
      message_bytes (decipherment k key) (λ b l. deciphered k key b (below_pop 6 (number_below_top f 2) (key_len k)) l) (block_len k)
      (bytes_at (frame_after_pop f 6) public (number_below_top f 6) (slice_index args 0)) (below_pop 6 (number_below_top f 6) (slice_index args 0))
  prim_bytes (Sign k) =
      signed k (bytes_at (frame_after_pop f 8) public (number_below_top f 2) (key_len k)) (bytes_at (frame_after_pop f 8) public (number_below_top f 8) (block_len k))
      (bytes_at (frame_after_pop f 8) public (number_below_top f 6) (slice_index args 0))
      (below_pop 8 (number_below_top f 2) (key_len k)) (below_pop 8 (number_below_top f 8) (block_len k)) (below_pop 8 (number_below_top f 6) (slice_index args 0))
  prim_bytes BitByte = masked (slice_index args 0) (top f 1) (take 1 (drop 1 args)) (topped f 1 1 h) (taken 1 (drop 1 args) (bytes_from args 1 given))
  prim_bytes ShiftLeft = number_bytes _ _
  prim_bytes ShiftRight = number_bytes _ _
  prim_bytes BitWord = masked (slice_index args 0) (top f 2) (take 2 (drop 1 args)) (topped f 2 2 h) (taken 2 (drop 1 args) (bytes_from args 1 given))
  prim_bytes _ = tt

  pair_is : (o : Option Primitive) → IsByteAct (pair_shape o args f public x).act
  pair_is None = tt
  pair_is (Some q) = prim_bytes q

-- ---- rows

module _ (f : Frame) (public : List ℕ) (x : Around) (h : IsByteFrame f) (p : AreBytes public) (c : IsCaller x.delegator) where
  read : (a n : ℕ) → AreBytes (bytes_at f public a n)
  read a n = read_bytes f public a n h p

  shape_bytes : (i : Ins) → Shaped i → IsByteAct (shape i f public x).act
  unfolding shape
  shape_bytes (ins.Pushz n) s = zero_bytes n
  shape_bytes (ins.Pushb b) s = (s, tt)
  shape_bytes (ins.Pushw w) s = pair_bytes w
  shape_bytes (ins.Prim set number args) s = pair_is args f public x s.bytes h p c (primitive set number)
  shape_bytes (ins.Load tag off n) s = read (place_of f tag off n) n
  shape_bytes (ins.Store tag off n) s = topped f n n h
  shape_bytes (ins.Loadi tag off n) s = read _ n
  shape_bytes (ins.Storei tag off n) s = topped f n n h
  shape_bytes (ins.Loada tag off) s = pair_bytes (place_of f tag off 0)
  shape_bytes (ins.Index tag off size) s = pair_bytes (address_or_zero (indexed_address f tag off size))
  shape_bytes (ins.Setb tag off b) s = (s.1, tt)
  shape_bytes (ins.Addb tag off b) s = number_bytes _ _
  shape_bytes (ins.Subb tag off b) s = number_bytes _ _
  shape_bytes (ins.Setw tag off w) s = pair_bytes w
  shape_bytes (ins.Addw tag off w) s = number_bytes _ _
  shape_bytes (ins.Subw tag off w) s = number_bytes _ _
  shape_bytes (ins.Clearn tag off n) s = zero_bytes n
  shape_bytes (ins.Incn tag off n) s = number_bytes _ _
  shape_bytes (ins.Decn tag off n) s = number_bytes _ _
  shape_bytes (ins.Notn tag off n) s = inverted (value_of f public tag off n)
  shape_bytes (ins.Addn tag off n) s = number_bytes _ _
  shape_bytes (ins.Subn tag off n) s = number_bytes _ _
  shape_bytes (ins.Andn tag off n) s = anded (first_of f public tag off n) (top f n) (read (place_of f tag off (2 * n)) n)
  shape_bytes (ins.Orn tag off n) s = ored (first_of f public tag off n) (top f n) (read (place_of f tag off (2 * n)) n) (topped f n n h)
  shape_bytes (ins.Xorn tag off n) s = xored (first_of f public tag off n) (top f n) (read (place_of f tag off (2 * n)) n) (topped f n n h)
  shape_bytes _ s = tt

flags_kept : (o : Option (Bool × Bool)) (e : Effect) → IsByteEffect e → IsByteEffect (with_flags o e)
flags_kept None e k = k
flags_kept (Some cz) e k = record { frame = record { static = k.frame.static; pieces = k.frame.pieces; stack = k.frame.stack }; public = k.public; change = k.change }

meant : (s : Shape) (f : Frame) (public : List ℕ) → IsByteAct s.act → IsByteFrame f → AreBytes public → IsByteEffect (meaning s f public).effect
meant s f public k h p =
    flags_kept s.flags (act_effect s.act (record f { dt = s.dt }) public) (act_bytes s.act (record f { dt = s.dt }) public k (record { static = h.static; pieces = h.pieces; stack = h.stack }) p)

-- what an instruction does leaves bytes
pub effect_bytes : (i : Ins) (f : Frame) (public : List ℕ) (x : Around) → Shaped i → IsByteFrame f → AreBytes public → IsCaller x.delegator → IsByteEffect (effect i f public x).effect
effect_bytes i f public x s h p c =
    subst (λ (d : Done). IsByteEffect d.effect) (sym (shapes i f public x)) (meant (shape i f public x) f public (shape_bytes f public x h p c i s) h p)

-- each row of an instruction in its ranges keeps a frame of bytes
pub row_bytes : RowBytesLaw
unfolding row
row_bytes i f public x s h p c = on_done (λ d. IsByteEffect d.effect) (first_cause (causes i f public x)) (effect i f public x) (effect_bytes i f public x s h p c)
