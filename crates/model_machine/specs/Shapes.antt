-- The shape of each row: how much of the stack it leaves, what it then does to the frame and the public segment, the
-- flags that it sets, and what comes next. There are nine acts; what an instruction does is the meaning of its shape,
-- so a law of all rows is proved act by act.
use Rattle.std.specs.Prelude.{ℕ, ◌+◌, ◌-◌, ◌*◌, Bool, true, false, cond, ◌==◌, List, [], ◌∷◌, length, take, drop, slice_index, position, unwrap_or, is_some, Option, Some, None}
use Rattle.sha1.specs.Sha1.{sha1}
use Rattle.model_machine.specs.declared.instruction.Ins.{Ins}
use Rattle.model_machine.specs.declared.instruction.Ins.TheVariants as ins
use Rattle.model_machine.specs.model_device.specs.Bytes.{num, bytes2, zeros}
use Rattle.model_machine.specs.Blocks.{Worked, add_blocks, sub_blocks, inc_block, dec_block, shift_left_block, shift_right_block, and_blocks, or_blocks, xor_blocks, not_block, is_zero}
use Rattle.model_machine.specs.Modes.{ecb}
use Rattle.model_machine.specs.Frame.{Frame, Effect, moved_address, bytes_at, address_at, write_effect, frame_after_push, frame_after_pop, stack_bytes, top, frame_with_top, come_back, protect, with_sw, with_la}
use Rattle.model_machine.specs.Primitives.{Around, Then, Goes, Exits, Delegates, Done, frame_effect, effect_flagged, Cipher, Primitive, CheckCase, LoadCcr, StoreCcr, Lookup, MemoryCompare, MemoryCopy, DelegateTo, DelegatorAid, Digest, CompareFixed, CopyFixed, SetProtection, Encipher, Decipher, Sign, BitByte, ShiftLeft, ShiftRight, BitWord, primitive, block_len, key_len, encipherment, decipherment, signature, has_bit, number_below_top, count_at, masked_bytes}
use Rattle.model_machine.specs.Row.{effect, holds, address_or_zero, on_stack, indexed_address, frame_after_jump, frame_after_call, target, place_of, value_of, first_of}

-- ---- acts

-- What a row does to a frame: nothing more; status and length of the reply are set, where given; a jump or a call if
-- its condition holds; a return; bytes are pushed, or take the place of the top; bytes are written at an address where
-- an access of n bytes was tested; the protection changes.
pub data Act : Type 0 where
  Stays : Act
  Answers : (sw : Option ℕ) → (la : Option ℕ) → Act
  Jumps : (taken : Bool) → (to : ℕ) → Act
  Calls : (taken : Bool) → (to : ℕ) → Act
  Returns : (less : ℕ) → (more : ℕ) → Act
  Pushes : (b : List ℕ) → Act
  Replaces : (b : List ℕ) → Act
  Writes : (a : ℕ) → (n : ℕ) → (b : List ℕ) → Act
  Protects : (mode : ℕ) → Act

-- the shape of a row: DT before its act, the act, the flags C and Z if it sets them, and what comes next
pub record Shape : Type 0 where
  pub dt : ℕ
  pub act : Act
  pub flags : Option (Bool × Bool)
  pub next : Then

-- the public segment with a status, if there is one
abbrev pub with_status : Option ℕ → List ℕ → List ℕ
with_status None public = public
with_status (Some sw) public = with_sw public sw

-- the public segment with a length of the reply, if there is one
abbrev pub with_length : Option ℕ → List ℕ → List ℕ
with_length None public = public
with_length (Some la) public = with_la public la

-- the effect of an act
abbrev pub act_effect : Act → Frame → List ℕ → Effect
act_effect Stays f public = frame_effect f public
act_effect (Answers sw la) f public = frame_effect f (with_length la (with_status sw public))
act_effect (Jumps taken to) f public = frame_effect (frame_after_jump taken f to) public
act_effect (Calls taken to) f public = frame_effect (frame_after_call taken f to) public
act_effect (Returns less more) f public = frame_effect (come_back f less more) public
act_effect (Pushes b) f public = frame_effect (frame_after_push f b) public
act_effect (Replaces b) f public = frame_effect (frame_with_top f b) public
act_effect (Writes a n b) f public = write_effect f public a b
act_effect (Protects mode) f public = protect f public mode

-- an effect that sets flags besides, if there are some
abbrev pub with_flags : Option (Bool × Bool) → Effect → Effect
with_flags None e = e
with_flags (Some cz) e = effect_flagged e cz.0 cz.1

-- the effect of a shape
abbrev pub shape_effect : Shape → Frame → List ℕ → Effect
shape_effect s f public = with_flags s.flags (act_effect s.act (record f { dt = s.dt }) public)

-- what a shape means
abbrev pub meaning : Shape → Frame → List ℕ → Done
meaning s f public = record { effect = shape_effect s f public; next = s.next }

-- ---- shapes by kind

-- an act, after which the frame goes on
abbrev pub goes : ℕ → Act → Shape
goes dt act = record { dt = dt; act = act; flags = None; next = Goes }

-- an act that sets flags
abbrev pub flagged : ℕ → Act → Bool → Bool → Shape
flagged dt act c z = record { dt = dt; act = act; flags = Some (c, z); next = Goes }

-- an exit
abbrev pub exits : Frame → Option ℕ → Option ℕ → Shape
exits f sw la = record { dt = f.dt; act = Answers sw la; flags = None; next = Exits }

-- a result that sets both flags, written where n bytes were tested
abbrev pub result : Frame → ℕ → ℕ → Worked → Shape
result f a n w = flagged f.dt (Writes a n w.value) w.c w.z

-- a result that sets Z alone, written where n bytes were tested
abbrev pub bits : Frame → ℕ → ℕ → List ℕ → Shape
bits f a n b = flagged f.dt (Writes a n b) f.c (is_zero b)

-- the flags of a subtraction, with these bytes of the stack left
abbrev pub compared : ℕ → Worked → Shape
compared dt w = flagged dt Stays w.c w.z

-- ---- primitives

-- the delegator's name written after its length, or nothing
abbrev pub delegator_shape : Frame → Option (List ℕ) → Shape
delegator_shape f None = flagged (f.dt - 2) Stays f.c true
delegator_shape f (Some name) = flagged (f.dt - 2) (Writes (number_below_top f 2) (1 + length name) (length name ∷ name)) f.c false

-- a cipher over a message of n bytes
abbrev pub cipher_shape : (List ℕ → List ℕ → List ℕ) → Cipher → ℕ → Frame → List ℕ → Shape
cipher_shape cipher c n f public =
    let g = frame_after_pop f 6 in
    let key = bytes_at g public (number_below_top f 2) (key_len c) in
    goes (f.dt - 6) (Writes (number_below_top f 4) n (ecb (cipher key) (block_len c) (bytes_at g public (number_below_top f 6) n)))

-- the top bytes manipulated under a mask
abbrev pub mask_shape : Frame → ℕ → List ℕ → List ℕ → Shape
mask_shape f op v mask = flagged f.dt (Replaces (masked_bytes op v mask)) f.c (is_zero (cond (op == 3) (and_blocks v mask) (masked_bytes op v mask)))

-- the shape of each primitive
unfoldable pub prim_shape : Primitive → List ℕ → Frame → List ℕ → Around → Shape
prim_shape CheckCase args f public x = flagged (f.dt - 1) Stays f.c (num (top f 1) == x.case)
prim_shape LoadCcr args f public x = goes f.dt (Pushes ((cond f.c 2 0 + cond f.z 1 0) ∷ []))
prim_shape StoreCcr args f public x = flagged (f.dt - 1) Stays (has_bit (num (top f 1)) 2) (has_bit (num (top f 1)) 1)
prim_shape Lookup args f public x =
    let g = frame_after_pop f 3 in
    let a = number_below_top f 2 in
    let found = position (λ b. b == num (stack_bytes f 3 1)) (bytes_at g public (a + 1) (count_at g public a)) in
    flagged (f.dt - 3) (Pushes (unwrap_or found 0 ∷ [])) f.c (is_some found)
prim_shape MemoryCompare args f public x =
    let g = frame_after_pop f 6 in
    let n = number_below_top f 6 in
    compared (f.dt - 6) (sub_blocks (bytes_at g public (number_below_top f 4) n) (bytes_at g public (number_below_top f 2) n))
prim_shape MemoryCopy args f public x =
    let n = number_below_top f 6 in
    goes (f.dt - 6) (Writes (number_below_top f 4) n (bytes_at (frame_after_pop f 6) public (number_below_top f 2) n))
prim_shape DelegateTo args f public x =
    let g = frame_after_pop f 2 in
    let a = number_below_top f 2 in
    record { dt = f.dt - 2; act = Stays; flags = None; next = Delegates (bytes_at g public (a + 1) (count_at g public a)) }
prim_shape DelegatorAid args f public x = delegator_shape f x.delegator
prim_shape Digest args f public x =
    goes (f.dt - 6) (Writes (number_below_top f 2) 20 (sha1 (bytes_at (frame_after_pop f 6) public (number_below_top f 4) (number_below_top f 6))))
prim_shape CompareFixed args f public x =
    let g = frame_after_pop f 4 in
    let n = slice_index args 0 in
    compared (f.dt - 4) (sub_blocks (bytes_at g public (number_below_top f 4) n) (bytes_at g public (number_below_top f 2) n))
prim_shape CopyFixed args f public x =
    let n = slice_index args 0 in
    goes (f.dt - 4) (Writes (number_below_top f 4) n (bytes_at (frame_after_pop f 4) public (number_below_top f 2) n))
prim_shape SetProtection args f public x = goes f.dt (Protects (slice_index args 0))
prim_shape (Encipher c) args f public x = cipher_shape (encipherment c) c (slice_index args 0) f public
prim_shape (Decipher c) args f public x = cipher_shape (decipherment c) c (slice_index args 0) f public
prim_shape (Sign c) args f public x =
    let g = frame_after_pop f 8 in
    let key = bytes_at g public (number_below_top f 2) (key_len c) in
    let start = bytes_at g public (number_below_top f 8) (block_len c) in
    goes (f.dt - 8) (Writes (number_below_top f 4) (block_len c) (signature c key start (bytes_at g public (number_below_top f 6) (slice_index args 0))))
prim_shape BitByte args f public x = mask_shape f (slice_index args 0) (top f 1) (take 1 (drop 1 args))
prim_shape ShiftLeft args f public x =
    let w = shift_left_block (top f (slice_index args 0)) (slice_index args 1) in
    flagged f.dt (Replaces w.value) w.c w.z
prim_shape ShiftRight args f public x =
    let w = shift_right_block (top f (slice_index args 0)) (slice_index args 1) in
    flagged f.dt (Replaces w.value) w.c w.z
prim_shape BitWord args f public x = mask_shape f (slice_index args 0) (top f 2) (take 2 (drop 1 args))

-- the shape of a pair of set and number
abbrev pub pair_shape : Option Primitive → List ℕ → Frame → List ℕ → Around → Shape
pair_shape None args f public x = goes f.dt Stays
pair_shape (Some p) args f public x = prim_shape p args f public x

-- ---- rows

-- the shape of each instruction
unfoldable pub shape : Ins → Frame → List ℕ → Around → Shape
shape ins.Nop f public x = goes f.dt Stays
shape (ins.Setsw sw) f public x = goes f.dt (Answers (Some sw) None)
shape (ins.Setla la) f public x = goes f.dt (Answers None (Some la))
shape (ins.Setswla sw la) f public x = goes f.dt (Answers (Some sw) (Some la))
shape ins.Exit f public x = exits f None None
shape (ins.Exitsw sw) f public x = exits f (Some sw) None
shape (ins.Exitla la) f public x = exits f None (Some la)
shape (ins.Exitswla sw la) f public x = exits f (Some sw) (Some la)
shape (ins.Branch k d) f public x = goes f.dt (Jumps (holds k f) (address_or_zero (moved_address f.at d)))
shape (ins.Jump k to) f public x = goes (on_stack k (f.dt - 2) f.dt) (Jumps (holds k f) (target f k to))
shape (ins.Call k to) f public x = goes (on_stack k (f.dt - 2) f.dt) (Calls (holds k f) (target f k to))
shape (ins.Pushz n) f public x = goes f.dt (Pushes (zeros n))
shape (ins.Pushb b) f public x = goes f.dt (Pushes (b ∷ []))
shape (ins.Pushw w) f public x = goes f.dt (Pushes (bytes2 w))
shape (ins.Popn n) f public x = goes (f.dt - n) Stays
shape ins.Popb f public x = goes (f.dt - 1) Stays
shape ins.Popw f public x = goes (f.dt - 2) Stays
shape (ins.Prim set number args) f public x = pair_shape (primitive set number) args f public x
shape ins.Ret f public x = goes f.dt (Returns 0 0)
shape (ins.Reti i) f public x = goes f.dt (Returns i 0)
shape (ins.Reto o) f public x = goes f.dt (Returns 0 o)
shape (ins.Retio i o) f public x = goes f.dt (Returns i o)
shape (ins.Load tag off n) f public x = goes f.dt (Pushes (value_of f public tag off n))
shape (ins.Store tag off n) f public x = goes (f.dt - n) (Writes (place_of f tag off (2 * n)) n (top f n))
shape (ins.Loadi tag off n) f public x = goes f.dt (Pushes (bytes_at f public (address_at f public (place_of f tag off 2)) n))
shape (ins.Storei tag off n) f public x = goes (f.dt - n) (Writes (address_at f public (place_of f tag off (n + 2))) n (top f n))
shape (ins.Loada tag off) f public x = goes f.dt (Pushes (bytes2 (place_of f tag off 0)))
shape (ins.Index tag off size) f public x = goes (f.dt - on_stack tag 3 1) (Pushes (bytes2 (address_or_zero (indexed_address f tag off size))))
shape (ins.Setb tag off b) f public x = goes f.dt (Writes (place_of f tag off 1) 1 (b ∷ []))
shape (ins.Cmpb tag off b) f public x = compared f.dt (sub_blocks (value_of f public tag off 1) (b ∷ []))
shape (ins.Addb tag off b) f public x = result f (place_of f tag off 1) 1 (add_blocks (value_of f public tag off 1) (b ∷ []))
shape (ins.Subb tag off b) f public x = result f (place_of f tag off 1) 1 (sub_blocks (value_of f public tag off 1) (b ∷ []))
shape (ins.Setw tag off w) f public x = goes f.dt (Writes (place_of f tag off 2) 2 (bytes2 w))
shape (ins.Cmpw tag off w) f public x = compared f.dt (sub_blocks (value_of f public tag off 2) (bytes2 w))
shape (ins.Addw tag off w) f public x = result f (place_of f tag off 2) 2 (add_blocks (value_of f public tag off 2) (bytes2 w))
shape (ins.Subw tag off w) f public x = result f (place_of f tag off 2) 2 (sub_blocks (value_of f public tag off 2) (bytes2 w))
shape (ins.Clearn tag off n) f public x = bits f (place_of f tag off n) n (zeros n)
shape (ins.Testn tag off n) f public x = flagged f.dt Stays f.c (is_zero (value_of f public tag off n))
shape (ins.Incn tag off n) f public x = result f (place_of f tag off n) n (inc_block (value_of f public tag off n))
shape (ins.Decn tag off n) f public x = result f (place_of f tag off n) n (dec_block (value_of f public tag off n))
shape (ins.Notn tag off n) f public x = bits f (place_of f tag off n) n (not_block (value_of f public tag off n))
shape (ins.Cmpn tag off n) f public x = compared f.dt (sub_blocks (first_of f public tag off n) (top f n))
shape (ins.Addn tag off n) f public x = result f (place_of f tag off (2 * n)) n (add_blocks (first_of f public tag off n) (top f n))
shape (ins.Subn tag off n) f public x = result f (place_of f tag off (2 * n)) n (sub_blocks (first_of f public tag off n) (top f n))
shape (ins.Andn tag off n) f public x = bits f (place_of f tag off (2 * n)) n (and_blocks (first_of f public tag off n) (top f n))
shape (ins.Orn tag off n) f public x = bits f (place_of f tag off (2 * n)) n (or_blocks (first_of f public tag off n) (top f n))
shape (ins.Xorn tag off n) f public x = bits f (place_of f tag off (2 * n)) n (xor_blocks (first_of f public tag off n) (top f n))
