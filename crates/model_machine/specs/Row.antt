-- What each instruction does, and the first cause for which it abends. The frame's code address is already the place
-- after the instruction.
use Rattle.std.specs.Prelude.{ℕ, suc, ◌+◌, ◌-◌, ◌*◌, Bool, true, false, cond, not, ◌&&◌, ◌||◌, nat_lt, nat_le, ◌==◌, List, [], ◌∷◌, ◌++◌, length, take, drop, ℤ, is_none, unwrap_or, option_and_then, Option, Some, None}
use Rattle.model_machine.specs.declared.instruction.Ins.{Ins}
use Rattle.model_machine.specs.declared.instruction.Ins.TheVariants as ins
use Rattle.model_machine.specs.declared.machine.Abend.{Abend}
use Rattle.model_machine.specs.declared.machine.Abend.TheVariants.{A02, A03, A04, A05, A06, A08}
use Rattle.model_device.specs.Bytes.{bytes2, num, zeros}
use Rattle.model_machine.specs.Blocks.{Worked, add_blocks, sub_blocks, inc_block, dec_block, and_blocks, or_blocks, xor_blocks, not_block, is_zero}
use Rattle.model_machine.specs.Frame.{Frame, Effect, moved_address, in_two_bytes, resolve, bytes_at, address_at, is_outside, no_access, write_effect, too_many, is_under, is_over, frame_after_push, frame_after_pop, stack_bytes, top, frame_with_flags, frame_after_entry, no_return, saved_address, come_back, with_sw, with_la}
use Rattle.model_machine.specs.Primitives.{Around, Then, Goes, Exits, Done, effect_and_next, frame_effect, effect_flagged, primitive, prim_causes, prim_done, in_range}

-- ---- words of the rows

-- whether a condition holds: EQ, LT, LE, GT, GE, NE, ALL are 1 to 7
abbrev pub holds : ℕ → Frame → Bool
holds k f =
    cond (k == 1) f.z (cond (k == 2) f.c (cond (k == 3) (f.c || f.z) (cond (k == 4) (not (f.c || f.z)) (
    cond (k == 5) (not f.c) (cond (k == 6) (not f.z) true)
    ))))

-- whether the place to go to is not in the code, abend 02
abbrev pub no_place : Frame → Option ℕ → Bool
no_place f None = true
no_place f (Some at) = not (nat_lt at f.code_len)

-- the place of the operand: with tag 0 it begins k bytes below the top of the stack
abbrev pub operand : Frame → ℕ → ℤ → ℕ → Option ℕ
operand f tag off k = cond (tag == 0) (Some (f.dt - k)) (resolve f tag off)

-- an address that is known to be one
abbrev pub address_or_zero : Option ℕ → ℕ
address_or_zero a = unwrap_or a 0

-- n with tag 0, when the operand is on the stack, else m
abbrev pub on_stack : ℕ → ℕ → ℕ → ℕ
on_stack tag n m = cond (tag == 0) n m

-- the causes of a place that is only read: abend 03
abbrev pub reads : Frame → Option ℕ → ℕ → List (Abend × Bool)
reads f a n = (A03, no_access f a n) ∷ []

-- the causes of a place that is written: abends 03 and 08
abbrev pub writes : Frame → Option ℕ → ℕ → List (Abend × Bool)
writes f a n = (A03, no_access f a n) ∷ (A08, too_many f (address_or_zero a) n) ∷ []

-- the value at a place becomes the result, which sets both flags
abbrev pub becomes : Frame → List ℕ → ℕ → Worked → Done
becomes f public a w = effect_and_next (effect_flagged (write_effect f public a w.value) w.c w.z)

-- the value at a place becomes the result, which sets Z alone
abbrev pub becomes_bits : Frame → List ℕ → ℕ → List ℕ → Done
becomes_bits f public a b = effect_and_next (effect_flagged (write_effect f public a b) f.c (is_zero b))

-- a result that sets the flags alone
abbrev pub flags_of : Frame → List ℕ → Worked → Done
flags_of f public w = effect_and_next (frame_effect (frame_with_flags f w.c w.z) public)

-- the frame exits, once the public segment is set
abbrev pub exit_with : Frame → List ℕ → Done
exit_with f public = record { effect = frame_effect f public; next = Exits }

-- the frame, its code going on at a place if the condition holds
abbrev pub frame_after_jump : Bool → Frame → ℕ → Frame
frame_after_jump true f to = record f { at = to }
frame_after_jump false f to = f

-- the address of a jump or call: the two bytes on top of the stack under condition 0
abbrev pub target : Frame → ℕ → ℕ → ℕ
target f k to = cond (k == 0) (num (top f 2)) to

-- the frame without the address on its stack
abbrev pub without_target : Frame → ℕ → Frame
without_target f k = cond (k == 0) (frame_after_pop f 2) f

-- the frame after a call if the condition holds, else the frame
abbrev pub frame_after_call : Bool → Frame → ℕ → Frame
frame_after_call true f to = frame_after_entry f to
frame_after_call false f to = f

-- the base of an indexed address; the index is on top of the stack, and with tag 0 the base lies below it
abbrev pub index_base : Frame → ℕ → ℤ → Option ℕ
index_base f tag off = cond (tag == 0) (Some (num (stack_bytes f 3 2))) (resolve f tag off)

-- base plus index times size, if that is an address
abbrev pub indexed_address : Frame → ℕ → ℤ → ℕ → Option ℕ
indexed_address f tag off size = option_and_then (λ a. in_two_bytes (a + num (top f 1) * size)) (index_base f tag off)

-- ---- causes by kind of row

-- returns: the saved words, and then the return address
abbrev pub return_causes : Frame → ℕ → ℕ → List (Abend × Bool)
return_causes f i o = (A04, no_return f i o) ∷ (A02, no_place f (Some (saved_address f 2))) ∷ []

-- a byte or a word at a place, or on top of the stack, against an immediate
abbrev pub immediate_reads : Frame → ℕ → ℤ → ℕ → List (Abend × Bool)
immediate_reads f tag off n = (A04, tag == 0 && is_under f n) ∷ reads f (operand f tag off n) n

-- a byte or a word at a place, or on top of the stack, that is written
abbrev pub immediate_writes : Frame → ℕ → ℤ → ℕ → List (Abend × Bool)
immediate_writes f tag off n = (A04, tag == 0 && is_under f n) ∷ writes f (operand f tag off n) n

-- n bytes at a place against the top n bytes
abbrev pub pair_reads : Frame → ℕ → ℤ → ℕ → List (Abend × Bool)
pair_reads f tag off n = (A04, is_under f (on_stack tag (2 * n) n)) ∷ reads f (operand f tag off (2 * n)) n

-- n bytes at a place against the top n bytes, written to the place
abbrev pub pair_writes : Frame → ℕ → ℤ → ℕ → List (Abend × Bool)
pair_writes f tag off n = (A04, is_under f (on_stack tag (2 * n) n)) ∷ writes f (operand f tag off (2 * n)) n

-- ---- the causes of each row, in the order in which the first counts

-- for each instruction its causes, each with whether it holds
unfoldable pub causes : Ins → Frame → List ℕ → Around → List (Abend × Bool)
causes ins.Nop f public x = []
causes (ins.Setsw sw) f public x = []
causes (ins.Setla la) f public x = []
causes (ins.Setswla sw la) f public x = []
causes ins.Exit f public x = []
causes (ins.Exitsw sw) f public x = []
causes (ins.Exitla la) f public x = []
causes (ins.Exitswla sw la) f public x = []
causes (ins.Branch k d) f public x = (A02, holds k f && no_place f (moved_address f.at d)) ∷ []
causes (ins.Jump k to) f public x = (A04, k == 0 && is_under f 2) ∷ (A02, holds k f && no_place f (Some (target f k to))) ∷ []
causes (ins.Call k to) f public x =
    (A04, k == 0 && is_under f 2) ∷ (A02, holds k f && no_place f (Some (target f k to))) ∷ (A05, holds k f && is_over (without_target f k) 4) ∷ []
causes (ins.Pushz n) f public x = (A06, n == 0) ∷ (A05, is_over f n) ∷ []
causes (ins.Pushb b) f public x = (A05, is_over f 1) ∷ []
causes (ins.Pushw w) f public x = (A05, is_over f 2) ∷ []
causes (ins.Popn n) f public x = (A06, n == 0) ∷ (A04, is_under f n) ∷ []
causes ins.Popb f public x = (A04, is_under f 1) ∷ []
causes ins.Popw f public x = (A04, is_under f 2) ∷ []
causes (ins.Prim set number args) f public x = prim_causes (primitive set number) args f public x
causes ins.Ret f public x = return_causes f 0 0
causes (ins.Reti i) f public x = return_causes f i 0
causes (ins.Reto o) f public x = return_causes f 0 o
causes (ins.Retio i o) f public x = return_causes f i o
causes (ins.Load tag off n) f public x = (A06, n == 0) ∷ (A04, tag == 0 && is_under f n) ∷ (A03, no_access f (operand f tag off n) n) ∷ (A05, is_over f n) ∷ []
causes (ins.Store tag off n) f public x =
    (A06, n == 0) ∷ (A04, is_under f (on_stack tag (2 * n) n)) ∷ writes (frame_after_pop f n) (operand f tag off (2 * n)) n
causes (ins.Loadi tag off n) f public x =
    let a = operand f tag off 2 in
    (A06, n == 0) ∷ (A04, tag == 0 && is_under f 2) ∷ (A03, no_access f a 2 || is_outside f (address_at f public (address_or_zero a)) n) ∷ (A05, is_over f n) ∷ []
causes (ins.Storei tag off n) f public x =
    let a = operand f tag off (n + 2) in
    let to = address_at f public (address_or_zero a) in
    (A06, n == 0) ∷ (A04, is_under f (on_stack tag (n + 2) n)) ∷ (A03, no_access f a 2 || is_outside (frame_after_pop f n) to n) ∷ (A08, too_many (frame_after_pop f n) to n) ∷ []
causes (ins.Loada tag off) f public x = (A03, is_none (operand f tag off 0)) ∷ (A05, is_over f 2) ∷ []
causes (ins.Index tag off size) f public x =
    (A04, is_under f (on_stack tag 3 1)) ∷ (A03, is_none (indexed_address f tag off size)) ∷ (A05, is_over (frame_after_pop f (on_stack tag 3 1)) 2) ∷ []
causes (ins.Setb tag off b) f public x = immediate_writes f tag off 1
causes (ins.Cmpb tag off b) f public x = immediate_reads f tag off 1
causes (ins.Addb tag off b) f public x = immediate_writes f tag off 1
causes (ins.Subb tag off b) f public x = immediate_writes f tag off 1
causes (ins.Setw tag off w) f public x = immediate_writes f tag off 2
causes (ins.Cmpw tag off w) f public x = immediate_reads f tag off 2
causes (ins.Addw tag off w) f public x = immediate_writes f tag off 2
causes (ins.Subw tag off w) f public x = immediate_writes f tag off 2
causes (ins.Clearn tag off n) f public x = (A06, n == 0) ∷ immediate_writes f tag off n
causes (ins.Testn tag off n) f public x = (A06, n == 0) ∷ immediate_reads f tag off n
causes (ins.Incn tag off n) f public x = (A06, not (in_range 1 16 n)) ∷ immediate_writes f tag off n
causes (ins.Decn tag off n) f public x = (A06, not (in_range 1 16 n)) ∷ immediate_writes f tag off n
causes (ins.Notn tag off n) f public x = (A06, n == 0) ∷ immediate_writes f tag off n
causes (ins.Cmpn tag off n) f public x = (A06, n == 0) ∷ pair_reads f tag off n
causes (ins.Addn tag off n) f public x = (A06, not (in_range 1 16 n)) ∷ pair_writes f tag off n
causes (ins.Subn tag off n) f public x = (A06, not (in_range 1 16 n)) ∷ pair_writes f tag off n
causes (ins.Andn tag off n) f public x = (A06, n == 0) ∷ pair_writes f tag off n
causes (ins.Orn tag off n) f public x = (A06, n == 0) ∷ pair_writes f tag off n
causes (ins.Xorn tag off n) f public x = (A06, n == 0) ∷ pair_writes f tag off n

-- ---- the effect of each row if no cause holds

-- the operand's place
abbrev pub place_of : Frame → ℕ → ℤ → ℕ → ℕ
place_of f tag off k = address_or_zero (operand f tag off k)

-- the operand's n bytes
abbrev pub value_of : Frame → List ℕ → ℕ → ℤ → ℕ → List ℕ
value_of f public tag off n = bytes_at f public (place_of f tag off n) n

-- the first operand of a pair
abbrev pub first_of : Frame → List ℕ → ℕ → ℤ → ℕ → List ℕ
first_of f public tag off n = bytes_at f public (place_of f tag off (2 * n)) n

-- the effect of each instruction if no cause holds
unfoldable pub effect : Ins → Frame → List ℕ → Around → Done
effect ins.Nop f public x = effect_and_next (frame_effect f public)
effect (ins.Setsw sw) f public x = effect_and_next (frame_effect f (with_sw public sw))
effect (ins.Setla la) f public x = effect_and_next (frame_effect f (with_la public la))
effect (ins.Setswla sw la) f public x = effect_and_next (frame_effect f (with_la (with_sw public sw) la))
effect ins.Exit f public x = exit_with f public
effect (ins.Exitsw sw) f public x = exit_with f (with_sw public sw)
effect (ins.Exitla la) f public x = exit_with f (with_la public la)
effect (ins.Exitswla sw la) f public x = exit_with f (with_la (with_sw public sw) la)
effect (ins.Branch k d) f public x = effect_and_next (frame_effect (frame_after_jump (holds k f) f (address_or_zero (moved_address f.at d))) public)
effect (ins.Jump k to) f public x = effect_and_next (frame_effect (frame_after_jump (holds k f) (without_target f k) (target f k to)) public)
effect (ins.Call k to) f public x = effect_and_next (frame_effect (frame_after_call (holds k f) (without_target f k) (target f k to)) public)
effect (ins.Pushz n) f public x = effect_and_next (frame_effect (frame_after_push f (zeros n)) public)
effect (ins.Pushb b) f public x = effect_and_next (frame_effect (frame_after_push f (b ∷ [])) public)
effect (ins.Pushw w) f public x = effect_and_next (frame_effect (frame_after_push f (bytes2 w)) public)
effect (ins.Popn n) f public x = effect_and_next (frame_effect (frame_after_pop f n) public)
effect ins.Popb f public x = effect_and_next (frame_effect (frame_after_pop f 1) public)
effect ins.Popw f public x = effect_and_next (frame_effect (frame_after_pop f 2) public)
effect (ins.Prim set number args) f public x = prim_done (primitive set number) args f public x
effect ins.Ret f public x = effect_and_next (frame_effect (come_back f 0 0) public)
effect (ins.Reti i) f public x = effect_and_next (frame_effect (come_back f i 0) public)
effect (ins.Reto o) f public x = effect_and_next (frame_effect (come_back f 0 o) public)
effect (ins.Retio i o) f public x = effect_and_next (frame_effect (come_back f i o) public)
effect (ins.Load tag off n) f public x = effect_and_next (frame_effect (frame_after_push f (value_of f public tag off n)) public)
effect (ins.Store tag off n) f public x = effect_and_next (write_effect (frame_after_pop f n) public (place_of f tag off (2 * n)) (top f n))
effect (ins.Loadi tag off n) f public x = effect_and_next (frame_effect (frame_after_push f (bytes_at f public (address_at f public (place_of f tag off 2)) n)) public)
effect (ins.Storei tag off n) f public x = effect_and_next (write_effect (frame_after_pop f n) public (address_at f public (place_of f tag off (n + 2))) (top f n))
effect (ins.Loada tag off) f public x = effect_and_next (frame_effect (frame_after_push f (bytes2 (place_of f tag off 0))) public)
effect (ins.Index tag off size) f public x =
    effect_and_next (frame_effect (frame_after_push (frame_after_pop f (on_stack tag 3 1)) (bytes2 (address_or_zero (indexed_address f tag off size)))) public)
effect (ins.Setb tag off b) f public x = effect_and_next (write_effect f public (place_of f tag off 1) (b ∷ []))
effect (ins.Cmpb tag off b) f public x = flags_of f public (sub_blocks (value_of f public tag off 1) (b ∷ []))
effect (ins.Addb tag off b) f public x = becomes f public (place_of f tag off 1) (add_blocks (value_of f public tag off 1) (b ∷ []))
effect (ins.Subb tag off b) f public x = becomes f public (place_of f tag off 1) (sub_blocks (value_of f public tag off 1) (b ∷ []))
effect (ins.Setw tag off w) f public x = effect_and_next (write_effect f public (place_of f tag off 2) (bytes2 w))
effect (ins.Cmpw tag off w) f public x = flags_of f public (sub_blocks (value_of f public tag off 2) (bytes2 w))
effect (ins.Addw tag off w) f public x = becomes f public (place_of f tag off 2) (add_blocks (value_of f public tag off 2) (bytes2 w))
effect (ins.Subw tag off w) f public x = becomes f public (place_of f tag off 2) (sub_blocks (value_of f public tag off 2) (bytes2 w))
effect (ins.Clearn tag off n) f public x = becomes_bits f public (place_of f tag off n) (zeros n)
effect (ins.Testn tag off n) f public x = effect_and_next (frame_effect (frame_with_flags f f.c (is_zero (value_of f public tag off n))) public)
effect (ins.Incn tag off n) f public x = becomes f public (place_of f tag off n) (inc_block (value_of f public tag off n))
effect (ins.Decn tag off n) f public x = becomes f public (place_of f tag off n) (dec_block (value_of f public tag off n))
effect (ins.Notn tag off n) f public x = becomes_bits f public (place_of f tag off n) (not_block (value_of f public tag off n))
effect (ins.Cmpn tag off n) f public x = flags_of f public (sub_blocks (first_of f public tag off n) (top f n))
effect (ins.Addn tag off n) f public x = becomes f public (place_of f tag off (2 * n)) (add_blocks (first_of f public tag off n) (top f n))
effect (ins.Subn tag off n) f public x = becomes f public (place_of f tag off (2 * n)) (sub_blocks (first_of f public tag off n) (top f n))
effect (ins.Andn tag off n) f public x = becomes_bits f public (place_of f tag off (2 * n)) (and_blocks (first_of f public tag off n) (top f n))
effect (ins.Orn tag off n) f public x = becomes_bits f public (place_of f tag off (2 * n)) (or_blocks (first_of f public tag off n) (top f n))
effect (ins.Xorn tag off n) f public x = becomes_bits f public (place_of f tag off (2 * n)) (xor_blocks (first_of f public tag off n) (top f n))

-- ---- rows

-- the first cause that holds
abbrev pub first_cause : List (Abend × Bool) → Option Abend
first_cause [] = None
first_cause (c ∷ cs) = cond c.1 (Some c.0) (first_cause cs)

-- how a row ends: with an abend, or done
pub data RowEnd : Type 0 where
  Abends : (cause : Abend) → RowEnd
  Does : (done : Done) → RowEnd

-- a row by its first cause
abbrev pub row_end : Option Abend → Done → RowEnd
row_end (Some a) d = Abends a
row_end None d = Does d

-- the row of an instruction
unfoldable pub row : Ins → Frame → List ℕ → Around → RowEnd
row i f public x = let d = effect i f public x in row_end (first_cause (causes i f public x)) d
