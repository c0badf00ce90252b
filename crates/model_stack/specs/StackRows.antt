-- What each instruction does to the shape of the stack: the bytes that it needs, pops and pushes, where it writes, and
-- where it goes.
use Rattle.std.specs.Prelude.{ℕ, suc, ◌+◌, ◌-◌, ◌*◌, Bool, true, false, cond, not, ◌&&◌, ◌||◌, nat_lt, nat_le, ◌==◌, ℤ, pos, negsuc, List, slice_index, Option, Some, None, is_none}
use Rattle.model_text.specs.model_machine.specs.declared.instruction.Ins.{Ins}
use Rattle.model_text.specs.model_machine.specs.declared.instruction.Ins.TheVariants as ins
use Rattle.model_text.specs.model_machine.specs.Frame.{moved_address}
use Rattle.model_text.specs.model_machine.specs.Primitives.{Primitive, CheckCase, LoadCcr, StoreCcr, Lookup, MemoryCompare, MemoryCopy, DelegateTo, DelegatorAid, Digest, CompareFixed, CopyFixed, SetProtection, Encipher, Decipher, Sign, BitByte, ShiftLeft, ShiftRight, BitWord, primitive, has_bad_argument, in_range}
use Rattle.model_text.specs.model_machine.specs.Row.{on_stack}

-- ---- the table of instructions

-- whether a primitive always abends with 06 by its own bytes
abbrev pub prim_abends : Option Primitive → List ℕ → Bool
prim_abends None args = true
prim_abends (Some p) args = has_bad_argument p args

-- whether an instruction always abends by its own bytes
abbrev pub always_abends : Ins → Bool
always_abends (ins.Pushz n) = n == 0
always_abends (ins.Popn n) = n == 0
always_abends (ins.Prim set number args) = prim_abends (primitive set number) args
always_abends (ins.Load tag off n) = n == 0
always_abends (ins.Store tag off n) = n == 0
always_abends (ins.Loadi tag off n) = n == 0
always_abends (ins.Storei tag off n) = n == 0
always_abends (ins.Clearn tag off n) = n == 0
always_abends (ins.Testn tag off n) = n == 0
always_abends (ins.Incn tag off n) = not (in_range 1 16 n)
always_abends (ins.Decn tag off n) = not (in_range 1 16 n)
always_abends (ins.Notn tag off n) = n == 0
always_abends (ins.Cmpn tag off n) = n == 0
always_abends (ins.Addn tag off n) = not (in_range 1 16 n)
always_abends (ins.Subn tag off n) = not (in_range 1 16 n)
always_abends (ins.Andn tag off n) = n == 0
always_abends (ins.Orn tag off n) = n == 0
always_abends (ins.Xorn tag off n) = n == 0
always_abends _ = false

-- the bytes of the stack that a row needs, those that it pops, and those that it pushes then
pub record Uses : Type 0 where
  pub needs : ℕ
  pub pops : ℕ
  pub pushes : ℕ

-- what a row needs, pops and pushes
abbrev pub uses : ℕ → ℕ → ℕ → Uses
uses needs pops pushes = record { needs = needs; pops = pops; pushes = pushes }

-- what a primitive needs, pops and pushes
abbrev pub prim_uses : Primitive → List ℕ → Uses
prim_uses CheckCase args = uses 1 1 0
prim_uses LoadCcr args = uses 0 0 1
prim_uses StoreCcr args = uses 1 1 0
prim_uses Lookup args = uses 3 3 1
prim_uses MemoryCompare args = uses 6 6 0
prim_uses MemoryCopy args = uses 6 6 0
prim_uses DelegateTo args = uses 2 2 0
prim_uses DelegatorAid args = uses 2 2 0
prim_uses Digest args = uses 6 6 0
prim_uses CompareFixed args = uses 4 4 0
prim_uses CopyFixed args = uses 4 4 0
prim_uses SetProtection args = uses 0 0 0
prim_uses (Encipher c) args = uses 6 6 0
prim_uses (Decipher c) args = uses 6 6 0
prim_uses (Sign c) args = uses 8 8 0
prim_uses BitByte args = uses 1 0 0
prim_uses ShiftLeft args = uses (slice_index args 0) 0 0
prim_uses ShiftRight args = uses (slice_index args 0) 0 0
prim_uses BitWord args = uses 2 0 0

-- what the primitive of a set and a number needs, pops and pushes
abbrev pub pair_uses : Option Primitive → List ℕ → Uses
pair_uses None args = uses 0 0 0
pair_uses (Some p) args = prim_uses p args

-- what an instruction needs, pops and pushes
abbrev pub row_uses : Ins → Uses
row_uses ins.Nop = uses 0 0 0
row_uses (ins.Setsw sw) = uses 0 0 0
row_uses (ins.Setla la) = uses 0 0 0
row_uses (ins.Setswla sw la) = uses 0 0 0
row_uses ins.Exit = uses 0 0 0
row_uses (ins.Exitsw sw) = uses 0 0 0
row_uses (ins.Exitla la) = uses 0 0 0
row_uses (ins.Exitswla sw la) = uses 0 0 0
row_uses (ins.Branch k d) = uses 0 0 0
row_uses (ins.Jump k to) = uses (on_stack k 2 0) 0 0
row_uses (ins.Call k to) = uses (on_stack k 2 0) 0 0
row_uses (ins.Pushz n) = uses 0 0 n
row_uses (ins.Pushb b) = uses 0 0 1
row_uses (ins.Pushw w) = uses 0 0 2
row_uses (ins.Popn n) = uses n n 0
row_uses ins.Popb = uses 1 1 0
row_uses ins.Popw = uses 2 2 0
row_uses (ins.Prim set number args) = pair_uses (primitive set number) args
row_uses ins.Ret = uses 0 0 0
row_uses (ins.Reti i) = uses 0 0 0
row_uses (ins.Reto o) = uses o 0 0
row_uses (ins.Retio i o) = uses o 0 0
row_uses (ins.Load tag off n) = uses (on_stack tag n 0) 0 n
row_uses (ins.Store tag off n) = uses (on_stack tag (2 * n) n) n 0
row_uses (ins.Loadi tag off n) = uses (on_stack tag 2 0) 0 n
row_uses (ins.Storei tag off n) = uses (on_stack tag (n + 2) n) n 0
row_uses (ins.Loada tag off) = uses 0 0 2
row_uses (ins.Index tag off size) = uses (on_stack tag 3 1) (on_stack tag 3 1) 2
row_uses (ins.Setb tag off b) = uses (on_stack tag 1 0) 0 0
row_uses (ins.Cmpb tag off b) = uses (on_stack tag 1 0) 0 0
row_uses (ins.Addb tag off b) = uses (on_stack tag 1 0) 0 0
row_uses (ins.Subb tag off b) = uses (on_stack tag 1 0) 0 0
row_uses (ins.Setw tag off w) = uses (on_stack tag 2 0) 0 0
row_uses (ins.Cmpw tag off w) = uses (on_stack tag 2 0) 0 0
row_uses (ins.Addw tag off w) = uses (on_stack tag 2 0) 0 0
row_uses (ins.Subw tag off w) = uses (on_stack tag 2 0) 0 0
row_uses (ins.Clearn tag off n) = uses (on_stack tag n 0) 0 0
row_uses (ins.Testn tag off n) = uses (on_stack tag n 0) 0 0
row_uses (ins.Incn tag off n) = uses (on_stack tag n 0) 0 0
row_uses (ins.Decn tag off n) = uses (on_stack tag n 0) 0 0
row_uses (ins.Notn tag off n) = uses (on_stack tag n 0) 0 0
row_uses (ins.Cmpn tag off n) = uses (on_stack tag (2 * n) n) 0 0
row_uses (ins.Addn tag off n) = uses (on_stack tag (2 * n) n) 0 0
row_uses (ins.Subn tag off n) = uses (on_stack tag (2 * n) n) 0 0
row_uses (ins.Andn tag off n) = uses (on_stack tag (2 * n) n) 0 0
row_uses (ins.Orn tag off n) = uses (on_stack tag (2 * n) n) 0 0
row_uses (ins.Xorn tag off n) = uses (on_stack tag (2 * n) n) 0 0

-- the number of bytes that an instruction needs: 0 if it always abends
abbrev pub need : Ins → ℕ
need i = cond (always_abends i) 0 (row_uses i).needs

-- the height after an instruction
abbrev pub height_after : Ins → ℕ → ℕ
height_after i h = h - (row_uses i).pops + (row_uses i).pushes

-- ---- where an instruction writes

-- where an instruction writes: nowhere, n bytes at an address by tag and offset, or at an address that comes from the
-- stack or from memory
pub data Writing : Type 0 where
  WritesNothing : Writing
  WritesAt : (tag : ℕ) (off : ℤ) (n : ℕ) → Writing
  WritesAnywhere : Writing

-- where a primitive writes
abbrev pub prim_writing : Option Primitive → Writing
prim_writing (Some MemoryCopy) = WritesAnywhere
prim_writing (Some CopyFixed) = WritesAnywhere
prim_writing (Some DelegatorAid) = WritesAnywhere
prim_writing (Some Digest) = WritesAnywhere
prim_writing (Some (Encipher c)) = WritesAnywhere
prim_writing (Some (Decipher c)) = WritesAnywhere
prim_writing (Some (Sign c)) = WritesAnywhere
prim_writing _ = WritesNothing

-- where an instruction writes
abbrev pub row_writing : Ins → Writing
row_writing (ins.Prim set number args) = prim_writing (primitive set number)
row_writing (ins.Store tag off n) = WritesAt tag off n
row_writing (ins.Storei tag off n) = WritesAnywhere
row_writing (ins.Setb tag off b) = WritesAt tag off 1
row_writing (ins.Addb tag off b) = WritesAt tag off 1
row_writing (ins.Subb tag off b) = WritesAt tag off 1
row_writing (ins.Setw tag off w) = WritesAt tag off 2
row_writing (ins.Addw tag off w) = WritesAt tag off 2
row_writing (ins.Subw tag off w) = WritesAt tag off 2
row_writing (ins.Clearn tag off n) = WritesAt tag off n
row_writing (ins.Incn tag off n) = WritesAt tag off n
row_writing (ins.Decn tag off n) = WritesAt tag off n
row_writing (ins.Notn tag off n) = WritesAt tag off n
row_writing (ins.Addn tag off n) = WritesAt tag off n
row_writing (ins.Subn tag off n) = WritesAt tag off n
row_writing (ins.Andn tag off n) = WritesAt tag off n
row_writing (ins.Orn tag off n) = WritesAt tag off n
row_writing (ins.Xorn tag off n) = WritesAt tag off n
row_writing _ = WritesNothing

-- where an instruction writes: nowhere if it always abends
abbrev pub writing : Ins → Writing
writing i = cond (always_abends i) WritesNothing (row_writing i)

-- whether n bytes written at a register plus k are plain, for the tags 1 SB, 2 ST, 3 DB, 4 LB, 5 DT, 6 PB, 7 PT; tag 0
-- is the top of the stack
abbrev pub is_plain_above : ℕ → ℕ → ℕ → ℕ → ℕ → Bool
is_plain_above session h tag k n =
    cond (tag == 2) false
    (cond (tag == 3) (nat_le (k + n) session)
    (cond (tag == 4) (nat_le (k + n) h)
    (cond (tag == 5) (k + n == 0) true)))

-- whether n bytes written at a register less k, which is not 0, are plain
abbrev pub is_plain_below : ℕ → ℕ → ℕ → ℕ → Bool
is_plain_below h tag k n =
    cond (tag == 0 || tag == 2) true
    (cond (tag == 5) (nat_le k h && nat_le n k)
    (cond (tag == 6 || tag == 7) (nat_le k 4096) false))

-- whether n bytes written at an address are plain: they touch neither a saved word nor a byte of an open call
abbrev pub is_plain_at : ℕ → ℕ → ℕ → ℤ → ℕ → Bool
is_plain_at session h tag (pos k) n = is_plain_above session h tag k n
is_plain_at session h tag (negsuc k) n = is_plain_below h tag (suc k) n

-- whether a write is plain: it has no address, or a plain one
abbrev pub is_plain : ℕ → ℕ → Writing → Bool
is_plain session h WritesNothing = true
is_plain session h (WritesAt tag off n) = is_plain_at session h tag off n
is_plain session h WritesAnywhere = false

-- ---- where an instruction goes

-- whether an instruction is a jump or call whose address is on the stack
abbrev pub is_indirect : Ins → Bool
is_indirect (ins.Jump k to) = k == 0
is_indirect (ins.Call k to) = k == 0
is_indirect _ = false

-- the counts of a return, None for any other instruction
abbrev pub counts : Ins → Option (ℕ × ℕ)
counts ins.Ret = Some (0, 0)
counts (ins.Reti i) = Some (i, 0)
counts (ins.Reto o) = Some (0, o)
counts (ins.Retio i o) = Some (i, o)
counts _ = None

-- whether the code may go on at the next place after an instruction, for any but a CALL
abbrev pub goes_on : Ins → Bool
goes_on ins.Exit = false
goes_on (ins.Exitsw sw) = false
goes_on (ins.Exitla la) = false
goes_on (ins.Exitswla sw la) = false
goes_on (ins.Branch k d) = not (k == 7)
goes_on (ins.Jump k to) = not (k == 7 || k == 0)
goes_on i = not (always_abends i) && is_none (counts i)

-- the target of a BRANCH or JUMP that ends right before `next`, which may be no place
abbrev pub jump_target : Ins → ℕ → Option (Option ℕ)
jump_target (ins.Branch k d) next = Some (moved_address next d)
jump_target (ins.Jump k to) next = cond (k == 0) None (Some (Some to))
jump_target _ next = None

-- the target of a call
abbrev pub call_target : Ins → Option ℕ
call_target (ins.Call k to) = cond (k == 0) None (Some to)
call_target _ = None

-- whether an instruction is a CALL
abbrev pub is_call : Ins → Bool
is_call (ins.Call k to) = true
is_call _ = false

-- whether an instruction is a CALL that may go on without a call
abbrev pub is_conditional : Ins → Bool
is_conditional (ins.Call k to) = not (k == 7)
is_conditional _ = false

-- whether a place is one in the code
abbrev pub is_inside : ℕ → Option ℕ → Bool
is_inside len None = false
is_inside len (Some p) = nat_lt p len

-- whether a target, if there is one, is in the code
abbrev pub target_inside : ℕ → Option (Option ℕ) → Bool
target_inside len None = true
target_inside len (Some t) = is_inside len t

-- whether a call's target, if there is one, is in the code
abbrev pub call_inside : ℕ → Option ℕ → Bool
call_inside len None = true
call_inside len (Some t) = nat_lt t len

-- whether each place that an instruction may go to is in the code; after a CALL too, whether its routine returns or not
abbrev pub places_inside : ℕ → Ins → ℕ → Bool
places_inside len i next =
    (not (goes_on i) || nat_lt next len) && target_inside len (jump_target i next) && call_inside len (call_target i)
