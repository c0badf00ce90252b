-- What a row does to the bytes that it works on, beside its shape: the bytes that it writes or pushes are those of the
-- shape, copies, the result of a digitwise operation, have no fact, or have none behind a first byte, their number.
use Rattle.std.specs.Prelude.{ℕ, ◌+◌, ◌-◌, ◌*◌, Bool, true, false, cond, not, ◌==◌, nat_lt, List, [], ◌∷◌, ◌++◌, length, take, drop, slice_index, replicate, Option, Some, None}
use Rattle.model_rules.specs.model_machine.specs.declared.instruction.Ins.{Ins}
use Rattle.model_rules.specs.model_machine.specs.declared.instruction.Ins.TheVariants as ins
use Rattle.model_rules.specs.model_device.specs.Bytes.{bytes2, bytes, zeros}
use Rattle.model_rules.specs.model_machine.specs.Blocks.{not_block}
use Rattle.model_rules.specs.model_machine.specs.Frame.{Frame, address_at}
use Rattle.model_rules.specs.model_machine.specs.Primitives.{Primitive, CheckCase, LoadCcr, StoreCcr, Lookup, MemoryCompare, MemoryCopy, DelegateTo, DelegatorAid, Digest, CompareFixed, CopyFixed, SetProtection, Encipher, Decipher, Sign, BitByte, ShiftLeft, ShiftRight, BitWord, primitive, number_below_top, count_at}
use Rattle.model_rules.specs.model_machine.specs.Row.{place_of}
use Rattle.model_prove.specs.Digits.{Operation, Plus, Minus, And, Or, Xor}

-- the second operand of an operation: n bytes at an address, or these
pub data Operand : Type 0 where
  AtAddress : (at : ℕ) → Operand
  These : (b : List ℕ) → Operand

-- An operation on the n bytes at an address and an operand, lowest bytes first; its result may be written there, and
-- sets C besides Z if it carries.
pub record Digitwise : Type 0 where
  pub op : Operation
  pub at : ℕ
  pub n : ℕ
  pub operand : Operand
  pub written : Bool
  pub carries : Bool

-- what a row works on
pub data Work : Type 0 where
  AsShaped : Work
  Copies : (from : ℕ) → Work
  Works : (digitwise : Digitwise) → Work
  Searches : (value : ℕ) (table : ℕ) (n : ℕ) → Work
  AnyZ : Work
  Counted : Work
  NoFact : Work

-- an operation against the top of the stack, or a number
abbrev pub works : Operation → ℕ → ℕ → Operand → Bool → Bool → Work
works op at n operand written carries = Works (record { op = op; at = at; n = n; operand = operand; written = written; carries = carries })

-- the operation of a bit manipulation: op 0 clears the bits of the mask, 1 sets them, 2 inverts them, 3 tests them
abbrev pub mask_work : Frame → ℕ → ℕ → List ℕ → Work
mask_work f op n mask =
    cond (op == 0) (works And (f.dt - n) n (These (not_block mask)) true false) (
    cond (op == 1) (works Or (f.dt - n) n (These mask) true false) (
    cond (op == 2) (works Xor (f.dt - n) n (These mask) true false) (works And (f.dt - n) n (These mask) false false)
    )
    )

-- the work of a primitive
abbrev pub prim_work : Primitive → List ℕ → Frame → List ℕ → Work
prim_work CheckCase args f public = AnyZ
prim_work LoadCcr args f public = AsShaped
prim_work StoreCcr args f public = AsShaped
prim_work Lookup args f public = Searches (f.dt - 3) (number_below_top f 2 + 1) (count_at f public (number_below_top f 2))
prim_work MemoryCompare args f public = works Minus (number_below_top f 4) (number_below_top f 6) (AtAddress (number_below_top f 2)) false true
prim_work MemoryCopy args f public = Copies (number_below_top f 2)
prim_work DelegateTo args f public = AsShaped
prim_work DelegatorAid args f public = Counted
prim_work Digest args f public = NoFact
prim_work CompareFixed args f public = works Minus (number_below_top f 4) (slice_index args 0) (AtAddress (number_below_top f 2)) false true
prim_work CopyFixed args f public = Copies (number_below_top f 2)
prim_work SetProtection args f public = AsShaped
prim_work (Encipher c) args f public = NoFact
prim_work (Decipher c) args f public = NoFact
prim_work (Sign c) args f public = NoFact
prim_work BitByte args f public = mask_work f (slice_index args 0) 1 (take 1 (drop 1 args))
prim_work ShiftLeft args f public = AsShaped
prim_work ShiftRight args f public = AsShaped
prim_work BitWord args f public = mask_work f (slice_index args 0) 2 (take 2 (drop 1 args))

-- the work of a pair of set and number
abbrev pub pair_work : Option Primitive → List ℕ → Frame → List ℕ → Work
pair_work None args f public = AsShaped
pair_work (Some p) args f public = prim_work p args f public

-- the top n bytes of the stack
abbrev pub at_top : Frame → ℕ → Operand
at_top f n = AtAddress (f.dt - n)

-- the work of each instruction
abbrev pub work : Ins → Frame → List ℕ → Work
work (ins.Load tag off n) f public = Copies (place_of f tag off n)
work (ins.Store tag off n) f public = Copies (f.dt - n)
work (ins.Loadi tag off n) f public = Copies (address_at f public (place_of f tag off 2))
work (ins.Storei tag off n) f public = Copies (f.dt - n)
work (ins.Cmpb tag off b) f public = works Minus (place_of f tag off 1) 1 (These (b ∷ [])) false true
work (ins.Addb tag off b) f public = works Plus (place_of f tag off 1) 1 (These (b ∷ [])) true true
work (ins.Subb tag off b) f public = works Minus (place_of f tag off 1) 1 (These (b ∷ [])) true true
work (ins.Cmpw tag off w) f public = works Minus (place_of f tag off 2) 2 (These (bytes2 w)) false true
work (ins.Addw tag off w) f public = works Plus (place_of f tag off 2) 2 (These (bytes2 w)) true true
work (ins.Subw tag off w) f public = works Minus (place_of f tag off 2) 2 (These (bytes2 w)) true true
work (ins.Clearn tag off n) f public = works And (place_of f tag off n) n (These (zeros n)) true false
work (ins.Testn tag off n) f public = works Or (place_of f tag off n) n (These (zeros n)) false false
work (ins.Incn tag off n) f public = works Plus (place_of f tag off n) n (These (bytes n 1)) true true
work (ins.Decn tag off n) f public = works Minus (place_of f tag off n) n (These (bytes n 1)) true true
work (ins.Notn tag off n) f public = works Xor (place_of f tag off n) n (These (replicate n 255)) true false
work (ins.Cmpn tag off n) f public = works Minus (place_of f tag off (2 * n)) n (at_top f n) false true
work (ins.Addn tag off n) f public = works Plus (place_of f tag off (2 * n)) n (at_top f n) true true
work (ins.Subn tag off n) f public = works Minus (place_of f tag off (2 * n)) n (at_top f n) true true
work (ins.Andn tag off n) f public = works And (place_of f tag off (2 * n)) n (at_top f n) true false
work (ins.Orn tag off n) f public = works Or (place_of f tag off (2 * n)) n (at_top f n) true false
work (ins.Xorn tag off n) f public = works Xor (place_of f tag off (2 * n)) n (at_top f n) true false
work (ins.Prim set number args) f public = pair_work (primitive set number) args f public
work i f public = AsShaped
