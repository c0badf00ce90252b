-- The static bytes that an instruction writes, by what is seen of its frame before it.
use Rattle.std.specs.Prelude.{◌≡◌, ℕ, ◌+◌, ◌-◌, ℤ, true, false, cond, nat_le, ◌==◌, List, length, option_map, slice_index, Option, Some, None}
use Rattle.law_family.specs.model_machine.specs.declared.instruction.Ins.{Ins}
use Rattle.law_family.specs.model_machine.specs.declared.instruction.Ins.TheVariants as ins
use Rattle.law_family.specs.model_machine.specs.Frame.{Frame, address_at, dynamic_base, is_outside, moved_address, public_base, public_end}
use Rattle.law_family.specs.model_machine.specs.Primitives.{Primitive, CopyFixed, Decipher, DelegatorAid, Digest, Encipher, MemoryCopy, Sign, block_len, primitive}

-- what is seen of a frame: the number of its static bytes, its registers LB and DT, and the number in the two bytes at
-- each address
pub record Look : Type 0 where
  pub size : ℕ
  pub lb : ℕ
  pub dt : ℕ
  pub number : ℕ → ℕ

-- the registers with the numbers 1 to 7
abbrev pub look_register : Look → ℕ → ℕ
look_register l tag =
    cond (tag == 1) 0 (cond (tag == 2) l.size (cond (tag == 3) dynamic_base (
    cond (tag == 4) l.lb (cond (tag == 5) l.dt (cond (tag == 6) public_base public_end))
    )))

-- register plus offset, if that is an address
abbrev pub look_resolve : Look → ℕ → ℤ → Option ℕ
look_resolve l tag off = moved_address (look_register l tag) off

-- n bytes at an operand, none if it is on the stack
abbrev pub placed : Look → ℕ → ℤ → ℕ → Option (ℕ × ℕ)
placed l tag off n = cond (tag == 0) None (option_map (λ a. (a, n)) (look_resolve l tag off))

-- the place of a pointer over n bytes
abbrev pub pointer : Look → ℕ → ℤ → ℕ → Option ℕ
pointer l tag off n = cond (tag == 0) (Some (l.dt - (n + 2))) (look_resolve l tag off)

-- n bytes at the address that an operand holds
abbrev pub pointed : Look → ℕ → ℤ → ℕ → Option (ℕ × ℕ)
pointed l tag off n = option_map (λ p. (l.number p, n)) (pointer l tag off n)

-- n bytes at the address that begins k bytes below the top of the stack
abbrev pub below_top : Look → ℕ → ℕ → Option (ℕ × ℕ)
below_top l k n = Some (l.number (l.dt - k), n)

-- the bytes that a primitive writes, by the length of the name that it may report, if it has one to report
abbrev pub prim_target : Primitive → List ℕ → Look → Option ℕ → Option (ℕ × ℕ)
prim_target MemoryCopy args l name = below_top l 4 (l.number (l.dt - 6))
prim_target CopyFixed args l name = below_top l 4 (slice_index args 0)
prim_target DelegatorAid args l name = option_map (λ n. (l.number (l.dt - 2), n + 1)) name
prim_target Digest args l name = below_top l 2 20
prim_target (Encipher c) args l name = below_top l 4 (slice_index args 0)
prim_target (Decipher c) args l name = below_top l 4 (slice_index args 0)
prim_target (Sign c) args l name = below_top l 4 (block_len c)
prim_target _ args l name = None

-- the address and the length of what the primitive of a set and a number writes, if it writes
abbrev pub pair_target : Option Primitive → List ℕ → Look → Option ℕ → Option (ℕ × ℕ)
pair_target None args l name = None
pair_target (Some p) args l name = prim_target p args l name

-- the bytes that an instruction writes
abbrev pub target : Ins → Look → Option ℕ → Option (ℕ × ℕ)
target (ins.Store tag off n) l name = placed l tag off n
target (ins.Storei tag off n) l name = pointed l tag off n
target (ins.Setb tag off b) l name = placed l tag off 1
target (ins.Addb tag off b) l name = placed l tag off 1
target (ins.Subb tag off b) l name = placed l tag off 1
target (ins.Setw tag off w) l name = placed l tag off 2
target (ins.Addw tag off w) l name = placed l tag off 2
target (ins.Subw tag off w) l name = placed l tag off 2
target (ins.Clearn tag off n) l name = placed l tag off n
target (ins.Incn tag off n) l name = placed l tag off n
target (ins.Decn tag off n) l name = placed l tag off n
target (ins.Notn tag off n) l name = placed l tag off n
target (ins.Addn tag off n) l name = placed l tag off n
target (ins.Subn tag off n) l name = placed l tag off n
target (ins.Andn tag off n) l name = placed l tag off n
target (ins.Orn tag off n) l name = placed l tag off n
target (ins.Xorn tag off n) l name = placed l tag off n
target (ins.Prim set number args) l name = pair_target (primitive set number) args l name
target _ l name = None

-- bytes, if they are static ones, in a segment of this size
abbrev pub static_only : ℕ → Option (ℕ × ℕ) → Option (ℕ × ℕ)
static_only size None = None
static_only size (Some s) = cond (s.1 == 0) None (cond (nat_le (s.0 + s.1) size) (Some s) None)

-- a frame is seen: of two bytes that lie whole in a segment the number is what is read
pub record Looks (l : Look) (f : Frame) (public : List ℕ) : Type 0 where
  pub size : l.size ≡ length f.fixed
  pub lb : l.lb ≡ f.lb
  pub dt : l.dt ≡ f.dt
  pub number : (a : ℕ) → is_outside f a 2 ≡ false → l.number a ≡ address_at f public a

-- the length of the name of the frame that delegated, if one did, is seen where it is written to static bytes at an
-- address
abbrev pub SeesName : Option ℕ → Option (List ℕ) → ℕ → ℕ → Type 0
SeesName seen None size a = seen ≡ None
SeesName seen (Some name) size a = (n : ℕ) × (seen ≡ Some n) × (nat_le (a + (length name + 1)) size ≡ true → n ≡ length name)
