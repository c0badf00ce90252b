-- The frame that stands for all of a place, and the bytes that decide an address, a length or an index of its
-- instruction: each combination of their values is followed by itself, with the machine's own rows.
use Rattle.std.specs.Prelude.{ℕ, zero, suc, ◌+◌, ◌-◌, ◌*◌, Bool, true, false, cond, not, ◌&&◌, ◌||◌, nat_lt, nat_le, ◌==◌, min, List, [], ◌∷◌, ◌++◌, length, map, flat_map, filter, slice_index, unwrap_or, Option, Some, None}
use Rattle.model_rules.specs.model_machine.specs.declared.instruction.Ins.{Ins}
use Rattle.model_rules.specs.model_machine.specs.declared.instruction.Ins.TheVariants as ins
use Rattle.model_rules.specs.model_device.specs.Bytes.{bytes2, zeros, splice}
use Rattle.model_rules.specs.model_device.specs.Card.{App}
use Rattle.model_rules.specs.model_machine.specs.Frame.{Frame, dynamic_base, public_base, public_end, address_at}
use Rattle.model_rules.specs.model_machine.specs.Primitives.{Primitive, CheckCase, LoadCcr, StoreCcr, Lookup, MemoryCompare, MemoryCopy, DelegateTo, DelegatorAid, Digest, CompareFixed, CopyFixed, SetProtection, Encipher, Decipher, Sign, BitByte, ShiftLeft, ShiftRight, BitWord, primitive, number_below_top}
use Rattle.model_rules.specs.model_machine.specs.Row.{operand}
use Rattle.model_prove.specs.Sets.{Set, numbers_from}
use Rattle.model_prove.specs.Facts.{Facts, values_at}
use Rattle.model_prove.specs.Keys.{PlaceKey, Start, Delegated, OfClass, Call}

-- ---- the frame of a place

-- a frame and the public segment around it
pub record Scene : Type 0 where
  pub frame : Frame
  pub public : List ℕ

-- the dynamic bytes of a place: zeros, but for what the newest call has saved
abbrev pub stand_in_stack : List Call → List ℕ
stand_in_stack [] = zeros 512
stand_in_stack (c ∷ cs) = splice (zeros 512) (c.dt - 4 - dynamic_base) (bytes2 c.lb ++ bytes2 c.at)

-- The frame that stands for those of a place: its registers are those of the key, its bytes zeros.
abbrev pub stand_in : App → PlaceKey → Scene
stand_in app k =
    record {
      frame = record {
        name = [];
        code_len = length app.code;
        session = app.session;
        deny = app.deny;
        fixed = zeros (length app.fixed);
        pieces = [];
        dyn = stand_in_stack k.calls;
        dt = k.dt;
        lb = k.lb;
        at = k.at;
        c = k.c;
        z = k.z;
        protected = k.protected;
      };
      public = zeros (public_end - public_base);
    }

-- a byte of a scene has this value
abbrev pub with_byte : Scene → ℕ × ℕ → Scene
with_byte s e =
    cond (nat_lt e.0 (length s.frame.fixed)) (record s { frame = record s.frame { fixed = splice s.frame.fixed e.0 (e.1 ∷ []) } }) (
    cond (nat_lt e.0 public_base) (record s { frame = record s.frame { dyn = splice s.frame.dyn (e.0 - dynamic_base) (e.1 ∷ []) } })
    (record s { public = splice s.public (e.0 - public_base) (e.1 ∷ []) })
    )

-- bytes of a scene have these values
abbrev pub with_values : Scene → List (ℕ × ℕ) → Scene
with_values s [] = s
with_values s (e ∷ es) = with_values (with_byte s e) es

-- ---- the bytes that decide

-- n addresses from one on, if there is one
abbrev pub places_from : Option ℕ → ℕ → List ℕ
places_from None n = []
places_from (Some a) n = numbers_from a n

-- the top n bytes of the stack
abbrev pub top_places : Frame → ℕ → List ℕ
top_places f n = numbers_from (f.dt - n) n

-- the bytes that decide a primitive: addresses and lengths on the stack, and a value where it decides a cause or flags
abbrev pub prim_deciders : Primitive → List ℕ → Frame → List ℕ
prim_deciders CheckCase args f = top_places f 1
prim_deciders LoadCcr args f = []
prim_deciders StoreCcr args f = top_places f 1
prim_deciders Lookup args f = top_places f 2
prim_deciders MemoryCompare args f = top_places f 6
prim_deciders MemoryCopy args f = top_places f 6
prim_deciders DelegateTo args f = top_places f 2
prim_deciders DelegatorAid args f = top_places f 2
prim_deciders Digest args f = top_places f 6
prim_deciders CompareFixed args f = top_places f 4
prim_deciders CopyFixed args f = top_places f 4
prim_deciders SetProtection args f = []
prim_deciders (Encipher c) args f = top_places f 6
prim_deciders (Decipher c) args f = top_places f 6
prim_deciders (Sign c) args f = top_places f 8
prim_deciders BitByte args f = []
prim_deciders ShiftLeft args f = top_places f (slice_index args 0)
prim_deciders ShiftRight args f = top_places f (slice_index args 0)
prim_deciders BitWord args f = []

-- those of a pair of set and number
abbrev pub pair_deciders : Option Primitive → List ℕ → Frame → List ℕ
pair_deciders None args f = []
pair_deciders (Some p) args f = prim_deciders p args f

-- the bytes whose values decide an address, a length, an index or a place
abbrev pub deciders : Ins → Frame → List ℕ
deciders (ins.Jump k to) f = cond (k == 0) (top_places f 2) []
deciders (ins.Call k to) f = cond (k == 0) (top_places f 2) []
deciders (ins.Loadi tag off n) f = places_from (operand f tag off 2) 2
deciders (ins.Storei tag off n) f = places_from (operand f tag off (n + 2)) 2
deciders (ins.Index tag off size) f = cond (tag == 0) (top_places f 3) (top_places f 1)
deciders (ins.Prim set number args) f = pair_deciders (primitive set number) args f
deciders i f = []

-- the length byte at the address that a search or a delegation has on the stack
abbrev pub count_deciders : Option Primitive → Frame → List ℕ
count_deciders (Some Lookup) f = number_below_top f 2 ∷ []
count_deciders (Some DelegateTo) f = number_below_top f 2 ∷ []
count_deciders p f = []

-- the bytes that decide besides, once those are known
abbrev pub later_deciders : Ins → Frame → List ℕ
later_deciders (ins.Prim set number args) f = count_deciders (primitive set number) f
later_deciders i f = []

-- ---- combinations

-- values of some bytes
abbrev pub Choice : Type 0
Choice = List (ℕ × ℕ)

-- each value of a byte before each of some choices
abbrev pub before_choices : ℕ → Set → List Choice → List Choice
before_choices a s cs = flat_map (λ v. map (λ c. (a, v) ∷ c) cs) s

-- all combinations of the values of some bytes
abbrev pub combinations : Facts → List ℕ → List Choice
combinations f [] = [] ∷ []
combinations f (a ∷ places) = before_choices a (values_at f a) (combinations f places)

-- the number of combinations; a byte has at most 256 values, however many a table lists
abbrev pub count_of_combinations : Facts → List ℕ → ℕ
count_of_combinations f [] = 1
count_of_combinations f (a ∷ places) = min 256 (length (values_at f a)) * count_of_combinations f places

-- the most combinations that are followed by themselves
abbrev pub most_combinations : ℕ
most_combinations = 256

-- the combinations, unless there are too many
abbrev pub few_if : Bool → List Choice → Option (List Choice)
few_if true all = Some all
few_if false all = None

-- the combinations of some bytes, if there are at most 256
abbrev pub few_combinations : Facts → List ℕ → Option (List Choice)
few_combinations f places =
    let all = combinations f places in
    few_if (nat_le (count_of_combinations f places) most_combinations) all
