-- Rows whose deciding bytes have too many combinations: what is read has no fact, and a write takes away the facts of all
-- bytes that one of the addresses with one of the lengths could reach, whole in a segment.
use Rattle.std.specs.Prelude.{ℕ, zero, suc, ◌+◌, ◌-◌, ◌*◌, ◌/◌, ◌%◌, Bool, true, false, cond, not, ◌&&◌, ◌||◌, nat_lt, nat_le, ◌==◌, List, [], ◌∷◌, ◌++◌, length, map, flat_map, filter, replicate, slice_index, Option, Some, None}
use Rattle.model_rules.specs.model_machine.specs.declared.instruction.Ins.{Ins}
use Rattle.model_rules.specs.model_machine.specs.declared.instruction.Ins.TheVariants as ins
use Rattle.model_rules.specs.model_machine.specs.declared.machine.Abend.{Abend}
use Rattle.model_rules.specs.model_machine.specs.declared.machine.Abend.TheVariants.{A03, A06}
use Rattle.model_rules.specs.model_machine.specs.Frame.{Frame, is_outside}
use Rattle.model_rules.specs.model_machine.specs.Primitives.{Primitive, CheckCase, LoadCcr, StoreCcr, Lookup, MemoryCompare, MemoryCopy, DelegateTo, DelegatorAid, Digest, CompareFixed, CopyFixed, SetProtection, Encipher, Decipher, Sign, BitByte, ShiftLeft, ShiftRight, BitWord, primitive, block_len}
use Rattle.model_rules.specs.model_machine.specs.Row.{operand, address_or_zero}
use Rattle.model_prove.specs.Sets.{Set, is_in, numbers_from, all_bytes}
use Rattle.model_prove.specs.Facts.{Facts, values_at}
use Rattle.model_prove.specs.Compares.{Compare, NoCompare, Bounds, Ordered}
use Rattle.model_prove.specs.Keys.{Call}

-- ---- what is reached

-- An access of one of some lengths at one of the addresses that two bytes may be.
pub record Reach : Type 0 where
  pub high : Set
  pub low : Set
  pub lengths : List ℕ

-- whether n bytes from one of the addresses, whole in a segment, may have a byte at a place less than d after it
abbrev pub is_reached_within : Frame → Reach → ℕ → ℕ → ℕ → Bool
is_reached_within f r n a zero = false
is_reached_within f r n a (suc d) =
    (nat_le d a && is_in ((a - d) / 256) r.high && is_in ((a - d) % 256) r.low && not (is_outside f (a - d) n))
    || is_reached_within f r n a d

-- whether a byte may be reached with one of the lengths
abbrev pub is_reached_by : Frame → Reach → List ℕ → ℕ → Bool
is_reached_by f r [] a = false
is_reached_by f r (n ∷ ns) a = is_reached_within f r n a n || is_reached_by f r ns a

-- whether a byte may be reached
abbrev pub is_reached : Frame → Reach → ℕ → Bool
is_reached f r a = is_reached_by f r r.lengths a

-- whether one of n bytes may be
abbrev pub some_reached : Frame → Reach → ℕ → ℕ → Bool
some_reached f r a zero = false
some_reached f r a (suc n) = is_reached f r a || some_reached f r (suc a) n

-- the facts of bytes that are not reached
abbrev pub facts_not_reached : Frame → Reach → Facts → Facts
facts_not_reached f r facts = filter (λ e. not (is_reached f r e.0)) facts

-- the last compare, unless one of its bytes is reached
abbrev pub compare_not_reached : Frame → Reach → Compare → Compare
compare_not_reached f r NoCompare = NoCompare
compare_not_reached f r (Bounds a n l h) = cond (some_reached f r a n) NoCompare (Bounds a n l h)
compare_not_reached f r (Ordered a n c o) = cond (some_reached f r a n || some_reached f r c n) NoCompare (Ordered a n c o)

-- the open calls if one of those within reach is hit, or none
abbrev pub calls_hit : Frame → Reach → List Call → List (List Call)
calls_hit f r [] = [] ∷ []
calls_hit f r (c ∷ cs) = (cond (some_reached f r (c.dt - 4) 4) ([] ∷ []) []) ++ map (λ rest. c ∷ rest) (calls_hit f r cs)

-- ---- what a row does

-- What a row of too many combinations does: it pushes bytes without a fact, sets C and Z any way over top bytes without a
-- fact, compares, searches, writes within a reach, or delegates.
pub data Coarse : Type 0 where
  PushesAny : (n : ℕ) → Coarse
  Shifts : (n : ℕ) → Coarse
  Compares : Coarse
  Searches : Coarse
  WritesWithin : (reach : Reach) → Coarse
  Leads : Coarse

-- the addresses that the two bytes at a place may be, with some lengths
abbrev pub reach_at : Facts → ℕ → List ℕ → Reach
reach_at f a ns = record { high = values_at f a; low = values_at f (suc a); lengths = ns }

-- the lengths that the two bytes at a place may be, from 1 to 255
abbrev pub lengths_at : Facts → ℕ → List ℕ
lengths_at f a = cond (is_in 0 (values_at f a)) (filter (λ v. nat_lt 0 v) (values_at f (suc a))) []

-- what a primitive does
abbrev pub prim_coarse : Primitive → List ℕ → Frame → Facts → Coarse
prim_coarse Lookup args f k = Searches
prim_coarse MemoryCompare args f k = Compares
prim_coarse CompareFixed args f k = Compares
prim_coarse MemoryCopy args f k = WritesWithin (reach_at k (f.dt - 4) (lengths_at k (f.dt - 6)))
prim_coarse CopyFixed args f k = WritesWithin (reach_at k (f.dt - 4) (slice_index args 0 ∷ []))
prim_coarse DelegatorAid args f k = WritesWithin (reach_at k (f.dt - 2) (numbers_from 6 12))
prim_coarse Digest args f k = WritesWithin (reach_at k (f.dt - 2) (20 ∷ []))
prim_coarse (Encipher c) args f k = WritesWithin (reach_at k (f.dt - 4) (slice_index args 0 ∷ []))
prim_coarse (Decipher c) args f k = WritesWithin (reach_at k (f.dt - 4) (slice_index args 0 ∷ []))
prim_coarse (Sign c) args f k = WritesWithin (reach_at k (f.dt - 4) (block_len c ∷ []))
prim_coarse ShiftLeft args f k = Shifts (slice_index args 0)
prim_coarse ShiftRight args f k = Shifts (slice_index args 0)
prim_coarse p args f k = Leads

-- what a pair of set and number does
abbrev pub pair_coarse : Option Primitive → List ℕ → Frame → Facts → Coarse
pair_coarse None args f k = Leads
pair_coarse (Some p) args f k = prim_coarse p args f k

-- what each row does
abbrev pub coarse : Ins → Frame → Facts → Coarse
coarse (ins.Loadi tag off n) f k = PushesAny n
coarse (ins.Index tag off size) f k = PushesAny 2
coarse (ins.Storei tag off n) f k = WritesWithin (reach_at k (address_or_zero (operand f tag off (n + 2))) (n ∷ []))
coarse (ins.Prim set number args) f k = pair_coarse (primitive set number) args f k
coarse i f k = Leads

-- whether a length that was read may be out of its range, abend 06
abbrev pub may_have_bad_length : Option Primitive → Bool
may_have_bad_length (Some MemoryCompare) = true
may_have_bad_length (Some MemoryCopy) = true
may_have_bad_length (Some Digest) = true
may_have_bad_length (Some DelegateTo) = true
may_have_bad_length p = false

-- whether a primitive delegates
abbrev pub is_delegation : Option Primitive → Bool
is_delegation (Some DelegateTo) = true
is_delegation p = false

-- whether a row can abend with 03: not a shift, and of those that only lead on a delegation
abbrev pub may_miss : Option Primitive → Coarse → Bool
may_miss p (Shifts n) = false
may_miss p Leads = is_delegation p
may_miss p c = true

-- whether a cause is decided by the key: all but 03, and 06 of a length that was read
abbrev pub is_known_cause : Bool → Abend → Bool
is_known_cause bad_length A03 = false
is_known_cause bad_length A06 = not bad_length
is_known_cause bad_length cause = true

-- the causes that the key decides
abbrev pub known_causes : Bool → List (Abend × Bool) → List (Abend × Bool)
known_causes bad_length cs = filter (λ c. is_known_cause bad_length c.0) cs

-- ---- jumps to an address from the stack

-- the greatest value of a set, in whatever order a table has them
abbrev pub greatest_value : Set → ℕ
greatest_value [] = 0
greatest_value (v ∷ vs) =
    let rest = greatest_value vs in
    cond (nat_lt rest v) v rest

-- the choice of the two bytes at a place that are this address
abbrev pub address_choice : ℕ → ℕ → List (ℕ × ℕ)
address_choice a v = (a, v / 256) ∷ (suc a, v % 256) ∷ []

-- each address below a limit that the two bytes at a place may be, and one that is not below it, if there is one
abbrev pub target_choices : Facts → ℕ → ℕ → List (List (ℕ × ℕ))
target_choices f a limit =
    let high = values_at f a in
    let low = values_at f (suc a) in
    let most = greatest_value high * 256 + greatest_value low in
    map (address_choice a) (filter (λ v. is_in (v / 256) high && is_in (v % 256) low) (numbers_from 0 limit))
    ++ (cond (nat_le limit most) (address_choice a most ∷ []) [])

-- whether an instruction takes its target from the stack
abbrev pub takes_target : Ins → Bool
takes_target (ins.Jump k to) = k == 0
takes_target (ins.Call k to) = k == 0
takes_target i = false
