-- The effects of primitives, and how the calls that they share end.
use Rattle.std.specs.Prelude.{◌≡◌, ℕ, ◌+◌, ◌≤◌, Bool, true, false, List, [], ◌∷◌, length, ◌||◌, Option, None, Result, Ok, Err}
use Rattle.model_machine.specs.declared.machine.Abend.{Abend}
use Rattle.model_machine.specs.declared.machine.Abend.TheVariants.{A03, A04, A06}
use Rattle.model_machine.specs.model_device.specs.Orders.{Answer}
use Rattle.mc_bank.specs.model_card.specs.Items.{BankItem}
use Rattle.model_machine.specs.Blocks.{sub_blocks}
use Rattle.model_machine.specs.Frame.{Frame, is_under, frame_after_pop, top, is_outside, bytes_at}
use Rattle.model_machine.specs.Primitives.{Around, Primitive, Done, effect_and_next, comparison_effect, in_range, count_at, later_causes, prim_effect}
use Rattle.model_machine.specs.Row.{first_cause, row_end}
use Rattle.mc_bank.specs.Bank.{BankState}
use Rattle.mc_segs.specs.HeldFrames.{Held}
use Rattle.mc_segs.specs.Ends.{Scene, before, EndActs}
use Rattle.mc_segs.specs.declared.ends.Halt.{Halt}
use Rattle.mc_segs.specs.declared.ends.Next.{Next}
use Rattle.mc_bank.specs.declared.bank.Bank.{Ghosts}

-- some surroundings, for primitives that do not depend on them
abbrev pub alone : Around
alone = record { case = 0; delegator = None }

-- the result of a call is the abend of the first cause that holds, and else the effect `done`
abbrev pub CausesAct : {B : Type 0} → Ghosts B → Scene B → List (Abend × Bool) → Done → Result Next Halt → Type 0
CausesAct ghosts s causes done r = EndActs ghosts s (row_end (first_cause causes) done) r

-- the result of a call is that of a primitive whose argument bytes are good and which is not denied
abbrev pub PrimActs : {B : Type 0} → Ghosts B → Scene B → Primitive → List ℕ → Around → Result Next Halt → Type 0
PrimActs ghosts s p args x r =
    let f = before ghosts s in
    CausesAct ghosts s (later_causes p args f s.public x) (prim_effect p args f s.public x) r

-- the top n bytes were popped and have this value, and n bytes have room on the stack again; abend 04 if the stack has
-- fewer, and then only registers have changed
abbrev pub Pops : {A : Type 0} → Result A Abend → A → ℕ → Held → Held → Type 0
Pops (Ok v) value n h k = (is_under h.frame n ≡ false) × (v ≡ value) × (k ≡ record h { frame = frame_after_pop h.frame n }) × (k.frame.dt + n ≤ 0x8200)
Pops (Err a) value n h k = (is_under h.frame n ≡ true) × (a ≡ A04) × (k.frame.dyn ≡ h.frame.dyn) × (k.frame.session ≡ h.frame.session)

-- the top n bytes were popped into an array, and n bytes have room on the stack again; abend 04 if the stack has fewer
abbrev pub PopsInto : Result (Unit {0}) Abend → ℕ → Held → Held → List ℕ → Type 0
PopsInto (Ok u) n h k into = (is_under h.frame n ≡ false) × (into ≡ top h.frame n) × (k ≡ record h { frame = frame_after_pop h.frame n }) × (k.frame.dt + n ≤ 0x8200)
PopsInto (Err a) n h k into = (is_under h.frame n ≡ true) × (a ≡ A04) × (k ≡ h)

-- the n bytes at an address were read; abend 03 if they do not lie whole in a segment
abbrev pub ReadsBytes : Result (List ℕ) Abend → Frame → List ℕ → ℕ → ℕ → Type 0
ReadsBytes (Ok b) f public a n = (is_outside f a n ≡ false) × (b ≡ bytes_at f public a n) × (length b ≡ n)
ReadsBytes (Err e) f public a n = (is_outside f a n ≡ true) × (e ≡ A03)

-- the byte at an address was read, and the address after it; abend 03 if it is in no segment
abbrev pub ReadsCount : Result (ℕ × ℕ) Abend → Frame → List ℕ → ℕ → Type 0
ReadsCount (Ok c) f public a = (is_outside f a 1 ≡ false) × (c.0 ≡ count_at f public a) × (c.1 ≡ a + 1)
ReadsCount (Err e) f public a = (is_outside f a 1 ≡ true) × (e ≡ A03)

-- a length from 1 to 255; any other is abend 06
abbrev pub IsLength : Result ℕ Abend → ℕ → Type 0
IsLength (Ok n) len = (in_range 1 255 len ≡ true) × (n ≡ len)
IsLength (Err e) len = (in_range 1 255 len ≡ false) × (e ≡ A06)

-- the causes of abends of a comparison of n bytes
abbrev pub compare_causes : Frame → ℕ → ℕ → ℕ → List (Abend × Bool)
compare_causes g n first second = (A03, is_outside g first n || is_outside g second n) ∷ []

-- the effect of a comparison of n bytes: the flags of their difference
abbrev pub flags_compared : Frame → List ℕ → ℕ → ℕ → ℕ → Done
flags_compared g public n first second = effect_and_next (comparison_effect g public (sub_blocks (bytes_at g public first n) (bytes_at g public second n)))
