-- What a sum that is moved does to blocks of bytes, one after the other.
use Rattle.std.specs.Prelude.{◌≡◌, ℕ, ◌+◌, ◌*◌, ◌%◌, ◌^◌, Bool, true, false, List, [], ◌∷◌, ◌++◌, drop, length, slice_get, take, Option, Some, None}
use Rattle.model_device.specs.Bytes.{num}
use Rattle.lab_app_rules.specs.declared.rules.Balance.{Balance}
use Rattle.lab_app_rules.specs.declared.rules.Effect.{Effect}
use Rattle.lab_app_rules.specs.declared.rules.Effect.TheVariants as effect
use Rattle.lab_app_rules.specs.declared.rules.On.{On}
use Rattle.lab_app_rules.specs.declared.rules.SignedSum.{SignedSum}
use Rattle.lab_history.specs.declared.course.Deed.{Deed}
use Rattle.lab_history.specs.declared.course.Deed.TheVariants as deed
use Rattle.lab_history.specs.declared.course.Extent.{Extent}
use Rattle.lab_history.specs.declared.course.Happening.{Happening}
use Rattle.lab_history.specs.Blocks.{count_of_added, count_of_taken}
use Rattle.lab_history.specs.Courses.{has_turn}

-- A block in which a sum is moved by k, down if `takes` is true: modulo 256 to the power of its size, k is added for each
-- term that adds then, and taken for each that takes.
pub record IsMoved (terms : List SignedSum) (sum : ℕ) (takes : Bool) (k : ℕ) (old new : List ℕ) : Type 0 where
  pub size : length new ≡ length old
  pub number : (num new + k * count_of_taken terms sum takes) % 256 ^ length old ≡ (num old + k * count_of_added terms sum takes) % 256 ^ length old

-- all blocks after it; what comes after the last one stays
abbrev pub AreMoved : List Balance → ℕ → Bool → ℕ → List ℕ → List ℕ → Type 0
AreMoved [] sum takes k old new = new ≡ old
AreMoved (b ∷ bs) sum takes k old new =
    (block : List ℕ) × (rest : List ℕ) × (new ≡ block ++ rest) × IsMoved b.sums.items sum takes k (take b.n old) block × AreMoved bs sum takes k (drop b.n old) rest

-- ---- along a line

-- whether an effect takes from its sum
abbrev pub takes_from_sum : Effect → Bool
takes_from_sum (effect.Take a) = true
takes_from_sum (effect.Add a) = false
takes_from_sum (effect.Allow k) = false
takes_from_sum (effect.Spend k) = false
takes_from_sum (effect.Need k) = false

-- the sum of an `on` line is moved by k, if there is such a line
abbrev pub IsLineMoved : Option On → List Balance → ℕ → List ℕ → List ℕ → Type 0
IsLineMoved None bs k old new = new ≡ old
IsLineMoved (Some o) bs k old new = AreMoved bs o.name (takes_from_sum o.effect) k old new

-- What an instruction does to the blocks, as power would leave them and with what waits: a sum is moved in what waits, what
-- waits is kept, or it is dropped.
abbrev pub IsDone : List On → List Balance → Deed → List ℕ → List ℕ → List ℕ → List ℕ → Type 0
IsDone ons bs (deed.On i) kept waiting kept' waiting' = (kept' ≡ kept) × (waiting' ≡ waiting)
IsDone ons bs (deed.Sum i number) kept waiting kept' waiting' = (kept' ≡ kept) × IsLineMoved (slice_get ons i) bs (num number.items) waiting waiting'
IsDone ons bs deed.Keep kept waiting kept' waiting' = (kept' ≡ waiting) × (waiting' ≡ waiting)
IsDone ons bs deed.Drop kept waiting kept' waiting' = (kept' ≡ kept) × (waiting' ≡ kept)
IsDone ons bs deed.Abend kept waiting kept' waiting' = (kept' ≡ kept) × (waiting' ≡ waiting)

-- one of two facts, by whether an instruction counts
abbrev pub ByTurn : Bool → Type 0 → Type 0 → Type 0
ByTurn true counts other = counts
ByTurn false counts other = other

-- What the instructions that count do to the blocks, in order: those of a line, up to the first that does not count.
abbrev pub AreDone : List On → List Balance → Extent → List Happening → List ℕ → List ℕ → List ℕ → List ℕ → Type 0
AreDone ons bs e [] kept waiting kept' waiting' = (kept' ≡ kept) × (waiting' ≡ waiting)
AreDone ons bs e (h ∷ hs) kept waiting kept' waiting' =
    ByTurn (has_turn e h.turn) ((k : List ℕ) × (w : List ℕ) × IsDone ons bs h.deed kept waiting k w × AreDone ons bs e hs k w kept' waiting')
    ((kept' ≡ kept) × (waiting' ≡ waiting))
