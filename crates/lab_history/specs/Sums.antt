-- Blocks that sums bind, in the terms of the definition: sums by their names, each with what was added and what was taken.
use Rattle.std.specs.Prelude.{◌≡◌, ℕ, ◌+◌, ◌%◌, ◌^◌, ◌<◌, Bool, not, List, [], ◌∷◌, length, map, slice_get, unwrap_or, Some, ⊤}
use Rattle.model_device.specs.Bytes.{num}
use Rattle.lab_app_rules.specs.model_rules.specs.Rules.{SumLine}
use Rattle.lab_app_rules.specs.model_rules.specs.Keeping.{Sum, added_by, after_sum_line, amount_in, taken_by}
use Rattle.lab_app_rules.specs.declared.rules.SignedSum.{SignedSum}
use Rattle.lab_app_rules.specs.Rules.{AreDistinct}
use Rattle.lab_history.specs.Moves.{IsMoved}

-- the names of sums
abbrev pub names_of : List Sum → List (List ℕ)
names_of sums = map (λ s. s.name) sums

-- terms by the names of their sums, each added (true) or taken
abbrev pub terms_by : List (List ℕ) → List SignedSum → List (Bool × List ℕ)
terms_by names [] = []
terms_by names (t ∷ ts) = (not t.minus, unwrap_or (slice_get names t.sum) []) ∷ terms_by names ts

-- each term has a sum
abbrev pub AreWithin : ℕ → List SignedSum → Type 0
AreWithin n [] = ⊤
AreWithin n (t ∷ ts) = (t.sum < n) × AreWithin n ts

-- A block is a constant and what terms make of sums, modulo 256 to the power of its size; `is_total` of the definition asks
-- it of static bytes.
abbrev pub IsSummed : List Sum → List (Bool × List ℕ) → ℕ → List ℕ → Type 0
IsSummed sums terms constant block = (num block + taken_by sums terms) % 256 ^ length block ≡ (constant + added_by sums terms) % 256 ^ length block

-- If a sum is moved in a block that is what sums make of it, it is what the sums make of it after an `on` line that moves
-- this sum, if no two have one name.
abbrev pub SumLaw : Type 0
SumLaw = (sums : List Sum) (l : SumLine) (public : List ℕ) (ts : List SignedSum) (place : ℕ) (takes : Bool) (constant : ℕ) (old new : List ℕ)
    → AreDistinct (names_of sums) → slice_get (names_of sums) place ≡ Some l.name → AreWithin (length sums) ts → l.adds ≡ not takes
    → IsMoved ts place takes (amount_in public l.amount) old new → IsSummed sums (terms_by (names_of sums) ts) constant old
    → IsSummed (after_sum_line l public sums) (terms_by (names_of sums) ts) constant new
