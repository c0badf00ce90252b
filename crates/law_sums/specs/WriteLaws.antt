-- Laws of writes: what is known holds after bytes were written, popped, loaded and taken as another's.
use Rattle.std.specs.Prelude.{◌≡◌, ◌⊎◌, ℕ, ◌+◌, ◌<◌, ◌≤◌, ◌%◌, ◌^◌, Bool, true, List, length, Option, Some, None, ⊤}
use Rattle.model_sums.specs.model_rules.specs.Rules.{Total}
use Rattle.model_sums.specs.model_rules.specs.Keeping.{Sum}
use Rattle.model_sums.specs.model_prove.specs.Facts.{Memory}
use Rattle.model_sums.specs.model_prove.specs.Compares.{bytes_from}
use Rattle.model_sums.specs.Forms.{Form, value}
use Rattle.model_sums.specs.Origins.{Origin}
use Rattle.model_sums.specs.Sums.{Sums, sums_follow}
use Rattle.model_sums.specs.Says.{number_at, AreFrom, Holds}
use Rattle.model_sums.specs.Writes.{wrote, popped, loaded}

-- the number in n bytes became more by a form, if it is said to
abbrev pub MovesBy : List ℕ → Memory → Memory → ℕ → ℕ → Option Form → Type 0
MovesBy first m k a n None = ⊤
MovesBy first m k a n (Some f) = number_at k a n % 256 ^ n ≡ (number_at m a n + value f first) % 256 ^ n

-- Bytes at an address were written: all others stay, they come from these origins, and their number became more by a
-- form, if it is said to.
pub record Wrote (first : List ℕ) (m k : Memory) (a : ℕ) (gs : List Origin) (by : Option Form) : Type 0 where
  pub stays : (b : ℕ) → (b < a) ⊎ (a + length gs ≤ b) → m b ≡ k b
  pub from : AreFrom first gs (bytes_from k a (length gs))
  pub moves : MovesBy first m k a (length gs) by

-- what is known after a write holds after it
abbrev pub WriteLaw : Type 0
WriteLaw =
    (ts : List Total) (u : Sums) (first : List ℕ) (m k : Memory) (sums : List Sum) (a : ℕ) (gs : List Origin) (by : Option Form) → Wrote first m k a gs by
    → Holds ts u first m sums → Holds ts (wrote ts a gs by u) first k sums

-- what is known where less is on the stack holds
abbrev pub PopLaw : Type 0
PopLaw = (ts : List Total) (u : Sums) (first : List ℕ) (m : Memory) (sums : List Sum) (dt : ℕ) → Holds ts u first m sums → Holds ts (popped dt u) first m sums

-- what is known after a block was loaded holds where the bytes are the same
abbrev pub LoadLaw : Type 0
LoadLaw =
    (ts : List Total) (u : Sums) (first : List ℕ) (m : Memory) (sums : List Sum) (b : Bool) (to from n : ℕ) → bytes_from m to n ≡ bytes_from m from n
    → Holds ts u first m sums → Holds ts (loaded b to from n u) first m sums

-- what follows from what holds does
abbrev pub FollowLaw : Type 0
FollowLaw =
    (ts : List Total) (u v : Sums) (first : List ℕ) (m : Memory) (sums : List Sum) → sums_follow ts u v ≡ true → Holds ts u first m sums → Holds ts v first m sums
