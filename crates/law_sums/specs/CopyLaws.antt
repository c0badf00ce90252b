-- Laws of copies and operations: a loaded block that is copied over its own moves it by as much as it is more, and an
-- addition or a subtraction moves its first operand by what the second is.
use Rattle.std.specs.Prelude.{◌≡◌, ◌⊎◌, ℕ, ◌+◌, ◌<◌, ◌≤◌, ◌%◌, ◌^◌, List, ⊤}
use Rattle.model_sums.specs.model_device.specs.Bytes.{num}
use Rattle.model_sums.specs.model_rules.specs.Rules.{Total}
use Rattle.model_sums.specs.model_rules.specs.Keeping.{Sum}
use Rattle.model_sums.specs.model_prove.specs.Facts.{Memory}
use Rattle.model_sums.specs.model_prove.specs.Compares.{bytes_from}
use Rattle.model_sums.specs.model_prove.specs.Digits.{Operation, Plus, Minus, And, Or, Xor}
use Rattle.model_sums.specs.model_prove.specs.Work.{Operand, AtAddress, These, Digitwise}
use Rattle.model_sums.specs.Origins.{origins_from, unknowns}
use Rattle.model_sums.specs.Sums.{Sums}
use Rattle.model_sums.specs.Says.{number_at, Holds}
use Rattle.model_sums.specs.Writes.{wrote, popped, more_of}
use Rattle.model_sums.specs.Operations.{moved_by, form_of_operand}

-- What is known after bytes were copied to an address, and DT was lowered, holds.
abbrev pub CopyLaw : Type 0
CopyLaw =
    (ts : List Total) (u : Sums) (first : List ℕ) (m k : Memory) (sums : List Sum) (dt to from n : ℕ) → ((b : ℕ) → (b < to) ⊎ (to + n ≤ b) → m b ≡ k b)
    → bytes_from k to n ≡ bytes_from m from n → Holds ts u first m sums
    → Holds ts (wrote ts to (origins_from u.origins from n) (more_of u.mores from to n) (popped dt u)) first k sums

-- the bytes of an operand
abbrev pub operand_bytes : Memory → ℕ → Operand → List ℕ
operand_bytes m n (AtAddress a) = bytes_from m a n
operand_bytes m n (These b) = b

-- a number after an operation, of one before it and a second operand, modulo 256 ^ n
abbrev pub IsResult : Operation → ℕ → ℕ → ℕ → ℕ → Type 0
IsResult Plus n x y r = r % 256 ^ n ≡ (x + y) % 256 ^ n
IsResult Minus n x y r = (r + y) % 256 ^ n ≡ x % 256 ^ n
IsResult And n x y r = ⊤
IsResult Or n x y r = ⊤
IsResult Xor n x y r = ⊤

-- What is known after an operation was written over its first operand holds.
abbrev pub OperationLaw : Type 0
OperationLaw =
    (ts : List Total) (u : Sums) (first : List ℕ) (m k : Memory) (sums : List Sum) (d : Digitwise) → ((b : ℕ) → (b < d.at) ⊎ (d.at + d.n ≤ b) → m b ≡ k b)
    → IsResult d.op d.n (number_at m d.at d.n) (num (operand_bytes m d.n d.operand)) (number_at k d.at d.n) → Holds ts u first m sums
    → Holds ts (wrote ts d.at (unknowns d.n) (moved_by d.op d.n (form_of_operand u.origins d.n d.operand)) u) first k sums
