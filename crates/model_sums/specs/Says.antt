-- What is known for sums says of a state: of the bytes in memory, the public bytes as the frame began, and the sums as
-- the application has them.
use Rattle.std.specs.Prelude.{◌≡◌, ℕ, ◌+◌, ◌%◌, ◌^◌, Bool, true, false, cond, List, [], ◌∷◌, slice_index, Option, Some, None, ⊤}
use Rattle.std.specs.List.{AllByRecursion}
use Rattle.model_prove.specs.model_device.specs.Bytes.{num}
use Rattle.model_prove.specs.model_rules.specs.Rules.{Total}
use Rattle.model_prove.specs.model_rules.specs.Keeping.{Sum, Standing, added_by, taken_by, are_totals}
use Rattle.model_prove.specs.Facts.{Memory}
use Rattle.model_prove.specs.Compares.{bytes_from}
use Rattle.model_sums.specs.Forms.{Form, value}
use Rattle.model_sums.specs.Origins.{Origin, Unknown, ConstantByte, PublicByte, Origins, origin_at}
use Rattle.model_sums.specs.Sums.{More, Sums}

-- the number in the n bytes at an address
abbrev pub number_at : Memory → ℕ → ℕ → ℕ
number_at m a n = num (bytes_from m a n)

-- a byte comes from where an origin says
abbrev pub IsFrom : List ℕ → Origin → ℕ → Type 0
IsFrom first Unknown v = ⊤
IsFrom first (ConstantByte b) v = v ≡ b
IsFrom first (PublicByte p) v = v ≡ slice_index first p

-- bytes come from where origins say
abbrev pub AreFrom : List ℕ → List Origin → List ℕ → Type 0
AreFrom first [] [] = ⊤
AreFrom first [] (b ∷ bs) = ⊥
AreFrom first (o ∷ os) [] = ⊥
AreFrom first (o ∷ os) (b ∷ bs) = IsFrom first o b × AreFrom first os bs

-- each byte in memory does
abbrev pub OriginsHold : Origins → List ℕ → Memory → Type 0
OriginsHold o first m = (a : ℕ) → IsFrom first (origin_at o a) (m a)

-- a loaded block is as much more as is said
abbrev pub MoreHolds : List ℕ → Memory → More → Type 0
MoreHolds first m r = number_at m r.at r.n % 256 ^ r.n ≡ (number_at m r.from r.n + value r.form first) % 256 ^ r.n

-- the block of a total is as much off as is said, if something is
abbrev pub OffHolds : List ℕ → Memory → List Sum → Total → Option Form → Type 0
OffHolds first m sums t None = ⊤
OffHolds first m sums t (Some f) =
    (number_at m t.at t.n + taken_by sums t.terms) % 256 ^ t.n ≡ (t.constant + added_by sums t.terms + value f first) % 256 ^ t.n

-- that of each total is
abbrev pub OffsHold : List ℕ → Memory → List Sum → List Total → List (Option Form) → Type 0
OffsHold first m sums [] os = ⊤
OffsHold first m sums (t ∷ ts) [] = ⊤
OffsHold first m sums (t ∷ ts) (o ∷ os) = OffHolds first m sums t o × OffsHold first m sums ts os

-- What is known holds, where `first` are the public bytes as the frame began.
pub record Holds (ts : List Total) (u : Sums) (first : List ℕ) (m : Memory) (sums : List Sum) : Type 0 where
  pub origins : OriginsHold u.origins first m
  pub mores : AllByRecursion (MoreHolds first m) u.mores
  pub offs : OffsHold first m sums ts u.offs

-- the sums as an application has them, with what waits under protection
abbrev pub read_sums : Bool → Standing → List Sum
read_sums protected s = cond protected s.waiting s.kept

-- What a place says of sums: for some public bytes at the beginning of the frame what is known holds of the bytes that
-- the application reads; and each total holds of the static bytes that power would leave.
pub record SumsHold (ts : List Total) (u : Sums) (protected : Bool) (m : Memory) (fixed : List ℕ) (s : Standing) : Type 0 where
  pub first : List ℕ
  pub holds : Holds ts u first m (read_sums protected s)
  pub kept : are_totals fixed s.kept ts ≡ true

-- ---- totals

-- the block of a total is the number that it is to be
abbrev pub TotalHolds : Memory → List Sum → Total → Type 0
TotalHolds m sums t = (number_at m t.at t.n + taken_by sums t.terms) % 256 ^ t.n ≡ (t.constant + added_by sums t.terms) % 256 ^ t.n

-- that of each total is
abbrev pub TotalsHold : Memory → List Sum → List Total → Type 0
TotalsHold m sums [] = ⊤
TotalsHold m sums (t ∷ ts) = TotalHolds m sums t × TotalsHold m sums ts
