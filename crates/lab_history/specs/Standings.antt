-- What is counted of an application, and what its static bytes break.
use Rattle.std.specs.Prelude.{◌≡◌, ℕ, ◌+◌, ◌%◌, ◌^◌, Bool, cond, ◌&&◌, nat_le, nat_lt, List, [], ◌∷◌, ◌++◌, bytes_eq, drop, length, slice_index_or, take, Option, Some, None}
use Rattle.model_device.specs.Bytes.{num}
use Rattle.lab_app_rules.specs.declared.rules.Always.{Always}
use Rattle.lab_app_rules.specs.declared.rules.Balance.{Balance}
use Rattle.lab_app_rules.specs.declared.rules.Named.{Named}
use Rattle.lab_history.specs.declared.standing.Break.{Break}
use Rattle.lab_history.specs.declared.standing.Break.TheVariants as broken
use Rattle.lab_history.specs.Blocks.{added_by, taken_by}

-- ---- blocks, one after the other

-- those of static bytes
abbrev pub blocks_of : List ℕ → List Balance → List ℕ
blocks_of fixed [] = []
blocks_of fixed (b ∷ bs) = take b.n (drop b.at fixed) ++ blocks_of fixed bs

-- A block as the application is created: its constant, and what its terms add and take, modulo 256 ^ n.
pub record IsFirst (sums : List Named) (b : Balance) (block : List ℕ) : Type 0 where
  pub size : length block ≡ b.n
  pub number : (num block + taken_by sums b.sums.items) % 256 ^ b.n ≡ (b.constant + added_by sums b.sums.items) % 256 ^ b.n

-- all blocks as the application is created
abbrev pub AreFirst : List Named → List Balance → List ℕ → Type 0
AreFirst sums [] blocks = blocks ≡ []
AreFirst sums (b ∷ bs) blocks = IsFirst sums b (take b.n blocks) × AreFirst sums bs (drop b.n blocks)

-- ---- what always holds

-- whether a static byte is in the range of a line; of too few bytes, the byte is 0
abbrev pub is_within : List ℕ → Always → Bool
is_within fixed a = nat_le a.low (slice_index_or fixed a.at 0) && nat_le (slice_index_or fixed a.at 0) a.high

-- The first range that static bytes break, from the one with an index on: its line and its number, or none if all hold.
abbrev pub first_range : List ℕ → List Always → ℕ → Option (ℕ × Break)
first_range fixed [] i = None
first_range fixed (a ∷ rest) i = cond (is_within fixed a) (first_range fixed rest (i + 1)) (Some (a.line, broken.Range i))

-- a range was found
abbrev pub IsFirstRange : List ℕ → List Always → Option (ℕ × Break) → Type 0
IsFirstRange fixed ranges o = o ≡ first_range fixed ranges 0

-- the first block that is not what it is to be, from the one with an index on
abbrev pub first_block : List ℕ → List Balance → List ℕ → ℕ → Option (ℕ × Break)
first_block fixed [] blocks i = None
first_block fixed (b ∷ bs) blocks i =
    cond (bytes_eq (take b.n (drop b.at fixed)) (take b.n blocks)) (first_block fixed bs (drop b.n blocks) (i + 1)) (Some (b.line, broken.Block i))

-- a block was found
abbrev pub IsFirstBlock : List ℕ → List Balance → List ℕ → Option (ℕ × Break) → Type 0
IsFirstBlock fixed balances blocks o = o ≡ first_block fixed balances blocks 0

-- the one of the two whose line comes first
abbrev pub first_of : Option (ℕ × Break) → Option (ℕ × Break) → Option Break
first_of None None = None
first_of None (Some b) = Some b.1
first_of (Some a) None = Some a.1
first_of (Some a) (Some b) = Some (cond (nat_lt a.0 b.0) a.1 b.1)

-- the first `always` line that static bytes break, by the blocks that are kept
abbrev pub IsFirstBroken : List Always → List Balance → List ℕ → List ℕ → Option Break → Type 0
IsFirstBroken ranges balances blocks fixed o = o ≡ first_of (first_range fixed ranges 0) (first_block fixed balances blocks 0)
