-- Laws of what is known: joining and rounding only weaken it, and the last compare holds until a byte of it is touched.
use Rattle.std.specs.Prelude.{◌≡◌, ◌⊎◌, ℕ, suc, ◌+◌, ◌<◌, ◌≤◌, true, List, [], ◌∷◌, length, ⊤}
use Rattle.model_prove.specs.Sets.{Set, is_in}
use Rattle.model_rules.specs.Rules.{Range}
use Rattle.model_prove.specs.Facts.{Facts, know_all, join, follow, Memory, Holds}
use Rattle.model_prove.specs.Splits.{Choice, combinations}
use Rattle.model_prove.specs.Compares.{Compare, join_compare, touched, IsSo}
use Rattle.model_prove.specs.Between.{rounded}

-- each address holds a byte
abbrev pub HoldsBytes : Memory → Type 0
HoldsBytes m = (a : ℕ) → m a < 256

-- a list has an element
abbrev pub Among : {A : Type 0} → A → List A → Type 0
Among x [] = ⊥
Among x (y ∷ ys) = (y ≡ x) ⊎ Among x ys

-- the values of some bytes in a state
abbrev pub values_in : Memory → List ℕ → Choice
values_in m [] = []
values_in m (a ∷ bs) = (a, m a) ∷ values_in m bs

-- the bytes from an address on are of these sets
abbrev pub AreIn : Memory → ℕ → List Set → Type 0
AreIn m a [] = ⊤
AreIn m a (s ∷ ss) = (is_in (m a) s ≡ true) × AreIn m (suc a) ss

-- The values that the deciding bytes have are one of their combinations, so that one of the outcomes is that of the
-- machine.
abbrev pub SplitLaw : Type 0
SplitLaw = (f : Facts) (bs : List ℕ) (m : Memory) → Holds f m → HoldsBytes m → Among (values_in m bs) (combinations f bs)

-- facts hold after bytes of some sets were written at an address
abbrev pub WriteLaw : Type 0
WriteLaw =
    (a : ℕ) (ss : List Set) (f : Facts) (m k : Memory) → ((b : ℕ) → (b < a) ⊎ (a + length ss ≤ b) → m b ≡ k b) → AreIn k a ss → Holds f m
    → Holds (know_all a ss f) k

-- what holds of one of two states holds of both joined
pub record JoinLaw : Type 0 where
  pub first : (f g : Facts) (m : Memory) → Holds f m → Holds (join f g) m
  pub second : (f g : Facts) (m : Memory) → Holds g m → Holds (join f g) m

-- what holds of a state holds of it rounded
abbrev pub RoundLaw : Type 0
RoundLaw = (rs : List Range) (f : Facts) (m : Memory) → Holds f m → Holds (rounded rs f) m

-- facts that follow from those of a state hold of it, whose bytes are below 256
abbrev pub FollowLaw : Type 0
FollowLaw = (f g : Facts) (m : Memory) → follow f g ≡ true → Holds f m → ((a : ℕ) → m a < 256) → Holds g m

-- what the last compare of one of two states says is so when they are joined; and it is so of a state of which n bytes at
-- an address were changed
pub record CompareLaw : Type 0 where
  pub first : (c d : Compare) (m : Memory) → IsSo c m → IsSo (join_compare c d) m
  pub second : (c d : Compare) (m : Memory) → IsSo d m → IsSo (join_compare c d) m
  pub touched : (b n : ℕ) (c : Compare) (m k : Memory) → ((a : ℕ) → (a < b) ⊎ (b + n ≤ a) → m a ≡ k a) → IsSo c m → IsSo (touched b n c) k
