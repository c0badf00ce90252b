-- Runs of addresses whose bytes differ.
use Rattle.std.specs.Prelude.{ℕ, ◌+◌, Bool, true, false, cond, ◌==◌, List, [], ◌∷◌}

-- a byte at an address before runs of bytes: it is of the first run if that begins right after it
abbrev pub before_runs : ℕ → ℕ → List (ℕ × List ℕ) → List (ℕ × List ℕ)
before_runs a b [] = (a, b ∷ []) ∷ []
before_runs a b (r ∷ rs) = cond (r.0 == a + 1) ((a, b ∷ r.1) ∷ rs) ((a, b ∷ []) ∷ r ∷ rs)

-- a byte at an address before runs of bytes, if it differs from an old one
abbrev pub before_if : Bool → ℕ → ℕ → List (ℕ × List ℕ) → List (ℕ × List ℕ)
before_if true a b rs = rs
before_if false a b rs = before_runs a b rs

-- the longest runs of addresses from one on whose bytes differ from old ones; after the last old one, from zeros
abbrev pub changes : ℕ → List ℕ → List ℕ → List (ℕ × List ℕ)
changes a old [] = []
changes a [] (b ∷ bs) = before_if (b == 0) a b (changes (a + 1) [] bs)
changes a (o ∷ os) (b ∷ bs) = before_if (b == o) a b (changes (a + 1) os bs)
