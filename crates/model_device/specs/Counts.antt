-- Counts of failed writes, cuts and calls, which are held in 64 bits and saturate.
use Rattle.std.specs.Prelude.{◌≡◌, ℕ, ◌-◌, ◌^◌, ◌<◌, ◌⊎◌}

-- the greatest count, at which it saturates
abbrev pub last_count : ℕ
last_count = 2 ^ 64 - 1

-- a count rose: it is greater than before, or at its last value
abbrev pub Rose : ℕ → ℕ → Type 0
Rose before now = (before < now) ⊎ (now ≡ last_count)
