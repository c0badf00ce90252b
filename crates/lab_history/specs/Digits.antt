-- Digits of numbers in bytes, counted from the lowest.
use Rattle.std.specs.Prelude.{ℕ, ◌-◌, cond, nat_lt, List, length, slice_index_or}

-- the digit of a number at a place, counted from the lowest one; 0 above its highest
abbrev pub digit_at : List ℕ → ℕ → ℕ
digit_at number place = cond (nat_lt place (length number)) (slice_index_or number (length number - 1 - place) 0) 0
