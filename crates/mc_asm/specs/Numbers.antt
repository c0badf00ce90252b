-- Hexadecimal digits that follow others, and the range of signed numbers.
use Rattle.std.specs.Prelude.{ℕ, ℤ, pos, negsuc, ◌<◌, List, Option, option_map}
use Rattle.model_text.specs.Text.{digits_onto, hex_values}

-- the number of hexadecimal digits that are appended to those of n, if all are digits
abbrev pub hex_behind : ℕ → List ℕ → Option ℕ
hex_behind n t = option_map (digits_onto 16 n) (hex_values t)

-- a signed number from -half to half - 1
abbrev pub FitsHalf : ℕ → ℤ → Type 0
FitsHalf half (pos n) = n < half
FitsHalf half (negsuc n) = n < half
