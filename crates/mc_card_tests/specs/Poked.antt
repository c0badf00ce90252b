-- A small image of zeros in which some words are set by hand.
use Rattle.std.specs.Prelude.{ℕ, List, [], ◌∷◌, replicate, slice_set}
use Rattle.model_device.specs.Bytes.{zeros, bytes}

-- 256 words of zeros, with these numbers as words of eight bytes in their places
abbrev pub image_with_numbers : List (ℕ × ℕ) → List (List ℕ)
image_with_numbers [] = replicate 256 (zeros 8)
image_with_numbers (p ∷ ps) = slice_set (image_with_numbers ps) p.0 (bytes 8 p.1)
