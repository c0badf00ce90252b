-- Bytes in hexadecimal.
use Rattle.std.proofs.Common.{◌≡◌, ℕ, ◌<◌, List, [], ◌∷◌, refl, ◌/◌, ◌%◌, slice_index, arith}
use Rattle.std.specs.List.{AllByRecursion}
use Rattle.hex.specs.Hex.{encode_upper, encode_with, upper_digits}
use Rattle.mc_text.specs.model_text.specs.Listing.{hex_digit, hex_text}

-- a digit of the crate is that of the model
digit_same : (d : ℕ) → d < 16 → slice_index upper_digits d ≡ hex_digit d
digit_same d lt = grind (arith, lt)

-- bytes in hexadecimal of the crate are those of the model
pub hex_same : (bs : List ℕ) → AllByRecursion (λ b. b < 256) bs → encode_upper bs ≡ hex_text bs
unfolding encode_with
hex_same [] all = refl
hex_same (b ∷ bs) all =
    let below = all.0 in
    let less : b / 16 < 16 = omega (arith, below) in
    let same : b / 16 % 16 ≡ b / 16 = omega (arith, below) in
    rw (same, digit_same (b / 16) less, digit_same (b % 16) (omega arith), hex_same bs all.1) refl
