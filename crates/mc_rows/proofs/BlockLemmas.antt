-- Blocks of zeros.
use Rattle.std.proofs.Common.{◌≡◌, ℕ, zero, suc, ◌≤◌, true, take, replicate, refl, arith}
use Rattle.std.proofs.lemmas.List.{take-replicate}
use Rattle.model_machine.specs.model_device.specs.Bytes.{zeros, num}
use Rattle.model_machine.specs.Blocks.{is_zero}

zeros_count : (n : ℕ) → num (zeros n) ≡ 0
zeros_count zero = refl
zeros_count (suc n) = grind (arith, zeros_count n)

-- a block of zeros is the number 0
pub zeros_are_zero : (n : ℕ) → is_zero (zeros n) ≡ true
zeros_are_zero n = grind (arith, zeros_count n)

-- the first n bytes of the buffer of 255 zeros
pub front_of_zeros : (n : ℕ) → n ≤ 255 → take n (replicate 255 0) ≡ zeros n
front_of_zeros n le = take-replicate n 255 0 le
