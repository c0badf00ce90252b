-- The cipher function f of DES (FIPS 46-3) on words.
use Rattle.std.proofs.Common.{◌≡◌, ℕ, ◌+◌, ◌-◌, ◌*◌, ◌/◌, ◌%◌, ◌^◌, ◌<◌, List, [], ◌∷◌, ◌++◌, length, get_or, take, drop, refl, sym, ap, ◌∙◌, arith, zero-add, add-zero, length-append, append_assoc}
use Rattle.std.specs.Prelude.{bit_or, bit_and}
use Rattle.std.specs.Int.{w32, rotate_left}
use Rattle.std.specs.Int.Bits.{bit_xor, or_zero_r}
use Rattle.std.proofs.Math.Nat.{div-div-eq-div-mul, zero-mul}
use Rattle.std.proofs.Math.Pow.{pow_pos}
use Rattle.std.proofs.lemmas.Nat.{xor_shr, or_block, and_mask}
use Rattle.std.proofs.lemmas.List.{append-nil, take_at, drop_at}
use Rattle.model_machine.specs.model_device.specs.Bytes.{zeros}
use Rattle.model_machine.specs.Modes.{bit_sum}
use Rattle.model_machine.specs.Des.{bits, pick, f, through, box_at, boxes, expansion, permutation}
use Rattle.model_machine.proofs.ModesLemmas.{length_added}
use Rattle.mc_des.specs.Words.{key_bits, box_alone}
use Rattle.mc_des.proofs.BitsLemmas.{bits_xor, bits6_mod, pick_step}

-- ---- the rotated half

pub or_parts : (k a b : ℕ) → b < 2 ^ k → bit_or (a * 2 ^ k) b ≡ a * 2 ^ k + b
or_parts k a b h = simp (zero-mul, zero-add, add-zero, or_zero_r) at (or_block k a 0 0 b (pow_pos k) h)

rotated5 : (r : ℕ) → r < 2 ^ 32 → rotate_left w32 r 5 ≡ (r % 2 ^ 27) * 2 ^ 5 + r / 2 ^ 27
rotated5 r h =
    let high : r * 2 ^ 5 % 2 ^ 32 ≡ (r % 2 ^ 27) * 2 ^ 5 = omega arith in
    ap (λ (x : ℕ). bit_or x (r / 2 ^ 27)) high ∙ or_parts 5 (r % 2 ^ 27) (r / 2 ^ 27) (omega arith)

rotated9 : (r : ℕ) → r < 2 ^ 32 → rotate_left w32 r 9 ≡ (r % 2 ^ 23) * 2 ^ 9 + r / 2 ^ 23
rotated9 r h =
    let high : r * 2 ^ 9 % 2 ^ 32 ≡ (r % 2 ^ 23) * 2 ^ 9 = omega arith in
    ap (λ (x : ℕ). bit_or x (r / 2 ^ 23)) high ∙ or_parts 9 (r % 2 ^ 23) (r / 2 ^ 23) (omega arith)

-- ---- the groups of six bits of the expansion E

group0 : (r : ℕ) → r < 2 ^ 32 → bits 6 (rotate_left w32 r 5 / 2 ^ 0) ≡ (r / 2 ^ 0 % 2) ∷ (r / 2 ^ 31 % 2) ∷ (r / 2 ^ 30 % 2) ∷ (r / 2 ^ 29 % 2) ∷ (r / 2 ^ 28 % 2) ∷ (r / 2 ^ 27 % 2) ∷ []
unfolding bits
group0 r h =
    let e0 : ((r % 2 ^ 27) * 2 ^ 5 + r / 2 ^ 27) / 2 ^ 0 / 2 ^ 5 % 2 ≡ r / 2 ^ 0 % 2 = omega arith in
    let e1 : ((r % 2 ^ 27) * 2 ^ 5 + r / 2 ^ 27) / 2 ^ 0 / 2 ^ 4 % 2 ≡ r / 2 ^ 31 % 2 = omega arith in
    let e2 : ((r % 2 ^ 27) * 2 ^ 5 + r / 2 ^ 27) / 2 ^ 0 / 2 ^ 3 % 2 ≡ r / 2 ^ 30 % 2 = omega arith in
    let e3 : ((r % 2 ^ 27) * 2 ^ 5 + r / 2 ^ 27) / 2 ^ 0 / 2 ^ 2 % 2 ≡ r / 2 ^ 29 % 2 = omega arith in
    let e4 : ((r % 2 ^ 27) * 2 ^ 5 + r / 2 ^ 27) / 2 ^ 0 / 2 ^ 1 % 2 ≡ r / 2 ^ 28 % 2 = omega arith in
    let e5 : ((r % 2 ^ 27) * 2 ^ 5 + r / 2 ^ 27) / 2 ^ 0 / 2 ^ 0 % 2 ≡ r / 2 ^ 27 % 2 = omega arith in
    ap (λ (x : ℕ). bits 6 (x / 2 ^ 0)) (rotated5 r h) ∙ rw (e0, e1, e2, e3, e4, e5) refl

group1 : (r : ℕ) → r < 2 ^ 32 → bits 6 (rotate_left w32 r 9 / 2 ^ 0) ≡ (r / 2 ^ 28 % 2) ∷ (r / 2 ^ 27 % 2) ∷ (r / 2 ^ 26 % 2) ∷ (r / 2 ^ 25 % 2) ∷ (r / 2 ^ 24 % 2) ∷ (r / 2 ^ 23 % 2) ∷ []
unfolding bits
group1 r h =
    let e0 : ((r % 2 ^ 23) * 2 ^ 9 + r / 2 ^ 23) / 2 ^ 0 / 2 ^ 5 % 2 ≡ r / 2 ^ 28 % 2 = omega arith in
    let e1 : ((r % 2 ^ 23) * 2 ^ 9 + r / 2 ^ 23) / 2 ^ 0 / 2 ^ 4 % 2 ≡ r / 2 ^ 27 % 2 = omega arith in
    let e2 : ((r % 2 ^ 23) * 2 ^ 9 + r / 2 ^ 23) / 2 ^ 0 / 2 ^ 3 % 2 ≡ r / 2 ^ 26 % 2 = omega arith in
    let e3 : ((r % 2 ^ 23) * 2 ^ 9 + r / 2 ^ 23) / 2 ^ 0 / 2 ^ 2 % 2 ≡ r / 2 ^ 25 % 2 = omega arith in
    let e4 : ((r % 2 ^ 23) * 2 ^ 9 + r / 2 ^ 23) / 2 ^ 0 / 2 ^ 1 % 2 ≡ r / 2 ^ 24 % 2 = omega arith in
    let e5 : ((r % 2 ^ 23) * 2 ^ 9 + r / 2 ^ 23) / 2 ^ 0 / 2 ^ 0 % 2 ≡ r / 2 ^ 23 % 2 = omega arith in
    ap (λ (x : ℕ). bits 6 (x / 2 ^ 0)) (rotated9 r h) ∙ rw (e0, e1, e2, e3, e4, e5) refl

group2 : (r : ℕ) → r < 2 ^ 32 → bits 6 (rotate_left w32 r 5 / 2 ^ 24) ≡ (r / 2 ^ 24 % 2) ∷ (r / 2 ^ 23 % 2) ∷ (r / 2 ^ 22 % 2) ∷ (r / 2 ^ 21 % 2) ∷ (r / 2 ^ 20 % 2) ∷ (r / 2 ^ 19 % 2) ∷ []
unfolding bits
group2 r h =
    let e0 : ((r % 2 ^ 27) * 2 ^ 5 + r / 2 ^ 27) / 2 ^ 24 / 2 ^ 5 % 2 ≡ r / 2 ^ 24 % 2 = omega arith in
    let e1 : ((r % 2 ^ 27) * 2 ^ 5 + r / 2 ^ 27) / 2 ^ 24 / 2 ^ 4 % 2 ≡ r / 2 ^ 23 % 2 = omega arith in
    let e2 : ((r % 2 ^ 27) * 2 ^ 5 + r / 2 ^ 27) / 2 ^ 24 / 2 ^ 3 % 2 ≡ r / 2 ^ 22 % 2 = omega arith in
    let e3 : ((r % 2 ^ 27) * 2 ^ 5 + r / 2 ^ 27) / 2 ^ 24 / 2 ^ 2 % 2 ≡ r / 2 ^ 21 % 2 = omega arith in
    let e4 : ((r % 2 ^ 27) * 2 ^ 5 + r / 2 ^ 27) / 2 ^ 24 / 2 ^ 1 % 2 ≡ r / 2 ^ 20 % 2 = omega arith in
    let e5 : ((r % 2 ^ 27) * 2 ^ 5 + r / 2 ^ 27) / 2 ^ 24 / 2 ^ 0 % 2 ≡ r / 2 ^ 19 % 2 = omega arith in
    ap (λ (x : ℕ). bits 6 (x / 2 ^ 24)) (rotated5 r h) ∙ rw (e0, e1, e2, e3, e4, e5) refl

group3 : (r : ℕ) → r < 2 ^ 32 → bits 6 (rotate_left w32 r 9 / 2 ^ 24) ≡ (r / 2 ^ 20 % 2) ∷ (r / 2 ^ 19 % 2) ∷ (r / 2 ^ 18 % 2) ∷ (r / 2 ^ 17 % 2) ∷ (r / 2 ^ 16 % 2) ∷ (r / 2 ^ 15 % 2) ∷ []
unfolding bits
group3 r h =
    let e0 : ((r % 2 ^ 23) * 2 ^ 9 + r / 2 ^ 23) / 2 ^ 24 / 2 ^ 5 % 2 ≡ r / 2 ^ 20 % 2 = omega arith in
    let e1 : ((r % 2 ^ 23) * 2 ^ 9 + r / 2 ^ 23) / 2 ^ 24 / 2 ^ 4 % 2 ≡ r / 2 ^ 19 % 2 = omega arith in
    let e2 : ((r % 2 ^ 23) * 2 ^ 9 + r / 2 ^ 23) / 2 ^ 24 / 2 ^ 3 % 2 ≡ r / 2 ^ 18 % 2 = omega arith in
    let e3 : ((r % 2 ^ 23) * 2 ^ 9 + r / 2 ^ 23) / 2 ^ 24 / 2 ^ 2 % 2 ≡ r / 2 ^ 17 % 2 = omega arith in
    let e4 : ((r % 2 ^ 23) * 2 ^ 9 + r / 2 ^ 23) / 2 ^ 24 / 2 ^ 1 % 2 ≡ r / 2 ^ 16 % 2 = omega arith in
    let e5 : ((r % 2 ^ 23) * 2 ^ 9 + r / 2 ^ 23) / 2 ^ 24 / 2 ^ 0 % 2 ≡ r / 2 ^ 15 % 2 = omega arith in
    ap (λ (x : ℕ). bits 6 (x / 2 ^ 24)) (rotated9 r h) ∙ rw (e0, e1, e2, e3, e4, e5) refl

group4 : (r : ℕ) → r < 2 ^ 32 → bits 6 (rotate_left w32 r 5 / 2 ^ 16) ≡ (r / 2 ^ 16 % 2) ∷ (r / 2 ^ 15 % 2) ∷ (r / 2 ^ 14 % 2) ∷ (r / 2 ^ 13 % 2) ∷ (r / 2 ^ 12 % 2) ∷ (r / 2 ^ 11 % 2) ∷ []
unfolding bits
group4 r h =
    let e0 : ((r % 2 ^ 27) * 2 ^ 5 + r / 2 ^ 27) / 2 ^ 16 / 2 ^ 5 % 2 ≡ r / 2 ^ 16 % 2 = omega arith in
    let e1 : ((r % 2 ^ 27) * 2 ^ 5 + r / 2 ^ 27) / 2 ^ 16 / 2 ^ 4 % 2 ≡ r / 2 ^ 15 % 2 = omega arith in
    let e2 : ((r % 2 ^ 27) * 2 ^ 5 + r / 2 ^ 27) / 2 ^ 16 / 2 ^ 3 % 2 ≡ r / 2 ^ 14 % 2 = omega arith in
    let e3 : ((r % 2 ^ 27) * 2 ^ 5 + r / 2 ^ 27) / 2 ^ 16 / 2 ^ 2 % 2 ≡ r / 2 ^ 13 % 2 = omega arith in
    let e4 : ((r % 2 ^ 27) * 2 ^ 5 + r / 2 ^ 27) / 2 ^ 16 / 2 ^ 1 % 2 ≡ r / 2 ^ 12 % 2 = omega arith in
    let e5 : ((r % 2 ^ 27) * 2 ^ 5 + r / 2 ^ 27) / 2 ^ 16 / 2 ^ 0 % 2 ≡ r / 2 ^ 11 % 2 = omega arith in
    ap (λ (x : ℕ). bits 6 (x / 2 ^ 16)) (rotated5 r h) ∙ rw (e0, e1, e2, e3, e4, e5) refl

group5 : (r : ℕ) → r < 2 ^ 32 → bits 6 (rotate_left w32 r 9 / 2 ^ 16) ≡ (r / 2 ^ 12 % 2) ∷ (r / 2 ^ 11 % 2) ∷ (r / 2 ^ 10 % 2) ∷ (r / 2 ^ 9 % 2) ∷ (r / 2 ^ 8 % 2) ∷ (r / 2 ^ 7 % 2) ∷ []
unfolding bits
group5 r h =
    let e0 : ((r % 2 ^ 23) * 2 ^ 9 + r / 2 ^ 23) / 2 ^ 16 / 2 ^ 5 % 2 ≡ r / 2 ^ 12 % 2 = omega arith in
    let e1 : ((r % 2 ^ 23) * 2 ^ 9 + r / 2 ^ 23) / 2 ^ 16 / 2 ^ 4 % 2 ≡ r / 2 ^ 11 % 2 = omega arith in
    let e2 : ((r % 2 ^ 23) * 2 ^ 9 + r / 2 ^ 23) / 2 ^ 16 / 2 ^ 3 % 2 ≡ r / 2 ^ 10 % 2 = omega arith in
    let e3 : ((r % 2 ^ 23) * 2 ^ 9 + r / 2 ^ 23) / 2 ^ 16 / 2 ^ 2 % 2 ≡ r / 2 ^ 9 % 2 = omega arith in
    let e4 : ((r % 2 ^ 23) * 2 ^ 9 + r / 2 ^ 23) / 2 ^ 16 / 2 ^ 1 % 2 ≡ r / 2 ^ 8 % 2 = omega arith in
    let e5 : ((r % 2 ^ 23) * 2 ^ 9 + r / 2 ^ 23) / 2 ^ 16 / 2 ^ 0 % 2 ≡ r / 2 ^ 7 % 2 = omega arith in
    ap (λ (x : ℕ). bits 6 (x / 2 ^ 16)) (rotated9 r h) ∙ rw (e0, e1, e2, e3, e4, e5) refl

group6 : (r : ℕ) → r < 2 ^ 32 → bits 6 (rotate_left w32 r 5 / 2 ^ 8) ≡ (r / 2 ^ 8 % 2) ∷ (r / 2 ^ 7 % 2) ∷ (r / 2 ^ 6 % 2) ∷ (r / 2 ^ 5 % 2) ∷ (r / 2 ^ 4 % 2) ∷ (r / 2 ^ 3 % 2) ∷ []
unfolding bits
group6 r h =
    let e0 : ((r % 2 ^ 27) * 2 ^ 5 + r / 2 ^ 27) / 2 ^ 8 / 2 ^ 5 % 2 ≡ r / 2 ^ 8 % 2 = omega arith in
    let e1 : ((r % 2 ^ 27) * 2 ^ 5 + r / 2 ^ 27) / 2 ^ 8 / 2 ^ 4 % 2 ≡ r / 2 ^ 7 % 2 = omega arith in
    let e2 : ((r % 2 ^ 27) * 2 ^ 5 + r / 2 ^ 27) / 2 ^ 8 / 2 ^ 3 % 2 ≡ r / 2 ^ 6 % 2 = omega arith in
    let e3 : ((r % 2 ^ 27) * 2 ^ 5 + r / 2 ^ 27) / 2 ^ 8 / 2 ^ 2 % 2 ≡ r / 2 ^ 5 % 2 = omega arith in
    let e4 : ((r % 2 ^ 27) * 2 ^ 5 + r / 2 ^ 27) / 2 ^ 8 / 2 ^ 1 % 2 ≡ r / 2 ^ 4 % 2 = omega arith in
    let e5 : ((r % 2 ^ 27) * 2 ^ 5 + r / 2 ^ 27) / 2 ^ 8 / 2 ^ 0 % 2 ≡ r / 2 ^ 3 % 2 = omega arith in
    ap (λ (x : ℕ). bits 6 (x / 2 ^ 8)) (rotated5 r h) ∙ rw (e0, e1, e2, e3, e4, e5) refl

group7 : (r : ℕ) → r < 2 ^ 32 → bits 6 (rotate_left w32 r 9 / 2 ^ 8) ≡ (r / 2 ^ 4 % 2) ∷ (r / 2 ^ 3 % 2) ∷ (r / 2 ^ 2 % 2) ∷ (r / 2 ^ 1 % 2) ∷ (r / 2 ^ 0 % 2) ∷ (r / 2 ^ 31 % 2) ∷ []
unfolding bits
group7 r h =
    let e0 : ((r % 2 ^ 23) * 2 ^ 9 + r / 2 ^ 23) / 2 ^ 8 / 2 ^ 5 % 2 ≡ r / 2 ^ 4 % 2 = omega arith in
    let e1 : ((r % 2 ^ 23) * 2 ^ 9 + r / 2 ^ 23) / 2 ^ 8 / 2 ^ 4 % 2 ≡ r / 2 ^ 3 % 2 = omega arith in
    let e2 : ((r % 2 ^ 23) * 2 ^ 9 + r / 2 ^ 23) / 2 ^ 8 / 2 ^ 3 % 2 ≡ r / 2 ^ 2 % 2 = omega arith in
    let e3 : ((r % 2 ^ 23) * 2 ^ 9 + r / 2 ^ 23) / 2 ^ 8 / 2 ^ 2 % 2 ≡ r / 2 ^ 1 % 2 = omega arith in
    let e4 : ((r % 2 ^ 23) * 2 ^ 9 + r / 2 ^ 23) / 2 ^ 8 / 2 ^ 1 % 2 ≡ r / 2 ^ 0 % 2 = omega arith in
    let e5 : ((r % 2 ^ 23) * 2 ^ 9 + r / 2 ^ 23) / 2 ^ 8 / 2 ^ 0 % 2 ≡ r / 2 ^ 31 % 2 = omega arith in
    ap (λ (x : ℕ). bits 6 (x / 2 ^ 8)) (rotated9 r h) ∙ rw (e0, e1, e2, e3, e4, e5) refl

-- ---- a group plus its part of the round key

six_bits : (x k low : ℕ) → bits 6 (bit_xor x k / 2 ^ low % 64) ≡ bit_sum (bits 6 (x / 2 ^ low)) (bits 6 (k / 2 ^ low))
six_bits x k low = bits6_mod (bit_xor x k / 2 ^ low) ∙ ap (bits 6) (xor_shr x k low) ∙ bits_xor 6 (x / 2 ^ low) (k / 2 ^ low)

low_part : (a b : ℕ) → a % 64 ≡ b % 64 → bits 6 a ≡ bits 6 b
low_part a b e = sym (bits6_mod a) ∙ ap (bits 6) e ∙ bits6_mod b

high_part : (k low : ℕ) → bits 6 (k / 2 ^ 32 / 2 ^ low) ≡ bits 6 (k / (2 ^ 32 * 2 ^ low))
high_part k low = ap (bits 6) (div-div-eq-div-mul k (2 ^ 32) (2 ^ low))

six0 : (r k : ℕ) → r < 2 ^ 32 → bits 6 (bit_xor (rotate_left w32 r 5) (k / 2 ^ 32) / 2 ^ 0 % 64) ≡ bit_sum ((r / 2 ^ 0 % 2) ∷ (r / 2 ^ 31 % 2) ∷ (r / 2 ^ 30 % 2) ∷ (r / 2 ^ 29 % 2) ∷ (r / 2 ^ 28 % 2) ∷ (r / 2 ^ 27 % 2) ∷ []) (bits 6 (k / 2 ^ 32))
six0 r k h = six_bits (rotate_left w32 r 5) (k / 2 ^ 32) 0 ∙ ap (λ (l : List ℕ). bit_sum l (bits 6 (k / 2 ^ 32 / 2 ^ 0))) (group0 r h) ∙ ap (bit_sum ((r / 2 ^ 0 % 2) ∷ (r / 2 ^ 31 % 2) ∷ (r / 2 ^ 30 % 2) ∷ (r / 2 ^ 29 % 2) ∷ (r / 2 ^ 28 % 2) ∷ (r / 2 ^ 27 % 2) ∷ [])) (low_part (k / 2 ^ 32 / 2 ^ 0) (k / 2 ^ 32) (omega arith))

six1 : (r k : ℕ) → r < 2 ^ 32 → bits 6 (bit_xor (rotate_left w32 r 9) (k % 2 ^ 32) / 2 ^ 0 % 64) ≡ bit_sum ((r / 2 ^ 28 % 2) ∷ (r / 2 ^ 27 % 2) ∷ (r / 2 ^ 26 % 2) ∷ (r / 2 ^ 25 % 2) ∷ (r / 2 ^ 24 % 2) ∷ (r / 2 ^ 23 % 2) ∷ []) (bits 6 (k))
six1 r k h = six_bits (rotate_left w32 r 9) (k % 2 ^ 32) 0 ∙ ap (λ (l : List ℕ). bit_sum l (bits 6 ((k % 2 ^ 32) / 2 ^ 0))) (group1 r h) ∙ ap (bit_sum ((r / 2 ^ 28 % 2) ∷ (r / 2 ^ 27 % 2) ∷ (r / 2 ^ 26 % 2) ∷ (r / 2 ^ 25 % 2) ∷ (r / 2 ^ 24 % 2) ∷ (r / 2 ^ 23 % 2) ∷ [])) (low_part (k % 2 ^ 32 / 2 ^ 0) (k) (omega arith))

six2 : (r k : ℕ) → r < 2 ^ 32 → bits 6 (bit_xor (rotate_left w32 r 5) (k / 2 ^ 32) / 2 ^ 24 % 64) ≡ bit_sum ((r / 2 ^ 24 % 2) ∷ (r / 2 ^ 23 % 2) ∷ (r / 2 ^ 22 % 2) ∷ (r / 2 ^ 21 % 2) ∷ (r / 2 ^ 20 % 2) ∷ (r / 2 ^ 19 % 2) ∷ []) (bits 6 (k / 2 ^ 56))
six2 r k h = six_bits (rotate_left w32 r 5) (k / 2 ^ 32) 24 ∙ ap (λ (l : List ℕ). bit_sum l (bits 6 (k / 2 ^ 32 / 2 ^ 24))) (group2 r h) ∙ ap (bit_sum ((r / 2 ^ 24 % 2) ∷ (r / 2 ^ 23 % 2) ∷ (r / 2 ^ 22 % 2) ∷ (r / 2 ^ 21 % 2) ∷ (r / 2 ^ 20 % 2) ∷ (r / 2 ^ 19 % 2) ∷ [])) (high_part k 24)

six3 : (r k : ℕ) → r < 2 ^ 32 → bits 6 (bit_xor (rotate_left w32 r 9) (k % 2 ^ 32) / 2 ^ 24 % 64) ≡ bit_sum ((r / 2 ^ 20 % 2) ∷ (r / 2 ^ 19 % 2) ∷ (r / 2 ^ 18 % 2) ∷ (r / 2 ^ 17 % 2) ∷ (r / 2 ^ 16 % 2) ∷ (r / 2 ^ 15 % 2) ∷ []) (bits 6 (k / 2 ^ 24))
six3 r k h = six_bits (rotate_left w32 r 9) (k % 2 ^ 32) 24 ∙ ap (λ (l : List ℕ). bit_sum l (bits 6 ((k % 2 ^ 32) / 2 ^ 24))) (group3 r h) ∙ ap (bit_sum ((r / 2 ^ 20 % 2) ∷ (r / 2 ^ 19 % 2) ∷ (r / 2 ^ 18 % 2) ∷ (r / 2 ^ 17 % 2) ∷ (r / 2 ^ 16 % 2) ∷ (r / 2 ^ 15 % 2) ∷ [])) (low_part (k % 2 ^ 32 / 2 ^ 24) (k / 2 ^ 24) (omega arith))

six4 : (r k : ℕ) → r < 2 ^ 32 → bits 6 (bit_xor (rotate_left w32 r 5) (k / 2 ^ 32) / 2 ^ 16 % 64) ≡ bit_sum ((r / 2 ^ 16 % 2) ∷ (r / 2 ^ 15 % 2) ∷ (r / 2 ^ 14 % 2) ∷ (r / 2 ^ 13 % 2) ∷ (r / 2 ^ 12 % 2) ∷ (r / 2 ^ 11 % 2) ∷ []) (bits 6 (k / 2 ^ 48))
six4 r k h = six_bits (rotate_left w32 r 5) (k / 2 ^ 32) 16 ∙ ap (λ (l : List ℕ). bit_sum l (bits 6 (k / 2 ^ 32 / 2 ^ 16))) (group4 r h) ∙ ap (bit_sum ((r / 2 ^ 16 % 2) ∷ (r / 2 ^ 15 % 2) ∷ (r / 2 ^ 14 % 2) ∷ (r / 2 ^ 13 % 2) ∷ (r / 2 ^ 12 % 2) ∷ (r / 2 ^ 11 % 2) ∷ [])) (high_part k 16)

six5 : (r k : ℕ) → r < 2 ^ 32 → bits 6 (bit_xor (rotate_left w32 r 9) (k % 2 ^ 32) / 2 ^ 16 % 64) ≡ bit_sum ((r / 2 ^ 12 % 2) ∷ (r / 2 ^ 11 % 2) ∷ (r / 2 ^ 10 % 2) ∷ (r / 2 ^ 9 % 2) ∷ (r / 2 ^ 8 % 2) ∷ (r / 2 ^ 7 % 2) ∷ []) (bits 6 (k / 2 ^ 16))
six5 r k h = six_bits (rotate_left w32 r 9) (k % 2 ^ 32) 16 ∙ ap (λ (l : List ℕ). bit_sum l (bits 6 ((k % 2 ^ 32) / 2 ^ 16))) (group5 r h) ∙ ap (bit_sum ((r / 2 ^ 12 % 2) ∷ (r / 2 ^ 11 % 2) ∷ (r / 2 ^ 10 % 2) ∷ (r / 2 ^ 9 % 2) ∷ (r / 2 ^ 8 % 2) ∷ (r / 2 ^ 7 % 2) ∷ [])) (low_part (k % 2 ^ 32 / 2 ^ 16) (k / 2 ^ 16) (omega arith))

six6 : (r k : ℕ) → r < 2 ^ 32 → bits 6 (bit_xor (rotate_left w32 r 5) (k / 2 ^ 32) / 2 ^ 8 % 64) ≡ bit_sum ((r / 2 ^ 8 % 2) ∷ (r / 2 ^ 7 % 2) ∷ (r / 2 ^ 6 % 2) ∷ (r / 2 ^ 5 % 2) ∷ (r / 2 ^ 4 % 2) ∷ (r / 2 ^ 3 % 2) ∷ []) (bits 6 (k / 2 ^ 40))
six6 r k h = six_bits (rotate_left w32 r 5) (k / 2 ^ 32) 8 ∙ ap (λ (l : List ℕ). bit_sum l (bits 6 (k / 2 ^ 32 / 2 ^ 8))) (group6 r h) ∙ ap (bit_sum ((r / 2 ^ 8 % 2) ∷ (r / 2 ^ 7 % 2) ∷ (r / 2 ^ 6 % 2) ∷ (r / 2 ^ 5 % 2) ∷ (r / 2 ^ 4 % 2) ∷ (r / 2 ^ 3 % 2) ∷ [])) (high_part k 8)

six7 : (r k : ℕ) → r < 2 ^ 32 → bits 6 (bit_xor (rotate_left w32 r 9) (k % 2 ^ 32) / 2 ^ 8 % 64) ≡ bit_sum ((r / 2 ^ 4 % 2) ∷ (r / 2 ^ 3 % 2) ∷ (r / 2 ^ 2 % 2) ∷ (r / 2 ^ 1 % 2) ∷ (r / 2 ^ 0 % 2) ∷ (r / 2 ^ 31 % 2) ∷ []) (bits 6 (k / 2 ^ 8))
six7 r k h = six_bits (rotate_left w32 r 9) (k % 2 ^ 32) 8 ∙ ap (λ (l : List ℕ). bit_sum l (bits 6 ((k % 2 ^ 32) / 2 ^ 8))) (group7 r h) ∙ ap (bit_sum ((r / 2 ^ 4 % 2) ∷ (r / 2 ^ 3 % 2) ∷ (r / 2 ^ 2 % 2) ∷ (r / 2 ^ 1 % 2) ∷ (r / 2 ^ 0 % 2) ∷ (r / 2 ^ 31 % 2) ∷ [])) (low_part (k % 2 ^ 32 / 2 ^ 8) (k / 2 ^ 8) (omega arith))

-- ---- the S-boxes

length_added6 : (r k : ℕ) (l : List ℕ) → length l ≡ 6 → length (bit_sum l (bits 6 k)) ≡ 6
length_added6 r k l h = length_added l (bits 6 k) ∙ h

through_open : (box : List (List ℕ)) (rest : List (List (List ℕ))) (l : List ℕ) → through (box ∷ rest) l ≡ box_at box (take 6 l) ++ through rest (drop 6 l)
unfolding through
through_open box rest l = refl

through_none : (l : List ℕ) → through [] l ≡ []
unfolding through
through_none l = refl

length_box : (box : List (List ℕ)) (g : List ℕ) → length (box_at box g) ≡ 4
unfolding box_at
length_box box g = refl

through_cons : (box : List (List ℕ)) (rest : List (List (List ℕ))) (g l : List ℕ) → length g ≡ 6 → through (box ∷ rest) (g ++ l) ≡ box_at box g ++ through rest l
through_cons box rest g l h =
    through_open box rest (g ++ l) ∙ ap (λ (x : List ℕ). box_at box x ++ through rest (drop 6 (g ++ l))) (take_at g l 6 h)
    ∙ ap (λ (x : List ℕ). box_at box g ++ through rest x) (drop_at g l 6 h)

eight_boxes : boxes ≡ get_or boxes 0 [] ∷ get_or boxes 1 [] ∷ get_or boxes 2 [] ∷ get_or boxes 3 [] ∷ get_or boxes 4 [] ∷ get_or boxes 5 [] ∷ get_or boxes 6 [] ∷ get_or boxes 7 [] ∷ []
unfolding boxes
eight_boxes = refl

through_eight : (b0 b1 b2 b3 b4 b5 b6 b7 : List (List ℕ)) (g0 g1 g2 g3 g4 g5 g6 g7 : List ℕ) → length g0 ≡ 6 → length g1 ≡ 6 → length g2 ≡ 6 → length g3 ≡ 6 → length g4 ≡ 6 → length g5 ≡ 6 → length g6 ≡ 6 → length g7 ≡ 6 → through (b0 ∷ b1 ∷ b2 ∷ b3 ∷ b4 ∷ b5 ∷ b6 ∷ b7 ∷ []) (g0 ++ (g1 ++ (g2 ++ (g3 ++ (g4 ++ (g5 ++ (g6 ++ (g7 ++ []))))))))
    ≡ box_at b0 g0 ++ (box_at b1 g1 ++ (box_at b2 g2 ++ (box_at b3 g3 ++ (box_at b4 g4 ++ (box_at b5 g5 ++ (box_at b6 g6 ++ (box_at b7 g7 ++ [])))))))
through_eight b0 b1 b2 b3 b4 b5 b6 b7 g0 g1 g2 g3 g4 g5 g6 g7 h0 h1 h2 h3 h4 h5 h6 h7 =
    let t8 : through [] [] ≡ [] = through_none [] in
    let t7 : through (b7 ∷ []) (g7 ++ []) ≡ box_at b7 g7 ++ [] = through_cons b7 ([]) g7 ([]) h7 ∙ ap (λ (l : List ℕ). box_at b7 g7 ++ l) t8 in
    let t6 : through (b6 ∷ b7 ∷ []) (g6 ++ (g7 ++ [])) ≡ box_at b6 g6 ++ (box_at b7 g7 ++ []) = through_cons b6 (b7 ∷ []) g6 (g7 ++ []) h6 ∙ ap (λ (l : List ℕ). box_at b6 g6 ++ l) t7 in
    let t5 : through (b5 ∷ b6 ∷ b7 ∷ []) (g5 ++ (g6 ++ (g7 ++ []))) ≡ box_at b5 g5 ++ (box_at b6 g6 ++ (box_at b7 g7 ++ [])) = through_cons b5 (b6 ∷ b7 ∷ []) g5 (g6 ++ (g7 ++ [])) h5 ∙ ap (λ (l : List ℕ). box_at b5 g5 ++ l) t6 in
    let t4 : through (b4 ∷ b5 ∷ b6 ∷ b7 ∷ []) (g4 ++ (g5 ++ (g6 ++ (g7 ++ [])))) ≡ box_at b4 g4 ++ (box_at b5 g5 ++ (box_at b6 g6 ++ (box_at b7 g7 ++ []))) = through_cons b4 (b5 ∷ b6 ∷ b7 ∷ []) g4 (g5 ++ (g6 ++ (g7 ++ []))) h4 ∙ ap (λ (l : List ℕ). box_at b4 g4 ++ l) t5 in
    let t3 : through (b3 ∷ b4 ∷ b5 ∷ b6 ∷ b7 ∷ []) (g3 ++ (g4 ++ (g5 ++ (g6 ++ (g7 ++ []))))) ≡ box_at b3 g3 ++ (box_at b4 g4 ++ (box_at b5 g5 ++ (box_at b6 g6 ++ (box_at b7 g7 ++ [])))) = through_cons b3 (b4 ∷ b5 ∷ b6 ∷ b7 ∷ []) g3 (g4 ++ (g5 ++ (g6 ++ (g7 ++ [])))) h3 ∙ ap (λ (l : List ℕ). box_at b3 g3 ++ l) t4 in
    let t2 : through (b2 ∷ b3 ∷ b4 ∷ b5 ∷ b6 ∷ b7 ∷ []) (g2 ++ (g3 ++ (g4 ++ (g5 ++ (g6 ++ (g7 ++ [])))))) ≡ box_at b2 g2 ++ (box_at b3 g3 ++ (box_at b4 g4 ++ (box_at b5 g5 ++ (box_at b6 g6 ++ (box_at b7 g7 ++ []))))) = through_cons b2 (b3 ∷ b4 ∷ b5 ∷ b6 ∷ b7 ∷ []) g2 (g3 ++ (g4 ++ (g5 ++ (g6 ++ (g7 ++ []))))) h2 ∙ ap (λ (l : List ℕ). box_at b2 g2 ++ l) t3 in
    let t1 : through (b1 ∷ b2 ∷ b3 ∷ b4 ∷ b5 ∷ b6 ∷ b7 ∷ []) (g1 ++ (g2 ++ (g3 ++ (g4 ++ (g5 ++ (g6 ++ (g7 ++ []))))))) ≡ box_at b1 g1 ++ (box_at b2 g2 ++ (box_at b3 g3 ++ (box_at b4 g4 ++ (box_at b5 g5 ++ (box_at b6 g6 ++ (box_at b7 g7 ++ [])))))) = through_cons b1 (b2 ∷ b3 ∷ b4 ∷ b5 ∷ b6 ∷ b7 ∷ []) g1 (g2 ++ (g3 ++ (g4 ++ (g5 ++ (g6 ++ (g7 ++ [])))))) h1 ∙ ap (λ (l : List ℕ). box_at b1 g1 ++ l) t2 in
    let t0 : through (b0 ∷ b1 ∷ b2 ∷ b3 ∷ b4 ∷ b5 ∷ b6 ∷ b7 ∷ []) (g0 ++ (g1 ++ (g2 ++ (g3 ++ (g4 ++ (g5 ++ (g6 ++ (g7 ++ [])))))))) ≡ box_at b0 g0 ++ (box_at b1 g1 ++ (box_at b2 g2 ++ (box_at b3 g3 ++ (box_at b4 g4 ++ (box_at b5 g5 ++ (box_at b6 g6 ++ (box_at b7 g7 ++ []))))))) = through_cons b0 (b1 ∷ b2 ∷ b3 ∷ b4 ∷ b5 ∷ b6 ∷ b7 ∷ []) g0 (g1 ++ (g2 ++ (g3 ++ (g4 ++ (g5 ++ (g6 ++ (g7 ++ []))))))) h0 ∙ ap (λ (l : List ℕ). box_at b0 g0 ++ l) t1 in
    t0

groups : (r k : ℕ) → bit_sum (pick expansion (bits 32 r)) (key_bits k) ≡ bit_sum ((r / 2 ^ 0 % 2) ∷ (r / 2 ^ 31 % 2) ∷ (r / 2 ^ 30 % 2) ∷ (r / 2 ^ 29 % 2) ∷ (r / 2 ^ 28 % 2) ∷ (r / 2 ^ 27 % 2) ∷ []) (bits 6 (k / 2 ^ 32)) ++ (bit_sum ((r / 2 ^ 28 % 2) ∷ (r / 2 ^ 27 % 2) ∷ (r / 2 ^ 26 % 2) ∷ (r / 2 ^ 25 % 2) ∷ (r / 2 ^ 24 % 2) ∷ (r / 2 ^ 23 % 2) ∷ []) (bits 6 (k)) ++ (bit_sum ((r / 2 ^ 24 % 2) ∷ (r / 2 ^ 23 % 2) ∷ (r / 2 ^ 22 % 2) ∷ (r / 2 ^ 21 % 2) ∷ (r / 2 ^ 20 % 2) ∷ (r / 2 ^ 19 % 2) ∷ []) (bits 6 (k / 2 ^ 56)) ++ (bit_sum ((r / 2 ^ 20 % 2) ∷ (r / 2 ^ 19 % 2) ∷ (r / 2 ^ 18 % 2) ∷ (r / 2 ^ 17 % 2) ∷ (r / 2 ^ 16 % 2) ∷ (r / 2 ^ 15 % 2) ∷ []) (bits 6 (k / 2 ^ 24)) ++ (bit_sum ((r / 2 ^ 16 % 2) ∷ (r / 2 ^ 15 % 2) ∷ (r / 2 ^ 14 % 2) ∷ (r / 2 ^ 13 % 2) ∷ (r / 2 ^ 12 % 2) ∷ (r / 2 ^ 11 % 2) ∷ []) (bits 6 (k / 2 ^ 48)) ++ (bit_sum ((r / 2 ^ 12 % 2) ∷ (r / 2 ^ 11 % 2) ∷ (r / 2 ^ 10 % 2) ∷ (r / 2 ^ 9 % 2) ∷ (r / 2 ^ 8 % 2) ∷ (r / 2 ^ 7 % 2) ∷ []) (bits 6 (k / 2 ^ 16)) ++ (bit_sum ((r / 2 ^ 8 % 2) ∷ (r / 2 ^ 7 % 2) ∷ (r / 2 ^ 6 % 2) ∷ (r / 2 ^ 5 % 2) ∷ (r / 2 ^ 4 % 2) ∷ (r / 2 ^ 3 % 2) ∷ []) (bits 6 (k / 2 ^ 40)) ++ (bit_sum ((r / 2 ^ 4 % 2) ∷ (r / 2 ^ 3 % 2) ∷ (r / 2 ^ 2 % 2) ∷ (r / 2 ^ 1 % 2) ∷ (r / 2 ^ 0 % 2) ∷ (r / 2 ^ 31 % 2) ∷ []) (bits 6 (k / 2 ^ 8)) ++ [])))))))
unfolding bits pick expansion key_bits
groups r k = refl

-- one more S-box
box_step : (front : List ℕ) (n w v x : ℕ) → n < 8 → length front ≡ 4 * n → bits 32 w ≡ pick permutation (front ++ zeros (4 * (8 - n)))
    → bits 32 v ≡ pick permutation (box_alone n x)
    → bits 32 (bit_xor w v) ≡ pick permutation ((front ++ box_at (get_or boxes n []) (bits 6 x)) ++ zeros (4 * (7 - n)))
box_step front n w v x h size ew ev =
    let part : List ℕ = box_at (get_or boxes n []) (bits 6 x) in
    let four : length part ≡ 4 = length_box (get_or boxes n []) (bits 6 x) in
    pick_step (bits 32) (bits_xor 32) permutation front part w v (4 * (8 - n)) (4 * (7 - n)) ew
    (ev ∙ ap (λ (k : ℕ). pick permutation (zeros k ++ (part ++ zeros (4 * (7 - n))))) (sym size)) (omega arith)
    ∙ ap (pick permutation) (sym (append_assoc front part (zeros (4 * (7 - n)))))

length_more : (front : List ℕ) (box : List (List ℕ)) (g : List ℕ) (n m : ℕ) → length front ≡ n → n + 4 ≡ m → length (front ++ box_at box g) ≡ m
length_more front box g n m h e = length-append front (box_at box g) ∙ omega (arith, h, length_box box g)

boxes_sum : (v0 v1 v2 v3 v4 v5 v6 v7 x0 x1 x2 x3 x4 x5 x6 x7 : ℕ) → bits 32 v0 ≡ pick permutation (box_alone 0 x0) → bits 32 v1 ≡ pick permutation (box_alone 1 x1) → bits 32 v2 ≡ pick permutation (box_alone 2 x2) → bits 32 v3 ≡ pick permutation (box_alone 3 x3) → bits 32 v4 ≡ pick permutation (box_alone 4 x4) → bits 32 v5 ≡ pick permutation (box_alone 5 x5) → bits 32 v6 ≡ pick permutation (box_alone 6 x6) → bits 32 v7 ≡ pick permutation (box_alone 7 x7)
    → bits 32 (bit_xor (bit_xor (bit_xor (bit_xor (bit_xor (bit_xor (bit_xor v0 v1) v2) v3) v4) v5) v6) v7) ≡ pick permutation (((((((box_at (get_or boxes 0 []) (bits 6 x0) ++ box_at (get_or boxes 1 []) (bits 6 x1)) ++ box_at (get_or boxes 2 []) (bits 6 x2)) ++ box_at (get_or boxes 3 []) (bits 6 x3)) ++ box_at (get_or boxes 4 []) (bits 6 x4)) ++ box_at (get_or boxes 5 []) (bits 6 x5)) ++ box_at (get_or boxes 6 []) (bits 6 x6)) ++ box_at (get_or boxes 7 []) (bits 6 x7))
boxes_sum v0 v1 v2 v3 v4 v5 v6 v7 x0 x1 x2 x3 x4 x5 x6 x7 e0 e1 e2 e3 e4 e5 e6 e7 =
    let l1 : length (box_at (get_or boxes 0 []) (bits 6 x0)) ≡ 4 = length_box (get_or boxes 0 []) (bits 6 x0) in
    let s1 = box_step (box_at (get_or boxes 0 []) (bits 6 x0)) 1 (v0) v1 x1 (omega arith) l1 e0 e1 in
    let l2 : length (box_at (get_or boxes 0 []) (bits 6 x0) ++ box_at (get_or boxes 1 []) (bits 6 x1)) ≡ 8 = length_more (box_at (get_or boxes 0 []) (bits 6 x0)) (get_or boxes 1 []) (bits 6 x1) 4 8 l1 refl in
    let s2 = box_step (box_at (get_or boxes 0 []) (bits 6 x0) ++ box_at (get_or boxes 1 []) (bits 6 x1)) 2 (bit_xor v0 v1) v2 x2 (omega arith) l2 s1 e2 in
    let l3 : length ((box_at (get_or boxes 0 []) (bits 6 x0) ++ box_at (get_or boxes 1 []) (bits 6 x1)) ++ box_at (get_or boxes 2 []) (bits 6 x2)) ≡ 12 = length_more (box_at (get_or boxes 0 []) (bits 6 x0) ++ box_at (get_or boxes 1 []) (bits 6 x1)) (get_or boxes 2 []) (bits 6 x2) 8 12 l2 refl in
    let s3 = box_step ((box_at (get_or boxes 0 []) (bits 6 x0) ++ box_at (get_or boxes 1 []) (bits 6 x1)) ++ box_at (get_or boxes 2 []) (bits 6 x2)) 3 (bit_xor (bit_xor v0 v1) v2) v3 x3 (omega arith) l3 s2 e3 in
    let l4 : length (((box_at (get_or boxes 0 []) (bits 6 x0) ++ box_at (get_or boxes 1 []) (bits 6 x1)) ++ box_at (get_or boxes 2 []) (bits 6 x2)) ++ box_at (get_or boxes 3 []) (bits 6 x3)) ≡ 16 = length_more ((box_at (get_or boxes 0 []) (bits 6 x0) ++ box_at (get_or boxes 1 []) (bits 6 x1)) ++ box_at (get_or boxes 2 []) (bits 6 x2)) (get_or boxes 3 []) (bits 6 x3) 12 16 l3 refl in
    let s4 = box_step (((box_at (get_or boxes 0 []) (bits 6 x0) ++ box_at (get_or boxes 1 []) (bits 6 x1)) ++ box_at (get_or boxes 2 []) (bits 6 x2)) ++ box_at (get_or boxes 3 []) (bits 6 x3)) 4 (bit_xor (bit_xor (bit_xor v0 v1) v2) v3) v4 x4 (omega arith) l4 s3 e4 in
    let l5 : length ((((box_at (get_or boxes 0 []) (bits 6 x0) ++ box_at (get_or boxes 1 []) (bits 6 x1)) ++ box_at (get_or boxes 2 []) (bits 6 x2)) ++ box_at (get_or boxes 3 []) (bits 6 x3)) ++ box_at (get_or boxes 4 []) (bits 6 x4)) ≡ 20 = length_more (((box_at (get_or boxes 0 []) (bits 6 x0) ++ box_at (get_or boxes 1 []) (bits 6 x1)) ++ box_at (get_or boxes 2 []) (bits 6 x2)) ++ box_at (get_or boxes 3 []) (bits 6 x3)) (get_or boxes 4 []) (bits 6 x4) 16 20 l4 refl in
    let s5 = box_step ((((box_at (get_or boxes 0 []) (bits 6 x0) ++ box_at (get_or boxes 1 []) (bits 6 x1)) ++ box_at (get_or boxes 2 []) (bits 6 x2)) ++ box_at (get_or boxes 3 []) (bits 6 x3)) ++ box_at (get_or boxes 4 []) (bits 6 x4)) 5 (bit_xor (bit_xor (bit_xor (bit_xor v0 v1) v2) v3) v4) v5 x5 (omega arith) l5 s4 e5 in
    let l6 : length (((((box_at (get_or boxes 0 []) (bits 6 x0) ++ box_at (get_or boxes 1 []) (bits 6 x1)) ++ box_at (get_or boxes 2 []) (bits 6 x2)) ++ box_at (get_or boxes 3 []) (bits 6 x3)) ++ box_at (get_or boxes 4 []) (bits 6 x4)) ++ box_at (get_or boxes 5 []) (bits 6 x5)) ≡ 24 = length_more ((((box_at (get_or boxes 0 []) (bits 6 x0) ++ box_at (get_or boxes 1 []) (bits 6 x1)) ++ box_at (get_or boxes 2 []) (bits 6 x2)) ++ box_at (get_or boxes 3 []) (bits 6 x3)) ++ box_at (get_or boxes 4 []) (bits 6 x4)) (get_or boxes 5 []) (bits 6 x5) 20 24 l5 refl in
    let s6 = box_step (((((box_at (get_or boxes 0 []) (bits 6 x0) ++ box_at (get_or boxes 1 []) (bits 6 x1)) ++ box_at (get_or boxes 2 []) (bits 6 x2)) ++ box_at (get_or boxes 3 []) (bits 6 x3)) ++ box_at (get_or boxes 4 []) (bits 6 x4)) ++ box_at (get_or boxes 5 []) (bits 6 x5)) 6 (bit_xor (bit_xor (bit_xor (bit_xor (bit_xor v0 v1) v2) v3) v4) v5) v6 x6 (omega arith) l6 s5 e6 in
    let l7 : length ((((((box_at (get_or boxes 0 []) (bits 6 x0) ++ box_at (get_or boxes 1 []) (bits 6 x1)) ++ box_at (get_or boxes 2 []) (bits 6 x2)) ++ box_at (get_or boxes 3 []) (bits 6 x3)) ++ box_at (get_or boxes 4 []) (bits 6 x4)) ++ box_at (get_or boxes 5 []) (bits 6 x5)) ++ box_at (get_or boxes 6 []) (bits 6 x6)) ≡ 28 = length_more (((((box_at (get_or boxes 0 []) (bits 6 x0) ++ box_at (get_or boxes 1 []) (bits 6 x1)) ++ box_at (get_or boxes 2 []) (bits 6 x2)) ++ box_at (get_or boxes 3 []) (bits 6 x3)) ++ box_at (get_or boxes 4 []) (bits 6 x4)) ++ box_at (get_or boxes 5 []) (bits 6 x5)) (get_or boxes 6 []) (bits 6 x6) 24 28 l6 refl in
    let s7 = box_step ((((((box_at (get_or boxes 0 []) (bits 6 x0) ++ box_at (get_or boxes 1 []) (bits 6 x1)) ++ box_at (get_or boxes 2 []) (bits 6 x2)) ++ box_at (get_or boxes 3 []) (bits 6 x3)) ++ box_at (get_or boxes 4 []) (bits 6 x4)) ++ box_at (get_or boxes 5 []) (bits 6 x5)) ++ box_at (get_or boxes 6 []) (bits 6 x6)) 7 (bit_xor (bit_xor (bit_xor (bit_xor (bit_xor (bit_xor v0 v1) v2) v3) v4) v5) v6) v7 x7 (omega arith) l7 s6 e7 in
    s7 ∙ ap (pick permutation) (append-nil (((((((box_at (get_or boxes 0 []) (bits 6 x0) ++ box_at (get_or boxes 1 []) (bits 6 x1)) ++ box_at (get_or boxes 2 []) (bits 6 x2)) ++ box_at (get_or boxes 3 []) (bits 6 x3)) ++ box_at (get_or boxes 4 []) (bits 6 x4)) ++ box_at (get_or boxes 5 []) (bits 6 x5)) ++ box_at (get_or boxes 6 []) (bits 6 x6)) ++ box_at (get_or boxes 7 []) (bits 6 x7)))

regrouped : (a b c d e f g h : List ℕ) → (((((((a) ++ b) ++ c) ++ d) ++ e) ++ f) ++ g) ++ h ≡ a ++ (b ++ (c ++ (d ++ (e ++ (f ++ (g ++ (h ++ [])))))))
regrouped a b c d e f g h = simp (append_assoc, append-nil)

pub f_open : (r k : List ℕ) → f r k ≡ pick permutation (through boxes (bit_sum (pick expansion r) k))
unfolding f
f_open r k = refl

-- the cipher function as the sum of the permuted values of the S-boxes
pub f_is : (r k v0 v1 v2 v3 v4 v5 v6 v7 x0 x1 x2 x3 x4 x5 x6 x7 : ℕ) → r < 2 ^ 32
    → x0 ≡ bit_xor (rotate_left w32 r 5) (k / 2 ^ 32) / 2 ^ 0 % 64
    → x1 ≡ bit_xor (rotate_left w32 r 9) (k % 2 ^ 32) / 2 ^ 0 % 64
    → x2 ≡ bit_xor (rotate_left w32 r 5) (k / 2 ^ 32) / 2 ^ 24 % 64
    → x3 ≡ bit_xor (rotate_left w32 r 9) (k % 2 ^ 32) / 2 ^ 24 % 64
    → x4 ≡ bit_xor (rotate_left w32 r 5) (k / 2 ^ 32) / 2 ^ 16 % 64
    → x5 ≡ bit_xor (rotate_left w32 r 9) (k % 2 ^ 32) / 2 ^ 16 % 64
    → x6 ≡ bit_xor (rotate_left w32 r 5) (k / 2 ^ 32) / 2 ^ 8 % 64
    → x7 ≡ bit_xor (rotate_left w32 r 9) (k % 2 ^ 32) / 2 ^ 8 % 64
    → bits 32 v0 ≡ pick permutation (box_alone 0 x0)
    → bits 32 v1 ≡ pick permutation (box_alone 1 x1)
    → bits 32 v2 ≡ pick permutation (box_alone 2 x2)
    → bits 32 v3 ≡ pick permutation (box_alone 3 x3)
    → bits 32 v4 ≡ pick permutation (box_alone 4 x4)
    → bits 32 v5 ≡ pick permutation (box_alone 5 x5)
    → bits 32 v6 ≡ pick permutation (box_alone 6 x6)
    → bits 32 v7 ≡ pick permutation (box_alone 7 x7)
    → bits 32 (bit_xor (bit_xor (bit_xor (bit_xor (bit_xor (bit_xor (bit_xor v0 v1) v2) v3) v4) v5) v6) v7) ≡ f (bits 32 r) (key_bits k)
f_is r k v0 v1 v2 v3 v4 v5 v6 v7 x0 x1 x2 x3 x4 x5 x6 x7 h q0 q1 q2 q3 q4 q5 q6 q7 e0 e1 e2 e3 e4 e5 e6 e7 =
    let y0 : List ℕ = bit_sum ((r / 2 ^ 0 % 2) ∷ (r / 2 ^ 31 % 2) ∷ (r / 2 ^ 30 % 2) ∷ (r / 2 ^ 29 % 2) ∷ (r / 2 ^ 28 % 2) ∷ (r / 2 ^ 27 % 2) ∷ []) (bits 6 (k / 2 ^ 32)) in
    let b0 : bits 6 x0 ≡ y0 = ap (bits 6) q0 ∙ six0 r k h in
    let y1 : List ℕ = bit_sum ((r / 2 ^ 28 % 2) ∷ (r / 2 ^ 27 % 2) ∷ (r / 2 ^ 26 % 2) ∷ (r / 2 ^ 25 % 2) ∷ (r / 2 ^ 24 % 2) ∷ (r / 2 ^ 23 % 2) ∷ []) (bits 6 (k)) in
    let b1 : bits 6 x1 ≡ y1 = ap (bits 6) q1 ∙ six1 r k h in
    let y2 : List ℕ = bit_sum ((r / 2 ^ 24 % 2) ∷ (r / 2 ^ 23 % 2) ∷ (r / 2 ^ 22 % 2) ∷ (r / 2 ^ 21 % 2) ∷ (r / 2 ^ 20 % 2) ∷ (r / 2 ^ 19 % 2) ∷ []) (bits 6 (k / 2 ^ 56)) in
    let b2 : bits 6 x2 ≡ y2 = ap (bits 6) q2 ∙ six2 r k h in
    let y3 : List ℕ = bit_sum ((r / 2 ^ 20 % 2) ∷ (r / 2 ^ 19 % 2) ∷ (r / 2 ^ 18 % 2) ∷ (r / 2 ^ 17 % 2) ∷ (r / 2 ^ 16 % 2) ∷ (r / 2 ^ 15 % 2) ∷ []) (bits 6 (k / 2 ^ 24)) in
    let b3 : bits 6 x3 ≡ y3 = ap (bits 6) q3 ∙ six3 r k h in
    let y4 : List ℕ = bit_sum ((r / 2 ^ 16 % 2) ∷ (r / 2 ^ 15 % 2) ∷ (r / 2 ^ 14 % 2) ∷ (r / 2 ^ 13 % 2) ∷ (r / 2 ^ 12 % 2) ∷ (r / 2 ^ 11 % 2) ∷ []) (bits 6 (k / 2 ^ 48)) in
    let b4 : bits 6 x4 ≡ y4 = ap (bits 6) q4 ∙ six4 r k h in
    let y5 : List ℕ = bit_sum ((r / 2 ^ 12 % 2) ∷ (r / 2 ^ 11 % 2) ∷ (r / 2 ^ 10 % 2) ∷ (r / 2 ^ 9 % 2) ∷ (r / 2 ^ 8 % 2) ∷ (r / 2 ^ 7 % 2) ∷ []) (bits 6 (k / 2 ^ 16)) in
    let b5 : bits 6 x5 ≡ y5 = ap (bits 6) q5 ∙ six5 r k h in
    let y6 : List ℕ = bit_sum ((r / 2 ^ 8 % 2) ∷ (r / 2 ^ 7 % 2) ∷ (r / 2 ^ 6 % 2) ∷ (r / 2 ^ 5 % 2) ∷ (r / 2 ^ 4 % 2) ∷ (r / 2 ^ 3 % 2) ∷ []) (bits 6 (k / 2 ^ 40)) in
    let b6 : bits 6 x6 ≡ y6 = ap (bits 6) q6 ∙ six6 r k h in
    let y7 : List ℕ = bit_sum ((r / 2 ^ 4 % 2) ∷ (r / 2 ^ 3 % 2) ∷ (r / 2 ^ 2 % 2) ∷ (r / 2 ^ 1 % 2) ∷ (r / 2 ^ 0 % 2) ∷ (r / 2 ^ 31 % 2) ∷ []) (bits 6 (k / 2 ^ 8)) in
    let b7 : bits 6 x7 ≡ y7 = ap (bits 6) q7 ∙ six7 r k h in
    let all : through boxes (bit_sum (pick expansion (bits 32 r)) (key_bits k)) ≡ box_at (get_or boxes 0 []) y0 ++ (box_at (get_or boxes 1 []) y1 ++ (box_at (get_or boxes 2 []) y2 ++ (box_at (get_or boxes 3 []) y3 ++ (box_at (get_or boxes 4 []) y4 ++ (box_at (get_or boxes 5 []) y5 ++ (box_at (get_or boxes 6 []) y6 ++ (box_at (get_or boxes 7 []) y7 ++ []))))))) =
    ap (through boxes) (groups r k) ∙ ap (λ (x : List (List (List ℕ))). through x (y0 ++ (y1 ++ (y2 ++ (y3 ++ (y4 ++ (y5 ++ (y6 ++ (y7 ++ []))))))))) eight_boxes
    ∙ through_eight (get_or boxes 0 []) (get_or boxes 1 []) (get_or boxes 2 []) (get_or boxes 3 []) (get_or boxes 4 []) (get_or boxes 5 []) (get_or boxes 6 []) (get_or boxes 7 []) y0 y1 y2 y3 y4 y5 y6 y7 (length_added6 r (k / 2 ^ 32) ((r / 2 ^ 0 % 2) ∷ (r / 2 ^ 31 % 2) ∷ (r / 2 ^ 30 % 2) ∷ (r / 2 ^ 29 % 2) ∷ (r / 2 ^ 28 % 2) ∷ (r / 2 ^ 27 % 2) ∷ []) refl) (length_added6 r (k) ((r / 2 ^ 28 % 2) ∷ (r / 2 ^ 27 % 2) ∷ (r / 2 ^ 26 % 2) ∷ (r / 2 ^ 25 % 2) ∷ (r / 2 ^ 24 % 2) ∷ (r / 2 ^ 23 % 2) ∷ []) refl) (length_added6 r (k / 2 ^ 56) ((r / 2 ^ 24 % 2) ∷ (r / 2 ^ 23 % 2) ∷ (r / 2 ^ 22 % 2) ∷ (r / 2 ^ 21 % 2) ∷ (r / 2 ^ 20 % 2) ∷ (r / 2 ^ 19 % 2) ∷ []) refl) (length_added6 r (k / 2 ^ 24) ((r / 2 ^ 20 % 2) ∷ (r / 2 ^ 19 % 2) ∷ (r / 2 ^ 18 % 2) ∷ (r / 2 ^ 17 % 2) ∷ (r / 2 ^ 16 % 2) ∷ (r / 2 ^ 15 % 2) ∷ []) refl) (length_added6 r (k / 2 ^ 48) ((r / 2 ^ 16 % 2) ∷ (r / 2 ^ 15 % 2) ∷ (r / 2 ^ 14 % 2) ∷ (r / 2 ^ 13 % 2) ∷ (r / 2 ^ 12 % 2) ∷ (r / 2 ^ 11 % 2) ∷ []) refl) (length_added6 r (k / 2 ^ 16) ((r / 2 ^ 12 % 2) ∷ (r / 2 ^ 11 % 2) ∷ (r / 2 ^ 10 % 2) ∷ (r / 2 ^ 9 % 2) ∷ (r / 2 ^ 8 % 2) ∷ (r / 2 ^ 7 % 2) ∷ []) refl) (length_added6 r (k / 2 ^ 40) ((r / 2 ^ 8 % 2) ∷ (r / 2 ^ 7 % 2) ∷ (r / 2 ^ 6 % 2) ∷ (r / 2 ^ 5 % 2) ∷ (r / 2 ^ 4 % 2) ∷ (r / 2 ^ 3 % 2) ∷ []) refl) (length_added6 r (k / 2 ^ 8) ((r / 2 ^ 4 % 2) ∷ (r / 2 ^ 3 % 2) ∷ (r / 2 ^ 2 % 2) ∷ (r / 2 ^ 1 % 2) ∷ (r / 2 ^ 0 % 2) ∷ (r / 2 ^ 31 % 2) ∷ []) refl) in
    let sum = boxes_sum v0 v1 v2 v3 v4 v5 v6 v7 x0 x1 x2 x3 x4 x5 x6 x7 e0 e1 e2 e3 e4 e5 e6 e7 in
    sum
    ∙ ap (λ (l : List ℕ). pick permutation ((((((((box_at (get_or boxes 0 []) l) ++ box_at (get_or boxes 1 []) (bits 6 x1)) ++ box_at (get_or boxes 2 []) (bits 6 x2)) ++ box_at (get_or boxes 3 []) (bits 6 x3)) ++ box_at (get_or boxes 4 []) (bits 6 x4)) ++ box_at (get_or boxes 5 []) (bits 6 x5)) ++ box_at (get_or boxes 6 []) (bits 6 x6)) ++ box_at (get_or boxes 7 []) (bits 6 x7))) b0
    ∙ ap (λ (l : List ℕ). pick permutation ((((((((box_at (get_or boxes 0 []) y0) ++ box_at (get_or boxes 1 []) l) ++ box_at (get_or boxes 2 []) (bits 6 x2)) ++ box_at (get_or boxes 3 []) (bits 6 x3)) ++ box_at (get_or boxes 4 []) (bits 6 x4)) ++ box_at (get_or boxes 5 []) (bits 6 x5)) ++ box_at (get_or boxes 6 []) (bits 6 x6)) ++ box_at (get_or boxes 7 []) (bits 6 x7))) b1
    ∙ ap (λ (l : List ℕ). pick permutation ((((((((box_at (get_or boxes 0 []) y0) ++ box_at (get_or boxes 1 []) y1) ++ box_at (get_or boxes 2 []) l) ++ box_at (get_or boxes 3 []) (bits 6 x3)) ++ box_at (get_or boxes 4 []) (bits 6 x4)) ++ box_at (get_or boxes 5 []) (bits 6 x5)) ++ box_at (get_or boxes 6 []) (bits 6 x6)) ++ box_at (get_or boxes 7 []) (bits 6 x7))) b2
    ∙ ap (λ (l : List ℕ). pick permutation ((((((((box_at (get_or boxes 0 []) y0) ++ box_at (get_or boxes 1 []) y1) ++ box_at (get_or boxes 2 []) y2) ++ box_at (get_or boxes 3 []) l) ++ box_at (get_or boxes 4 []) (bits 6 x4)) ++ box_at (get_or boxes 5 []) (bits 6 x5)) ++ box_at (get_or boxes 6 []) (bits 6 x6)) ++ box_at (get_or boxes 7 []) (bits 6 x7))) b3
    ∙ ap (λ (l : List ℕ). pick permutation ((((((((box_at (get_or boxes 0 []) y0) ++ box_at (get_or boxes 1 []) y1) ++ box_at (get_or boxes 2 []) y2) ++ box_at (get_or boxes 3 []) y3) ++ box_at (get_or boxes 4 []) l) ++ box_at (get_or boxes 5 []) (bits 6 x5)) ++ box_at (get_or boxes 6 []) (bits 6 x6)) ++ box_at (get_or boxes 7 []) (bits 6 x7))) b4
    ∙ ap (λ (l : List ℕ). pick permutation ((((((((box_at (get_or boxes 0 []) y0) ++ box_at (get_or boxes 1 []) y1) ++ box_at (get_or boxes 2 []) y2) ++ box_at (get_or boxes 3 []) y3) ++ box_at (get_or boxes 4 []) y4) ++ box_at (get_or boxes 5 []) l) ++ box_at (get_or boxes 6 []) (bits 6 x6)) ++ box_at (get_or boxes 7 []) (bits 6 x7))) b5
    ∙ ap (λ (l : List ℕ). pick permutation ((((((((box_at (get_or boxes 0 []) y0) ++ box_at (get_or boxes 1 []) y1) ++ box_at (get_or boxes 2 []) y2) ++ box_at (get_or boxes 3 []) y3) ++ box_at (get_or boxes 4 []) y4) ++ box_at (get_or boxes 5 []) y5) ++ box_at (get_or boxes 6 []) l) ++ box_at (get_or boxes 7 []) (bits 6 x7))) b6
    ∙ ap (λ (l : List ℕ). pick permutation ((((((((box_at (get_or boxes 0 []) y0) ++ box_at (get_or boxes 1 []) y1) ++ box_at (get_or boxes 2 []) y2) ++ box_at (get_or boxes 3 []) y3) ++ box_at (get_or boxes 4 []) y4) ++ box_at (get_or boxes 5 []) y5) ++ box_at (get_or boxes 6 []) y6) ++ box_at (get_or boxes 7 []) l)) b7
    ∙ ap (pick permutation) (regrouped (box_at (get_or boxes 0 []) y0) (box_at (get_or boxes 1 []) y1) (box_at (get_or boxes 2 []) y2) (box_at (get_or boxes 3 []) y3) (box_at (get_or boxes 4 []) y4) (box_at (get_or boxes 5 []) y5) (box_at (get_or boxes 6 []) y6) (box_at (get_or boxes 7 []) y7) ∙ sym all)
    ∙ sym (f_open (bits 32 r) (key_bits k))

-- the six bits that the code takes out of a rotated half plus a round key
pub six_odd : (x r r' k low : ℕ) → x ≡ bit_xor r' k / 2 ^ low % 64 → r' ≡ r → x ≡ bit_xor r k / 2 ^ low % 64
six_odd x r r' k low e er = e ∙ ap (λ (y : ℕ). bit_xor y k / 2 ^ low % 64) er

pub six_even : (x r r' k low : ℕ) → x ≡ bit_xor r' (bit_and k (2 ^ 32 - 1)) / 2 ^ low % 64 → r' ≡ r → x ≡ bit_xor r (k % 2 ^ 32) / 2 ^ low % 64
six_even x r r' k low e er = e ∙ ap (λ (y : ℕ). bit_xor y (bit_and k (2 ^ 32 - 1)) / 2 ^ low % 64) er ∙ ap (λ (y : ℕ). bit_xor r y / 2 ^ low % 64) (and_mask k 32)
