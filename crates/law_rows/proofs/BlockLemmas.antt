-- Blocks as numbers: their size, and the block of a number.
use Rattle.std.proofs.Common.{◌≡◌, ℕ, zero, suc, ◌+◌, ◌*◌, ◌/◌, ◌%◌, ◌^◌, ◌<◌, ◌≤◌, Bool, List, [], ◌∷◌, length, refl, sym, ◌∙◌, ap, arith}
use Rattle.std.proofs.Math.Arith.{digits_div, digits_mod}
use Rattle.std.proofs.Math.Nat.{pow-succ'}
use Rattle.model_machine.specs.model_device.specs.Bytes.{num, bytes, AreBytes}
use Rattle.model_machine.specs.Blocks.{Worked, result_with_flags, is_zero}
use Rattle.model_machine.specs.model_device.proofs.ListLemmas.{length_bytes}

pub pow_more : (n : ℕ) → 256 ^ suc n ≡ 256 * 256 ^ n
pow_more n = pow-succ' 256 n

pub pow_positive : (n : ℕ) → 0 < 256 ^ n
pow_positive zero = omega arith
pow_positive (suc n) = rw (pow_more n) (let h = pow_positive n in omega (arith, h))

pub times_at_most : (p b c : ℕ) → b ≤ c → b * p ≤ c * p
times_at_most p b c h = grind (arith, h)

-- a block is below 256 to the power of its length
pub num_below : (l : List ℕ) → AreBytes l → num l < 256 ^ length l
num_below [] h = omega arith
num_below (b ∷ l) h =
    let below = num_below l h.1 in
    let top = times_at_most (256 ^ length l) b 255 (omega (arith, h.0)) in
    rw (pow_more (length l)) (omega (arith, below, top))

-- the last n bytes of the number of a block of n bytes are the block, whatever digits precede them
pub bytes_of : (l : List ℕ) (k : ℕ) → AreBytes l → bytes (length l) (num l + k * 256 ^ length l) ≡ l
bytes_of [] k h = refl
bytes_of (b ∷ l) k h =
    let below = num_below l h.1 in
    let same : num (b ∷ l) + k * 256 ^ length (b ∷ l) ≡ (b + 256 * k) * 256 ^ length l + num l = rw (pow_more (length l)) (omega arith) in
    let high : ((b + 256 * k) * 256 ^ length l + num l) / 256 ^ length l % 256 ≡ b = rw (digits_div (b + 256 * k) below) (omega (arith, h.0)) in
    let turned : (b + 256 * k) * 256 ^ length l + num l ≡ num l + (b + 256 * k) * 256 ^ length l = omega arith in
    rw same (ap (λ x. x ∷ bytes (length l) ((b + 256 * k) * 256 ^ length l + num l)) high ∙ ap (λ v. b ∷ bytes (length l) v) turned ∙ ap (λ r. b ∷ r) (bytes_of l (b + 256 * k) h.1))

-- the number of a block of n bytes is taken modulo 256 to the power of n
pub num_bytes : (n v : ℕ) → num (bytes n v) ≡ v % 256 ^ n
num_bytes zero v = omega arith
num_bytes (suc n) v =
    let p = 256 ^ n in
    let pos = pow_positive n in
    let low : v % p < p = omega (arith, pos) in
    let parts : v / p * p + v % p ≡ v = omega (arith, pos) in
    let digit : v / p / 256 * 256 + v / p % 256 ≡ v / p = omega arith in
    let top = times_at_most p (v / p % 256) 255 (omega arith) in
    let inside : v / p % 256 * p + v % p < 256 * p = omega (arith, top, low) in
    let scaled = ap (λ k. k * p) digit in
    let whole : v ≡ v / p / 256 * (256 * p) + (v / p % 256 * p + v % p) = omega (arith, scaled, parts) in
    let reduced : v % (256 * p) ≡ v / p % 256 * p + v % p = ap (λ k. k % (256 * p)) whole ∙ digits_mod (v / p / 256) inside in
    rw (length_bytes n v, num_bytes n v, pow_more n) (sym reduced)

-- a block with its flags is the result of v if v is its number with k in front
pub worked_is : (v : ℕ) (l : List ℕ) (k : ℕ) (c z c' : Bool) → AreBytes l → v ≡ num l + k * 256 ^ length l → c ≡ c' → z ≡ is_zero l → ◌≡◌ {A = Worked} (record { value = l; c = c; z = z }) (result_with_flags (length l) v c')
worked_is v l k c z c' h e ec ez =
    let same : bytes (length l) v ≡ l = rw e (bytes_of l k h) in
    rw (same, ez, ec) refl
