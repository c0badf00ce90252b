-- Congruences modulo a number: sums of congruent numbers, and what is added to both sides.
use Rattle.std.specs.Prelude.{◌≡◌, ℕ, zero, suc, ◌+◌, ◌-◌, ◌*◌, ◌%◌, ◌^◌, ◌<◌}
use Rattle.std.proofs.Common.{arith, ap, sym, ◌∙◌}
use Rattle.std.proofs.Math.Nat.{pow-succ', add-mod, add-mul-mod_self_right, mul_comm, add-mul}

-- congruent numbers have congruent sums
pub add_same : (m a b c d : ℕ) → a % m ≡ b % m → c % m ≡ d % m → (a + c) % m ≡ (b + d) % m
add_same m a b c d p q = add-mod a c m ∙ ap (λ (x : ℕ). (x + c % m) % m) p ∙ ap (λ (x : ℕ). (b % m + x) % m) q ∙ sym (add-mod b d m)

-- a multiple of the modulus adds nothing
pub add_whole : (m a k : ℕ) → (a + k * m) % m ≡ a % m
add_whole m a k = add-mul-mod_self_right a k m

-- a number and one less than the modulus times it make a multiple
pub one_less_more : (m k : ℕ) → 0 < m → (m - 1) * k + k ≡ k * m
one_less_more m k h = grind (arith, add-mul, mul_comm)

-- there is a number of n bytes
pub power_positive : (n : ℕ) → 0 < 256 ^ n
power_positive zero = omega arith
power_positive (suc n) = rw (pow-succ' 256 n) (let h = power_positive n in omega (arith, h))
