-- Numbers modulo 256 ^ n and modulo 256 ^ 16.
use Rattle.std.specs.Prelude.{◌≡◌, ℕ, ◌+◌, ◌-◌, ◌*◌, ◌/◌, ◌%◌, ◌^◌, ◌<◌, ◌≤◌}
use Rattle.std.proofs.Common.{arith, ap, sym, ◌∙◌}
use Rattle.std.proofs.Math.Nat.{one-le-pow, pow-le-pow_right, mod-eq_of_lt, mul-add-mod_self_right, mul-mod_left, add-mul, mul_comm}
use Rattle.std.proofs.lemmas.Nat.{pow-add, div-add-mod', mul-mod}
use Rattle.prove_forms.specs.Forms.{modulus}

pub power_some : (n : ℕ) → 0 < 256 ^ n
power_some n = let h : 1 ≤ 256 ^ n = one-le-pow n 256 (omega arith) in omega (arith, h)

pub power_below : (n k : ℕ) → n ≤ k → 256 ^ n ≤ 256 ^ k
power_below n k h = pow-le-pow_right {n = 256} (omega arith) h

-- a power of at most 15 bytes is a number of 16
pub power_fits : (n : ℕ) → n < 16 → 256 ^ n < modulus
power_fits n h = let below : 256 ^ n ≤ 256 ^ 15 = power_below n 15 (omega (arith, h)) in omega (arith, below)

-- what is left of a number modulo a multiple of another, modulo that
left_of : (k p x : ℕ) → x % (k * p) % p ≡ x % p
left_of k p x =
    let m : ℕ = k * p in
    let q : ℕ = x / m * k in
    let parts : x / m * m + x % m ≡ x = div-add-mod' x m in
    let whole : (q * p + x % m) % p ≡ x % m % p = mul-add-mod_self_right q p (x % m) in
    let same : x / m * m ≡ q * p = grind arith in
    sym (ap (λ (y : ℕ). y % p) (sym parts) ∙ ap (λ (y : ℕ). (y + x % m) % p) same ∙ whole)

-- modulo 256 ^ 16, then modulo less
pub lower : (n x : ℕ) → n ≤ 16 → x % modulus % 256 ^ n ≡ x % 256 ^ n
lower n x h =
    let some : 16 - n + n ≡ 16 = omega (arith, h) in
    let parts : 256 ^ (16 - n) * 256 ^ n ≡ modulus = sym (pow-add 256 (16 - n) n) ∙ ap (λ (i : ℕ). 256 ^ i) some in
    ap (λ (m : ℕ). x % m % 256 ^ n) (sym parts) ∙ left_of (256 ^ (16 - n)) (256 ^ n) x

-- ---- the greatest number of n bytes

one_less : (k m : ℕ) → 0 < k → 0 < m → k * m - 1 ≡ (k - 1) * m + (m - 1)
one_less k m h some =
    let whole : k ≡ k - 1 + 1 = omega (arith, h) in
    let parts : (k - 1 + 1) * m ≡ (k - 1) * m + 1 * m = add-mul (k - 1) 1 m in
    let same : k * m ≡ (k - 1 + 1) * m = ap (λ (x : ℕ). x * m) whole in
    omega (arith, parts, same, some)

-- of 16 bytes and more
pub mask_long : (n : ℕ) → 16 ≤ n → (256 ^ n - 1) % modulus ≡ modulus - 1
mask_long n h =
    let k : ℕ = 256 ^ (n - 16) in
    let some : n - 16 + 16 ≡ n = omega (arith, h) in
    let parts : k * modulus ≡ 256 ^ n = sym (pow-add 256 (n - 16) 16) ∙ ap (λ (i : ℕ). 256 ^ i) some in
    ap (λ (x : ℕ). (x - 1) % modulus) (sym parts) ∙ ap (λ (x : ℕ). x % modulus) (one_less k modulus (power_some (n - 16)) (power_some 16))
    ∙ mul-add-mod_self_right (k - 1) modulus (modulus - 1)

-- of less
pub mask_short : (n : ℕ) → n < 16 → (256 ^ n - 1) % modulus ≡ 256 ^ n - 1
mask_short n h = let below : 256 ^ n < modulus = power_fits n h in let less : 256 ^ n - 1 < modulus = omega (arith, below) in mod-eq_of_lt less

-- ---- multiples

-- a product modulo a number, of factors modulo it, in the other order
pub product_left : (k x m : ℕ) → (k * x) % m ≡ (x % m * (k % m)) % m
product_left k x m = ap (λ (y : ℕ). y % m) (mul_comm k x) ∙ mul-mod x k m

-- a number and as good as minus it make a multiple
pub cancels : (m c : ℕ) → 0 < m → (c + (m - 1) * c) % m ≡ 0
cancels m c h =
    let whole : m ≡ 1 + (m - 1) = omega (arith, h) in
    let parts : (1 + (m - 1)) * c ≡ 1 * c + (m - 1) * c = add-mul 1 (m - 1) c in
    let same : m * c ≡ (1 + (m - 1)) * c = ap (λ (x : ℕ). x * c) whole in
    let all : c + (m - 1) * c ≡ c * m = omega (arith, parts, same, mul_comm c m) in
    ap (λ (x : ℕ). x % m) all ∙ mul-mod_left c m
