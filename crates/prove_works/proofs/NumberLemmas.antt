-- Numbers of at most 16 bytes.
use Rattle.std.proofs.Common.{◌≡◌, ◌∙◌, ℕ, ◌+◌, ◌-◌, ◌*◌, ◌^◌, ◌<◌, ◌≤◌, List, length, get_or, drop, refl, sym, ap, arith}
use Rattle.std.proofs.Math.Nat.{pow-le-pow_right}
use Rattle.std.proofs.lemmas.List.{drop_all}
use Rattle.model_device.specs.Bytes.{num, AreBytes}
use Rattle.mc_arith.specs.law_rows.proofs.BlockLemmas.{num_below, pow_positive}
use Rattle.mc_arith.specs.law_rows.proofs.StepLemmas.{num_drop, pow_at}

gathered : (n p b r t : ℕ) → n * (256 * p) + (b * p + r) ≡ t → (n * 256 + b) * p + r ≡ t
gathered n p b r t h = grind (arith, h)

-- the number so far takes the next byte
pub number_next : (l : List ℕ) (n i t : ℕ) → i < length l → n * 256 ^ (length l - i) + num (drop i l) ≡ t
    → (n * 256 + get_or l i 0) * 256 ^ (length l - (i + 1)) + num (drop (i + 1) l) ≡ t
number_next l n i t h e =
    gathered n (256 ^ (length l - (i + 1))) (get_or l i 0) (num (drop (i + 1) l)) t
    (ap (λ (k : ℕ). n * k + (get_or l i 0 * 256 ^ (length l - (i + 1)) + num (drop (i + 1) l))) (sym (pow_at (length l) (i + 1) i refl h))
    ∙ ap (λ (k : ℕ). n * 256 ^ (length l - i) + k) (sym (num_drop l (i + 1) i refl h))
    ∙ e)

times_more : (n p : ℕ) → 0 < p → n ≤ n * p
times_more n p h = grind (arith, h)

below_sixteen : (n : ℕ) → n ≤ 16 → 256 ^ n ≤ 256 ^ 16
below_sixteen n h = pow-le-pow_right {n = 256} (omega arith) {i = n} {j = 16} h

-- the number so far with the next byte fits 16 bytes
pub number_fits : (l : List ℕ) (n i : ℕ) → AreBytes l → length l ≤ 16 → i < length l → n * 256 ^ (length l - i) + num (drop i l) ≡ num l
    → n * 256 + get_or l i 0 < 256 ^ 16
number_fits l n i a s h e =
    let m = n * 256 + get_or l i 0 in
    let p = 256 ^ (length l - (i + 1)) in
    let all : m * p + num (drop (i + 1) l) ≡ num l = number_next l n i (num l) h e in
    let some : m ≤ m * p = times_more m p (pow_positive (length l - (i + 1))) in
    let low : num l < 256 ^ length l = num_below l a in
    let most : 256 ^ length l ≤ 256 ^ 16 = below_sixteen (length l) s in
    omega (arith, all, some, low, most)

once : (n : ℕ) → n * 1 + 0 ≡ n
once n = omega arith

-- the last turn: nothing is left
pub number_all : (l : List ℕ) (n i : ℕ) → i ≡ length l → n * 256 ^ (length l - i) + num (drop i l) ≡ num l → n ≡ num l
number_all l n i e h =
    let z : length l - i ≡ 0 = omega (arith, e) in
    sym (once n)
    ∙ ap (λ (k : ℕ). n * 256 ^ k + 0) (sym z)
    ∙ ap (λ (r : List ℕ). n * 256 ^ (length l - i) + num r) (sym (drop_all i l (omega (arith, e))))
    ∙ h

pub below_greatest : (l : List ℕ) (n : ℕ) → AreBytes l → n ≡ num l → n ≤ 256 ^ length l - 1
below_greatest l n a e = let low = num_below l a in omega (arith, low, e)

pub two_after : (n most low : ℕ) → most ≡ 256 ^ n - 1 → low ≡ most + 2 → low ≡ 256 ^ n - 0 + 1
two_after n most low e h = let p = pow_positive n in omega (arith, e, h, p)

pub pair_is : (a b c d : ℕ) → a ≡ c → b ≡ d → ◌≡◌ {A = ℕ × ℕ} (a, b) (c, d)
pair_is a b c d e f = ap (λ (k : ℕ). (k, b)) e ∙ ap (λ (k : ℕ). (c, k)) f
