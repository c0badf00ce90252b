-- Shifts by one bit more.
use Rattle.std.proofs.Common.{◌≡◌, ℕ, zero, suc, ◌+◌, ◌-◌, ◌*◌, ◌/◌, ◌%◌, ◌^◌, ◌<◌, ◌≤◌, Bool, true, false, List, length, refl, sym, ◌∙◌, ap, subst, arith, pow-add}
use Rattle.std.specs.Prelude.{nat_eq}
use Rattle.std.proofs.lemmas.Nat.{pow_pos}
use Rattle.std.proofs.Math.Arith.{digits_div, digits_mod}
use Rattle.std.proofs.Math.Nat.{pow-succ', div-div-eq-div-mul, mul-div_cancel_left}
use Rattle.law_rows.specs.model_device.specs.Bytes.{num, AreBytes}
use Rattle.law_rows.specs.model_machine.specs.Blocks.{Worked, result_with_flags, is_zero, bit, shift_left_block, shift_right_block}
use Rattle.law_rows.specs.Carry.{carry_of}
use Rattle.law_rows.proofs.BlockLemmas.{pow_more, pow_positive, worked_is}

-- a byte has eight bits
bits_of : (n : ℕ) → 256 ^ n ≡ 2 ^ (8 * n)
bits_of zero = refl
bits_of (suc n) =
    let e : 8 * suc n ≡ 8 + 8 * n = omega arith in
    pow_more n ∙ ap (λ k. 256 * k) (bits_of n) ∙ sym (ap (λ k. 2 ^ k) e ∙ pow-add 2 8 (8 * n))

carry_bit : (q : ℕ) (c : Bool) → c ≡ nat_eq ((2 * q + carry_of c) % 2) 1
carry_bit q true = grind arith
carry_bit q false = grind arith

-- the bit shifted out last, of a block of n bytes shifted left by j bits
top_bit : (n v j : ℕ) → j ≤ 8 * n → v * 2 ^ j / 256 ^ n ≡ v / 2 ^ (8 * n - j)
top_bit n v j h =
    let e : 8 * n ≡ j + (8 * n - j) = omega arith in
    let p : 256 ^ n ≡ 2 ^ j * 2 ^ (8 * n - j) = bits_of n ∙ ap (λ k. 2 ^ k) e ∙ pow-add 2 j (8 * n - j) in
    let t : v * 2 ^ j ≡ 2 ^ j * v = omega arith in
    ap (λ k. v * 2 ^ j / k) p ∙ sym (div-div-eq-div-mul (v * 2 ^ j) (2 ^ j) (2 ^ (8 * n - j))) ∙ ap (λ k. k / 2 ^ j / 2 ^ (8 * n - j)) t ∙ ap (λ k. k / 2 ^ (8 * n - j)) (mul-div_cancel_left v (pow_pos j))

pub record Doubled (n v j r : ℕ) (c : Bool) : Type 0 where
  pub value : r ≡ v * 2 ^ (j + 1) % 256 ^ n
  pub left : c ≡ bit (8 * n - (j + 1)) v

-- a block shifted left by one more bit
pub doubled : (n v j w r : ℕ) (c : Bool) → w ≡ v * 2 ^ j % 256 ^ n → r + carry_of c * 256 ^ n ≡ w + w → r < 256 ^ n → j + 1 ≤ 8 * n → Doubled n v j r c
doubled n v j w r c ew e h top =
    let p = 256 ^ n in
    let q = v * 2 ^ j / p in
    let pos = pow_positive n in
    let parts : q * p + w ≡ v * 2 ^ j = rw ew (omega (arith, pos)) in
    let power : 2 ^ (j + 1) ≡ 2 * 2 ^ j = ap (λ k. 2 ^ k) (omega arith) ∙ pow-succ' 2 j in
    let whole : v * 2 ^ (j + 1) ≡ (2 * q + carry_of c) * p + r = ap (λ k. v * k) power ∙ omega (arith, parts, e) in
    let out : v * 2 ^ (j + 1) / p ≡ 2 * q + carry_of c = ap (λ k. k / p) whole ∙ digits_div (2 * q + carry_of c) h in
    record {
      value = sym (ap (λ k. k % p) whole ∙ digits_mod (2 * q + carry_of c) h);
      left = carry_bit q c ∙ ap (λ k. nat_eq (k % 2) 1) (sym out ∙ top_bit n v (j + 1) top);
    }

-- a block shifted left by no bit
pub unshifted : (n v : ℕ) → v < 256 ^ n → v ≡ v * 2 ^ 0 % 256 ^ n
unshifted n v h = sym (ap (λ k. k % 256 ^ n) (omega arith) ∙ digits_mod 0 h)

pub record Halved (v j r : ℕ) (c : Bool) : Type 0 where
  pub value : r ≡ v / 2 ^ (j + 1)
  pub left : c ≡ bit j v

half_of : (w r : ℕ) (c : Bool) → 2 * r + carry_of c ≡ w → r ≡ w / 2
half_of w r true e = omega (arith, e)
half_of w r false e = omega (arith, e)

-- a block shifted right by one more bit
pub halved : (v j w r : ℕ) (c : Bool) → w ≡ v / 2 ^ j → 2 * r + carry_of c ≡ w → Halved v j r c
halved v j w r c ew e =
    let power : 2 ^ (j + 1) ≡ 2 ^ j * 2 = ap (λ k. 2 ^ k) (omega arith) ∙ pow-succ' 2 j ∙ omega arith in
    record {
      value = half_of w r c e ∙ ap (λ k. k / 2) ew ∙ div-div-eq-div-mul v (2 ^ j) 2 ∙ ap (λ k. v / k) (sym power);
      left = carry_bit r c ∙ ap (λ k. nat_eq (k % 2) 1) (e ∙ ew);
    }

pub left_is : (a r : List ℕ) (k : ℕ) (c z : Bool) → length r ≡ length a → AreBytes r → num r ≡ num a * 2 ^ k % 256 ^ length a → c ≡ bit (8 * length a - k) (num a) → z ≡ is_zero r → ◌≡◌ {A = Worked} (record { value = r; c = c; z = z }) (shift_left_block a k)
left_is a r k c z l h e ec ez =
    let p = 256 ^ length a in
    let v = num a * 2 ^ k in
    let pos = pow_positive (length a) in
    let parts : v ≡ v % p + v / p * p = omega (arith, pos) in
    let s : v ≡ num r + v / p * 256 ^ length r = rw (l, e) parts in
    let w = worked_is v r (v / p) c z (bit (8 * length a - k) (num a)) h s ec ez in
    subst (λ n. ◌≡◌ {A = Worked} (record { value = r; c = c; z = z }) (result_with_flags n v (bit (8 * length a - k) (num a)))) l w

pub right_is : (a r : List ℕ) (k : ℕ) (c z : Bool) → length r ≡ length a → AreBytes r → num r ≡ num a / 2 ^ k → c ≡ bit (k - 1) (num a) → z ≡ is_zero r → ◌≡◌ {A = Worked} (record { value = r; c = c; z = z }) (shift_right_block a k)
right_is a r k c z l h e ec ez =
    let v = num a / 2 ^ k in
    let s : v ≡ num r + 0 * 256 ^ length r = sym e ∙ omega arith in
    let w = worked_is v r 0 c z (bit (k - 1) (num a)) h s ec ez in
    subst (λ n. ◌≡◌ {A = Worked} (record { value = r; c = c; z = z }) (result_with_flags n v (bit (k - 1) (num a)))) l w
