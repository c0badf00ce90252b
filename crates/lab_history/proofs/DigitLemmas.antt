-- One digit of a loop over a block and a number of another length: from the digits after an index to those from it on.
use Rattle.std.proofs.Common.{◌≡◌, ℕ, suc, ◌+◌, ◌-◌, ◌*◌, ◌/◌, ◌%◌, ◌^◌, ◌<◌, Bool, true, false, List, [], ◌∷◌, length, get_or, drop, set, refl, sym, ◌∙◌, ap, subst, arith, length-set}
use Rattle.std.specs.Prelude.{nat_lt, cond, slice_index_or}
use Rattle.std.proofs.Math.Nat.{add-mod-mod, add-mul-mod_self_right, mul-add-mod_self_right}
use Rattle.std.proofs.Math.Seq.{drop-nil}
use Rattle.std.proofs.lemmas.Bool.{ltb-false, ltb-true}
use Rattle.std.proofs.lemmas.Nat.{pow-add}
use Rattle.model_device.specs.Bytes.{num}
use Rattle.mc_arith.specs.law_rows.proofs.StepLemmas.{num_drop, num_drop_set, pow_at}
use Rattle.lab_history.specs.Digits.{digit_at}

low_more : (l : List ℕ) (k : ℕ) (b : Bool) → nat_lt k (length l) ≡ b → num (drop (length l - suc k) l) ≡ cond b (slice_index_or l (length l - 1 - k) 0) 0 * 256 ^ k + num (drop (length l - k) l)
low_more l k true h =
    let i = length l - k in
    let j = length l - suc k in
    let above = ltb-true k (length l) h in
    let e : i ≡ j + 1 = omega (arith, above) in
    let w : length l - i ≡ k = omega (arith, above) in
    let p : length l - 1 - k ≡ j = omega arith in
    let d = num_drop l i j e (omega (arith, above)) in
    d ∙ ap (λ n. get_or l j 0 * 256 ^ n + num (drop i l)) w ∙ ap (λ n. get_or l n 0 * 256 ^ k + num (drop i l)) (sym p)
low_more l k false h =
    let e : length l - suc k ≡ length l - k = omega (arith, ltb-false k (length l) h) in
    let none : num (drop (length l - k) l) ≡ 0 * 256 ^ k + num (drop (length l - k) l) = omega arith in
    ap (λ n. num (drop n l)) e ∙ none

pub low_step : (l : List ℕ) (k : ℕ) → num (drop (length l - suc k) l) ≡ digit_at l k * 256 ^ k + num (drop (length l - k) l)
low_step l k = low_more l k (nat_lt k (length l)) refl

low_by : (b : ℕ) (l : List ℕ) (k : ℕ) (c : Bool) → nat_lt (length l) k ≡ c → num (drop (length l - k) l) % 256 ^ k ≡ num l % 256 ^ k → num (drop (suc (length l) - k) (b ∷ l)) % 256 ^ k ≡ num (b ∷ l) % 256 ^ k
low_by b l k true h r =
    let e : suc (length l) - k ≡ 0 = omega (arith, ltb-true (length l) k h) in
    ap (λ n. num (drop n (b ∷ l)) % 256 ^ k) e
low_by b l k false h r =
    let within = ltb-false (length l) k h in
    let e : suc (length l) - k ≡ suc (length l - k) = omega (arith, within) in
    let m : length l ≡ (length l - k) + k = omega (arith, within) in
    let p : 256 ^ length l ≡ 256 ^ (length l - k) * 256 ^ k = ap (λ n. 256 ^ n) m ∙ pow-add 256 (length l - k) k in
    let t : b * 256 ^ length l ≡ b * 256 ^ (length l - k) * 256 ^ k = ap (λ n. b * n) p ∙ omega arith in
    ap (λ n. num (drop n (b ∷ l)) % 256 ^ k) e ∙ r ∙ sym (ap (λ n. (n + num l) % 256 ^ k) t ∙ mul-add-mod_self_right (b * 256 ^ (length l - k)) (256 ^ k) (num l))

-- the lowest k digits are the number modulo 256 ^ k
pub low_is : (l : List ℕ) (k : ℕ) → num (drop (length l - k) l) % 256 ^ k ≡ num l % 256 ^ k
low_is [] k = ap (λ (l : List ℕ). num l % 256 ^ k) (drop-nil (0 - k))
low_is (b ∷ l) k = low_by b l k (nat_lt (length l) k) refl (low_is l k)

-- one digit of a sum: p is its weight, and r, s and t are the numbers of the digits after it
sum_digit : (p d s t r x y c : ℕ) → r + c * p ≡ s + t → d ≡ x + y + c → (d % 256) * p + r + d / 256 * (256 * p) ≡ (x * p + s) + (y * p + t)
sum_digit p d s t r x y c h e =
    let parts : (d % 256 + 256 * (d / 256)) * p ≡ (x + y + c) * p = ap (λ k. k * p) (omega arith) in
    omega (arith, parts, h)

-- if the digits from i on have their sum with those of the number, so have those from j on, one digit before
pub sum_step : (a s b : List ℕ) (i j c d : ℕ) → i ≡ j + 1 → j < length a → length s ≡ length a → get_or a j 0 ≡ get_or s j 0 → d ≡ get_or a j 0 + digit_at b (length a - i) + c
    → num (drop i a) + c * 256 ^ (length a - i) ≡ num (drop i s) + num (drop (length b - (length a - i)) b)
    → num (drop j (set a j (d % 256))) + d / 256 * 256 ^ (length (set a j (d % 256)) - j) ≡ num (drop j s) + num (drop (length b - (length (set a j (d % 256)) - j)) b)
sum_step a s b i j c d e h ls same ed before =
    let k = length a - i in
    let ps : length s - i ≡ k = omega arith in
    let m : length a - j ≡ suc k = omega arith in
    let q = pow_at (length a) i j e h in
    let na = num_drop_set a i j (d % 256) e h in
    let ns = num_drop s i j e (omega arith) ∙ ap (λ n. get_or s j 0 * 256 ^ n + num (drop i s)) ps in
    let nb = ap (λ n. num (drop (length b - n) b)) m ∙ low_step b k in
    let core = sum_digit (256 ^ k) d (num (drop i s)) (num (drop (length b - k) b)) (num (drop i a)) (get_or s j 0) (digit_at b k) c before (omega (arith, same, ed)) in
    rw (length-set, na, ns, nb, q) core

-- one digit of a difference: c is the borrow from the digits after it
difference_digit : (p d s t r x y c : ℕ) → r + t ≡ s + c * p → d + y + c ≡ 256 + x → d < 512 → ((d % 256) * p + r) + (y * p + t) ≡ (x * p + s) + (1 - d / 256) * (256 * p)
difference_digit p d s t r x y c h e top =
    let parts : (d % 256 + y + c) * p ≡ (x + 256 * (1 - d / 256)) * p = ap (λ k. k * p) (omega arith) in
    omega (arith, parts, h)

-- if the digits from i on have their difference with those of the number, so have those from j on, one digit before
pub difference_step : (a s b : List ℕ) (i j c d : ℕ) → i ≡ j + 1 → j < length a → length s ≡ length a → get_or a j 0 ≡ get_or s j 0 → d + digit_at b (length a - i) + c ≡ 256 + get_or a j 0 → d < 512
    → num (drop i a) + num (drop (length b - (length a - i)) b) ≡ num (drop i s) + c * 256 ^ (length a - i)
    → num (drop j (set a j (d % 256))) + num (drop (length b - (length (set a j (d % 256)) - j)) b) ≡ num (drop j s) + (1 - d / 256) * 256 ^ (length (set a j (d % 256)) - j)
difference_step a s b i j c d e h ls same ed top before =
    let k = length a - i in
    let ps : length s - i ≡ k = omega arith in
    let m : length a - j ≡ suc k = omega arith in
    let q = pow_at (length a) i j e h in
    let na = num_drop_set a i j (d % 256) e h in
    let ns = num_drop s i j e (omega arith) ∙ ap (λ n. get_or s j 0 * 256 ^ n + num (drop i s)) ps in
    let nb = ap (λ n. num (drop (length b - n) b)) m ∙ low_step b k in
    let core = difference_digit (256 ^ k) d (num (drop i s)) (num (drop (length b - k) b)) (num (drop i a)) (get_or s j 0) (digit_at b k) c before (omega (arith, same, ed)) top in
    rw (length-set, na, ns, nb, q) core

-- a sum with a carry, modulo 256 ^ n
sum_modulo : (n r s c : ℕ) (b : List ℕ) → r + c * 256 ^ n ≡ s + num (drop (length b - n) b) → r % 256 ^ n ≡ (s + num b) % 256 ^ n
sum_modulo n r s c b h =
    sym (add-mul-mod_self_right r c (256 ^ n)) ∙ ap (λ v. v % 256 ^ n) h ∙ sym (add-mod-mod s (num (drop (length b - n) b)) (256 ^ n)) ∙ ap (λ v. (s + v) % 256 ^ n) (low_is b n) ∙ add-mod-mod s (num b) (256 ^ n)

-- a difference with a borrow, modulo 256 ^ n
difference_modulo : (n r s c : ℕ) (b : List ℕ) → r + num (drop (length b - n) b) ≡ s + c * 256 ^ n → (r + num b) % 256 ^ n ≡ s % 256 ^ n
difference_modulo n r s c b h =
    sym (add-mod-mod r (num b) (256 ^ n)) ∙ ap (λ v. (r + v) % 256 ^ n) (sym (low_is b n)) ∙ add-mod-mod r (num (drop (length b - n) b)) (256 ^ n) ∙ ap (λ v. v % 256 ^ n) h ∙ add-mul-mod_self_right s c (256 ^ n)

-- after the last digit of a sum
pub sum_ends : (a s b : List ℕ) (i c : ℕ) → i ≡ 0 → length a ≡ length s → num (drop i a) + c * 256 ^ (length a - i) ≡ num (drop i s) + num (drop (length b - (length a - i)) b) → num a % 256 ^ length s ≡ (num s + num b) % 256 ^ length s
sum_ends a s b i c e l h =
    let first = subst (λ (k : ℕ). num (drop k a) + c * 256 ^ (length a - k) ≡ num (drop k s) + num (drop (length b - (length a - k)) b)) e h in
    let z : length a - 0 ≡ length s = omega (arith, l) in
    let all = subst (λ (n : ℕ). num (drop 0 a) + c * 256 ^ n ≡ num (drop 0 s) + num (drop (length b - n) b)) z first in
    sum_modulo (length s) (num a) (num s) c b all

-- after the last digit of a difference
pub difference_ends : (a s b : List ℕ) (i c : ℕ) → i ≡ 0 → length a ≡ length s → num (drop i a) + num (drop (length b - (length a - i)) b) ≡ num (drop i s) + c * 256 ^ (length a - i) → (num a + num b) % 256 ^ length s ≡ num s % 256 ^ length s
difference_ends a s b i c e l h =
    let first = subst (λ (k : ℕ). num (drop k a) + num (drop (length b - (length a - k)) b) ≡ num (drop k s) + c * 256 ^ (length a - k)) e h in
    let z : length a - 0 ≡ length s = omega (arith, l) in
    let all = subst (λ (n : ℕ). num (drop 0 a) + num (drop (length b - n) b) ≡ num (drop 0 s) + c * 256 ^ n) z first in
    difference_modulo (length s) (num a) (num s) c b all
