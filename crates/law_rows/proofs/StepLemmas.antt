-- One byte of a loop over blocks: from the bytes after an index to the bytes from it on.
use Rattle.std.proofs.Common.{◌≡◌, ℕ, zero, suc, ◌+◌, ◌-◌, ◌*◌, ◌/◌, ◌%◌, ◌^◌, ◌<◌, List, [], ◌∷◌, length, get_or, drop, set, refl, sym, ◌∙◌, ap, arith, drop-cons, length-drop, length-set}
use Rattle.std.proofs.lemmas.List.{drop-set, drop-set-lt}
use Rattle.model_machine.specs.model_device.specs.Bytes.{num}
use Rattle.law_rows.proofs.BlockLemmas.{pow_more}

-- a power, and the number of a block from a place on, by one byte more
pub pow_at : (n i j : ℕ) → i ≡ j + 1 → j < n → 256 ^ (n - j) ≡ 256 * 256 ^ (n - i)
pow_at n i j e h =
    let m : n - j ≡ suc (n - i) = omega arith in
    ap (λ k. 256 ^ k) m ∙ pow_more (n - i)

pub num_drop : (l : List ℕ) (i j : ℕ) → i ≡ j + 1 → j < length l → num (drop j l) ≡ get_or l j 0 * 256 ^ (length l - i) + num (drop i l)
num_drop l i j e h =
    let up : suc j ≡ i = omega arith in
    let d : drop j l ≡ get_or l j 0 ∷ drop i l = drop-cons l j 0 h ∙ ap (λ k. get_or l j 0 ∷ drop k l) up in
    let s : length (drop i l) ≡ length l - i = length-drop i l in
    ap num d ∙ ap (λ k. get_or l j 0 * 256 ^ k + num (drop i l)) s

pub num_drop_set : (l : List ℕ) (i j v : ℕ) → i ≡ j + 1 → j < length l → num (drop j (set l j v)) ≡ v * 256 ^ (length l - i) + num (drop i l)
num_drop_set l i j v e h =
    let d : drop j (set l j v) ≡ v ∷ drop i l = drop-set l j v h ∙ ap (λ k. v ∷ drop k l) (sym e) in
    let s : length (drop i l) ≡ length l - i = length-drop i l in
    ap num d ∙ ap (λ k. v * 256 ^ k + num (drop i l)) s

-- one digit of a sum: p is its weight, and r, s and t are the numbers of the digits after it
sum_digit : (p d s t r x y c : ℕ) → r + c * p ≡ s + t → d ≡ x + y + c → (d % 256) * p + r + d / 256 * (256 * p) ≡ (x * p + s) + (y * p + t)
sum_digit p d s t r x y c h e =
    let parts : (d % 256 + 256 * (d / 256)) * p ≡ (x + y + c) * p = ap (λ k. k * p) (omega arith) in
    omega (arith, parts, h)

-- if the bytes from i on have their sum, so have those from j on, one byte before
pub sum_step : (a s b : List ℕ) (i j c d : ℕ) → i ≡ j + 1 → j < length a → length s ≡ length a → length b ≡ length a → get_or a j 0 ≡ get_or s j 0 → d ≡ get_or a j 0 + get_or b j 0 + c
    → num (drop i a) + c * 256 ^ (length a - i) ≡ num (drop i s) + num (drop i b)
    → num (drop j (set a j (d % 256))) + d / 256 * 256 ^ (length (set a j (d % 256)) - j) ≡ num (drop j s) + num (drop j b)
sum_step a s b i j c d e h ls lb same ed before =
    let ps : length s - i ≡ length a - i = omega arith in
    let pb : length b - i ≡ length a - i = omega arith in
    let q = pow_at (length a) i j e h in
    let na = num_drop_set a i j (d % 256) e h in
    let ns = num_drop s i j e (omega arith) ∙ ap (λ k. get_or s j 0 * 256 ^ k + num (drop i s)) ps in
    let nb = num_drop b i j e (omega arith) ∙ ap (λ k. get_or b j 0 * 256 ^ k + num (drop i b)) pb in
    let core = sum_digit (256 ^ (length a - i)) d (num (drop i s)) (num (drop i b)) (num (drop i a)) (get_or s j 0) (get_or b j 0) c before (omega (arith, same, ed)) in
    rw (length-set, na, ns, nb, q) core

one_digit : (p d s r x c : ℕ) → r + c * p ≡ s + 1 → d ≡ x + c → (d % 256) * p + r + d / 256 * (256 * p) ≡ (x * p + s) + 1
one_digit p d s r x c h e =
    let parts : (d % 256 + 256 * (d / 256)) * p ≡ (x + c) * p = ap (λ k. k * p) (omega arith) in
    omega (arith, parts, h)

-- if the bytes from i on are increased by 1, so are those from j on, one byte before
pub one_step : (a s : List ℕ) (i j c d : ℕ) → i ≡ j + 1 → j < length a → length s ≡ length a → get_or a j 0 ≡ get_or s j 0 → d ≡ get_or a j 0 + c
    → num (drop i a) + c * 256 ^ (length a - i) ≡ num (drop i s) + 1
    → num (drop j (set a j (d % 256))) + d / 256 * 256 ^ (length (set a j (d % 256)) - j) ≡ num (drop j s) + 1
one_step a s i j c d e h ls same ed before =
    let ps : length s - i ≡ length a - i = omega arith in
    let q = pow_at (length a) i j e h in
    let na = num_drop_set a i j (d % 256) e h in
    let ns = num_drop s i j e (omega arith) ∙ ap (λ k. get_or s j 0 * 256 ^ k + num (drop i s)) ps in
    let core = one_digit (256 ^ (length a - i)) d (num (drop i s)) (num (drop i a)) (get_or s j 0) c before (omega (arith, same, ed)) in
    rw (length-set, na, ns, q) core

-- one digit of a difference: c is the borrow from the digits after it
difference_digit : (p d s t r x y c : ℕ) → r + t ≡ s + c * p → d + y + c ≡ 256 + x → d < 512 → ((d % 256) * p + r) + (y * p + t) ≡ (x * p + s) + (1 - d / 256) * (256 * p)
difference_digit p d s t r x y c h e top =
    let parts : (d % 256 + y + c) * p ≡ (x + 256 * (1 - d / 256)) * p = ap (λ k. k * p) (omega arith) in
    omega (arith, parts, h)

-- if the bytes from i on have their difference, so have those from j on, one byte before
pub difference_step : (a s b : List ℕ) (i j c d : ℕ) → i ≡ j + 1 → j < length a → length s ≡ length a → length b ≡ length a → get_or a j 0 ≡ get_or s j 0 → d + get_or b j 0 + c ≡ 256 + get_or a j 0 → d < 512
    → num (drop i a) + num (drop i b) ≡ num (drop i s) + c * 256 ^ (length a - i)
    → num (drop j (set a j (d % 256))) + num (drop j b) ≡ num (drop j s) + (1 - d / 256) * 256 ^ (length (set a j (d % 256)) - j)
difference_step a s b i j c d e h ls lb same ed top before =
    let ps : length s - i ≡ length a - i = omega arith in
    let pb : length b - i ≡ length a - i = omega arith in
    let q = pow_at (length a) i j e h in
    let na = num_drop_set a i j (d % 256) e h in
    let ns = num_drop s i j e (omega arith) ∙ ap (λ k. get_or s j 0 * 256 ^ k + num (drop i s)) ps in
    let nb = num_drop b i j e (omega arith) ∙ ap (λ k. get_or b j 0 * 256 ^ k + num (drop i b)) pb in
    let core = difference_digit (256 ^ (length a - i)) d (num (drop i s)) (num (drop i b)) (num (drop i a)) (get_or s j 0) (get_or b j 0) c before (omega (arith, same, ed)) top in
    rw (length-set, na, ns, nb, q) core

one_less_digit : (p d s r x c : ℕ) → r + 1 ≡ s + c * p → d + c ≡ 256 + x → d < 512 → ((d % 256) * p + r) + 1 ≡ (x * p + s) + (1 - d / 256) * (256 * p)
one_less_digit p d s r x c h e top =
    let parts : (d % 256 + c) * p ≡ (x + 256 * (1 - d / 256)) * p = ap (λ k. k * p) (omega arith) in
    omega (arith, parts, h)

-- if the bytes from i on are decreased by 1, so are those from j on, one byte before
pub one_less_step : (a s : List ℕ) (i j c d : ℕ) → i ≡ j + 1 → j < length a → length s ≡ length a → get_or a j 0 ≡ get_or s j 0 → d + c ≡ 256 + get_or a j 0 → d < 512
    → num (drop i a) + 1 ≡ num (drop i s) + c * 256 ^ (length a - i)
    → num (drop j (set a j (d % 256))) + 1 ≡ num (drop j s) + (1 - d / 256) * 256 ^ (length (set a j (d % 256)) - j)
one_less_step a s i j c d e h ls same ed top before =
    let ps : length s - i ≡ length a - i = omega arith in
    let q = pow_at (length a) i j e h in
    let na = num_drop_set a i j (d % 256) e h in
    let ns = num_drop s i j e (omega arith) ∙ ap (λ k. get_or s j 0 * 256 ^ k + num (drop i s)) ps in
    let core = one_less_digit (256 ^ (length a - i)) d (num (drop i s)) (num (drop i a)) (get_or s j 0) c before (omega (arith, same, ed)) top in
    rw (length-set, na, ns, q) core

-- the number of a block after one byte is set
num_set : (l : List ℕ) (j v : ℕ) → j < length l → num (set l j v) + get_or l j 0 * 256 ^ (length l - (j + 1)) ≡ num l + v * 256 ^ (length l - (j + 1))
num_set [] j v h = absurd (omega (arith, h))
num_set (b ∷ l) zero v h =
    let e : length (b ∷ l) - (0 + 1) ≡ length l = omega arith in
    rw e (omega arith)
num_set (b ∷ l) (suc j) v h =
    let e : length (b ∷ l) - (suc j + 1) ≡ length l - (j + 1) = omega arith in
    let below = num_set l j v (omega (arith, h)) in
    let head : num (set (b ∷ l) (suc j) v) ≡ b * 256 ^ length l + num (set l j v) = ap (λ k. b * 256 ^ k + num (set l j v)) (length-set l j v) in
    rw (e, head) (omega (arith, below))

half_digit : (p d n r k a x v c : ℕ) → n + (x * p + r) ≡ 2 * a + c * (256 * p) → k + x * p ≡ a + v * p → d ≡ 256 * c + x → v ≡ d / 2 → n + r ≡ 2 * k + d % 2 * p
half_digit p d n r k a x v c h w e ev =
    let parts : (2 * v + d % 2) * p ≡ (256 * c + x) * p = ap (λ k. k * p) (omega arith) in
    omega (arith, parts, h, w)

-- if the bytes before j are halved, so are those before i, one byte after
pub half_step : (n : ℕ) (a : List ℕ) (j i c d : ℕ) → i ≡ j + 1 → j < length a → d ≡ 256 * c + get_or a j 0
    → n + num (drop j a) ≡ 2 * num a + c * 256 ^ (length a - j)
    → n + num (drop i (set a j (d / 2))) ≡ 2 * num (set a j (d / 2)) + d % 2 * 256 ^ (length (set a j (d / 2)) - i)
half_step n a j i c d e h ed before =
    let q = pow_at (length a) i j e h in
    let nd = num_drop a i j e h in
    let p : length a - (j + 1) ≡ length a - i = omega arith in
    let ns : num (set a j (d / 2)) + get_or a j 0 * 256 ^ (length a - i) ≡ num a + d / 2 * 256 ^ (length a - i) = rw p at (num_set a j (d / 2) h) in
    let same : drop i (set a j (d / 2)) ≡ drop i a = drop-set-lt i a j (d / 2) (omega arith) in
    let b : n + (get_or a j 0 * 256 ^ (length a - i) + num (drop i a)) ≡ 2 * num a + c * (256 * 256 ^ (length a - i)) = rw (nd, q) at before in
    let core = half_digit (256 ^ (length a - i)) d n (num (drop i a)) (num (set a j (d / 2))) (num a) (get_or a j 0) (d / 2) c b ns ed refl in
    rw (length-set, same) core
