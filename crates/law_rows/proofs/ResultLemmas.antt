-- From the numbers that a loop leaves to results with their flags.
use Rattle.std.proofs.Common.{◌≡◌, ℕ, ◌+◌, ◌-◌, ◌*◌, ◌%◌, ◌^◌, ◌<◌, ◌≢◌, Bool, true, false, List, length, get_or, drop, refl, sym, ◌∙◌, ap, subst, arith, length-drop, ◌⊎◌, inl, inr}
use Rattle.std.specs.Prelude.{nat_le, nat_lt, nat_eq, cond}
use Rattle.std.proofs.Math.Arith.{digits_mod}
use Rattle.model_machine.specs.model_device.specs.Bytes.{num, AreBytes}
use Rattle.model_machine.specs.Blocks.{Worked, result_with_flags, is_zero, add_blocks, sub_blocks, inc_block, dec_block}
use Rattle.law_rows.specs.Carry.{carry_of}
use Rattle.law_rows.proofs.BlockLemmas.{num_below, num_bytes, pow_positive, times_at_most, worked_is}
use Rattle.law_rows.proofs.StepLemmas.{num_drop}
use Rattle.model_machine.specs.model_device.proofs.ListLemmas.{bytes_from}

lt_or_at : (x y : ℕ) → x ≢ y → (b : Bool) → nat_lt x y ≡ b → (x < y) ⊎ (y < x)
lt_or_at x y ne true e = inl (grind (arith, e))
lt_or_at x y ne false e = inr (grind (arith, e, ne))

lt_or : (x y : ℕ) → x ≢ y → (x < y) ⊎ (y < x)
lt_or x y ne = lt_or_at x y ne (nat_lt x y) refl

-- the carry of a sum v modulo p
carried : (p r v : ℕ) (c : Bool) → r < p → r + carry_of c * p ≡ v → c ≡ nat_le p v
carried p r v true h e = grind (arith, h, e)
carried p r v false h e = grind (arith, h, e)

pub sum_is : (a b r : List ℕ) (c z : Bool) → length r ≡ length a → AreBytes r → num r + carry_of c * 256 ^ length a ≡ num a + num b → z ≡ is_zero r → ◌≡◌ {A = Worked} (record { value = r; c = c; z = z }) (add_blocks a b)
sum_is a b r c z l h e ez =
    let s : num a + num b ≡ num r + carry_of c * 256 ^ length r = rw l (sym e) in
    let f : c ≡ nat_le (256 ^ length a) (num a + num b) = carried (256 ^ length a) (num r) (num a + num b) c (subst (λ n. num r < 256 ^ n) l (num_below r h)) e in
    let w = worked_is (num a + num b) r (carry_of c) c z (nat_le (256 ^ length a) (num a + num b)) h s f ez in
    subst (λ n. ◌≡◌ {A = Worked} (record { value = r; c = c; z = z }) (result_with_flags n (num a + num b) (nat_le (256 ^ length a) (num a + num b)))) l w

carried_one : (p r a : ℕ) (c : Bool) → r < p → a < p → r + carry_of c * p ≡ a + 1 → c ≡ nat_eq (a + 1) p
carried_one p r a true h k e = grind (arith, h, k, e)
carried_one p r a false h k e = grind (arith, h, k, e)

pub inc_is : (a r : List ℕ) (c z : Bool) → length r ≡ length a → AreBytes a → AreBytes r → num r + carry_of c * 256 ^ length a ≡ num a + 1 → z ≡ is_zero r → ◌≡◌ {A = Worked} (record { value = r; c = c; z = z }) (inc_block a)
inc_is a r c z l g h e ez =
    let s : num a + 1 ≡ num r + carry_of c * 256 ^ length r = rw l (sym e) in
    let f : c ≡ nat_eq (num a + 1) (256 ^ length a) = carried_one (256 ^ length a) (num r) (num a) c (subst (λ n. num r < 256 ^ n) l (num_below r h)) (num_below a g) e in
    let w = worked_is (num a + 1) r (carry_of c) c z (nat_eq (num a + 1) (256 ^ length a)) h s f ez in
    subst (λ n. ◌≡◌ {A = Worked} (record { value = r; c = c; z = z }) (result_with_flags n (num a + 1) (nat_eq (num a + 1) (256 ^ length a)))) l w

-- the borrow of the difference of a and b modulo p
borrowed : (p r a b : ℕ) (c : Bool) → r < p → r + b ≡ a + carry_of c * p → c ≡ nat_lt a b
borrowed p r a b true h e = grind (arith, h, e)
borrowed p r a b false h e = grind (arith, h, e)

abbrev left_of : Bool → ℕ
left_of c = cond c 0 1

without : (p r a b : ℕ) (c : Bool) → r + b ≡ a + carry_of c * p → p + a - b ≡ r + left_of c * p
without p r a b true e = omega (arith, e)
without p r a b false e = omega (arith, e)

pub difference_is : (a b r : List ℕ) (c z : Bool) → length r ≡ length a → AreBytes r → num r + num b ≡ num a + carry_of c * 256 ^ length a → z ≡ is_zero r → ◌≡◌ {A = Worked} (record { value = r; c = c; z = z }) (sub_blocks a b)
difference_is a b r c z l h e ez =
    let p = 256 ^ length a in
    let s : p + num a - num b ≡ num r + left_of c * 256 ^ length r = rw l (without p (num r) (num a) (num b) c e) in
    let f : c ≡ nat_lt (num a) (num b) = borrowed p (num r) (num a) (num b) c (subst (λ n. num r < 256 ^ n) l (num_below r h)) e in
    let w = worked_is (p + num a - num b) r (left_of c) c z (nat_lt (num a) (num b)) h s f ez in
    subst (λ n. ◌≡◌ {A = Worked} (record { value = r; c = c; z = z }) (result_with_flags n (p + num a - num b) (nat_lt (num a) (num b)))) l w

borrowed_one : (p r a : ℕ) (c : Bool) → r < p → r + 1 ≡ a + carry_of c * p → c ≡ nat_eq a 0
borrowed_one p r a true h e = grind (arith, h, e)
borrowed_one p r a false h e = grind (arith, h, e)

pub dec_is : (a r : List ℕ) (c z : Bool) → length r ≡ length a → AreBytes r → num r + 1 ≡ num a + carry_of c * 256 ^ length a → z ≡ is_zero r → ◌≡◌ {A = Worked} (record { value = r; c = c; z = z }) (dec_block a)
dec_is a r c z l h e ez =
    let p = 256 ^ length a in
    let s : p + num a - 1 ≡ num r + left_of c * 256 ^ length r = rw l (without p (num r) (num a) 1 c e) in
    let f : c ≡ nat_eq (num a) 0 = borrowed_one p (num r) (num a) c (subst (λ n. num r < 256 ^ n) l (num_below r h)) e in
    let w = worked_is (p + num a - 1) r (left_of c) c z (nat_eq (num a) 0) h s f ez in
    subst (λ n. ◌≡◌ {A = Worked} (record { value = r; c = c; z = z }) (result_with_flags n (p + num a - 1) (nat_eq (num a) 0))) l w

-- ---- zero and comparison

nonzero : (x p r : ℕ) → 0 < p → x ≢ 0 → nat_eq (x * p + r) 0 ≡ false
nonzero x p r h k =
    let m = times_at_most p 1 x (omega (arith, k)) in
    grind (arith, m, h)

pub not_zero : (l : List ℕ) (i : ℕ) → i < length l → get_or l i 0 ≢ 0 → is_zero (drop i l) ≡ false
not_zero l i h k = ap (λ n. nat_eq n 0) (num_drop l (i + 1) i refl h) ∙ nonzero (get_or l i 0) (256 ^ (length l - (i + 1))) (num (drop (i + 1) l)) (pow_positive (length l - (i + 1))) k

rest_below : (l : List ℕ) (i : ℕ) → AreBytes l → num (drop i l) < 256 ^ (length l - i)
rest_below l i h = subst (λ n. num (drop i l) < 256 ^ n) (length-drop i l) (num_below (drop i l) (bytes_from l i h))

-- the first bytes that differ decide the order of two numbers
abbrev pub Decided : ℕ → ℕ → ℕ → ℕ → Type 0
Decided x y a b = (nat_lt x y ≡ nat_lt a b) × (a ≢ b)

less_digit : (p x y r s a b : ℕ) → r < p → a + (y * p + s) ≡ b + (x * p + r) → x < y → a < b
less_digit p x y r s a b h e lt =
    let m = times_at_most p (x + 1) y (omega (arith, lt)) in
    omega (arith, h, e, m)

decided : (x y a b : ℕ) → (x < y → a < b) → (y < x → b < a) → x ≢ y → Decided x y a b
decided x y a b f g ne = elim (lt_or x y ne) [ inl h ↦ (grind (arith, h, f h), omega (arith, f h)) | inr h ↦ (grind (arith, h, g h), omega (arith, g h)) ]

pub compare_at : (a b : List ℕ) (i : ℕ) → i < length a → length a ≡ length b → AreBytes a → AreBytes b → get_or a i 0 ≢ get_or b i 0 → num a + num (drop i b) ≡ num b + num (drop i a) → Decided (get_or a i 0) (get_or b i 0) (num a) (num b)
compare_at a b i h l ha hb ne e =
    let p = 256 ^ (length a - (i + 1)) in
    let q : length b - (i + 1) ≡ length a - (i + 1) = omega arith in
    let na = num_drop a (i + 1) i refl h in
    let nb = num_drop b (i + 1) i refl (omega arith) ∙ ap (λ k. get_or b i 0 * 256 ^ k + num (drop (i + 1) b)) q in
    let ra = rest_below a (i + 1) ha in
    let rb = subst (λ k. num (drop (i + 1) b) < 256 ^ k) q (rest_below b (i + 1) hb) in
    let e' = rw (na, nb) at e in
    decided (get_or a i 0) (get_or b i 0) (num a) (num b)
    (λ lt. less_digit p (get_or a i 0) (get_or b i 0) (num (drop (i + 1) a)) (num (drop (i + 1) b)) (num a) (num b) ra e' lt)
    (λ lt. less_digit p (get_or b i 0) (get_or a i 0) (num (drop (i + 1) b)) (num (drop (i + 1) a)) (num b) (num a) rb (sym e') lt)
    ne

modulo : (p d : ℕ) → d < p → d % p ≡ d
modulo p d h = ap (λ k. k % p) (omega arith) ∙ digits_mod 0 h

modulo_more : (p d : ℕ) → d < p → (p + d) % p ≡ d
modulo_more p d h = ap (λ k. k % p) (omega arith) ∙ digits_mod 1 h

difference_modulo : (p a b : ℕ) → a < p → b < p → a ≢ b → nat_eq ((p + a - b) % p) 0 ≡ false
difference_modulo p a b ha hb ne = elim (lt_or a b ne) [
  | inl h ↦ ap (λ k. nat_eq k 0) (modulo p (p + a - b) (omega arith)) ∙ grind (arith, h)
  | inr h ↦ ap (λ k. nat_eq k 0) (ap (λ k. k % p) (omega arith) ∙ modulo_more p (a - b) (omega arith)) ∙ grind (arith, h)
]

pub different : (a b : List ℕ) → length a ≡ length b → AreBytes a → AreBytes b → num a ≢ num b → (sub_blocks a b).z ≡ false
different a b l ha hb ne =
    let nb : num b < 256 ^ length a = rw l (num_below b hb) in
    ap (λ k. nat_eq k 0) (num_bytes (length a) (256 ^ length a + num a - num b)) ∙ difference_modulo (256 ^ length a) (num a) (num b) (num_below a ha) nb ne

pub equal : (a b : List ℕ) → num a ≡ num b → (sub_blocks a b).z ≡ true
equal a b e =
    let p = 256 ^ length a in
    let pos = pow_positive (length a) in
    let d : (p + num a - num b) % p ≡ 0 = ap (λ k. k % p) (omega arith) ∙ modulo_more p 0 pos in
    ap (λ k. nat_eq k 0) (num_bytes (length a) (p + num a - num b) ∙ d)
