-- Deciphering undoes enciphering: the permutations, the rounds, and blocks of bytes.
use Rattle.std.proofs.Common.{◌≡◌, inl, inr, ℕ, zero, suc, ◌+◌, ◌-◌, ◌*◌, ◌/◌, ◌%◌, ◌^◌, ◌<◌, ◌≤◌, List, [], ◌∷◌, ◌++◌, length, take, drop, reverse, refl, sym, ap, ◌∙◌, arith, subst, length-append, length-drop, length-take}
use Rattle.std.proofs.Math.Nat.{pow-suc, one-mul, zero-mul}
use Rattle.std.proofs.lemmas.Nat.Bits.{bit_at_cat_low, bit_at_cat_high}
use Rattle.std.proofs.lemmas.List.{reverse-append, reverse-reverse, take_at, drop_at, take-append-drop, nil_from_length}
use Rattle.model_machine.specs.Modes.{bit_sum, AllBelow, IsBlock}
use Rattle.model_machine.specs.Des.{bits, number, bits_of, bytes_of, pick, initial, final, permutation, through, boxes, box_at, expansion, f, rounds, with_keys, des_block, round_keys, des_encipher, des_decipher, tdes_encipher, tdes_decipher}
use Rattle.model_machine.proofs.ModesLemmas.{added_back, length_added, all_below_append, all_below_take, all_below_drop, all_below_at, all_below_added, listed_from, listed}
use Rattle.mc_des.proofs.BitsLemmas.{length_bits, length_pick}
use Rattle.mc_des.proofs.BlockLemmas.{number_bits, rounds_cons, rounds_none, with_keys_open, ciphered_open, bytes_of_open, bytes_of_none, bits_of_open}
use Rattle.mc_des.proofs.CipherFunction.{f_open}
use Rattle.mc_des.proofs.DesLemmas.{des_encipher_open, des_decipher_open, tdes_encipher_open, tdes_decipher_open}
use Rattle.model_machine.specs.model_device.proofs.ListLemmas.{bit_cases}

-- ---- lists of bits

-- a list of n bits
record IsBits (n : ℕ) (l : List ℕ) : Type 0 where
  pub size : length l ≡ n
  pub low : AllBelow 2 l

pub bits_low : (n v : ℕ) → AllBelow 2 (bits n v)
unfolding bits
bits_low zero v = tt
bits_low (suc n) v = (omega arith, bits_low n v)

pub pick_low : (ts l : List ℕ) → AllBelow 2 l → AllBelow 2 (pick ts l)
unfolding pick
pick_low [] l a = tt
pick_low (t ∷ ts) l a = (all_below_at 2 l (t - 1) (omega arith) a, pick_low ts l a)

box_low : (box : List (List ℕ)) (g : List ℕ) → AllBelow 2 (box_at box g)
unfolding box_at
box_low box g = bits_low 4 _

through_low : (bs : List (List (List ℕ))) (l : List ℕ) → AllBelow 2 (through bs l)
unfolding through
through_low [] l = tt
through_low (b ∷ bs) l = all_below_append 2 (box_at b (take 6 l)) (through bs (drop 6 l)) (box_low b (take 6 l)) (through_low bs (drop 6 l))

f_low : (r k : List ℕ) → AllBelow 2 (f r k)
f_low r k = subst (λ (l : List ℕ). AllBelow 2 l) (sym (f_open r k)) (pick_low permutation (through boxes (bit_sum (pick expansion r) k)) (through_low boxes (bit_sum (pick expansion r) k)))

two_cases : (b p m : ℕ) → b < 2 → m < p → b * p + m < p * 2
two_cases b p m hb hm =
    elim (bit_cases b hb) [
      | inl e ↦ let z : b * p ≡ 0 = rw e (zero-mul p) in omega arith
      | inr e ↦ let z : b * p ≡ p = rw e (one-mul p) in omega arith
    ]

number_lt : (l : List ℕ) → AllBelow 2 l → number l < 2 ^ length l
unfolding number
number_lt [] a = omega arith
number_lt (b ∷ bs) a =
    let rest : number bs < 2 ^ length bs = number_lt bs a.1 in
    let twice : 2 ^ suc (length bs) ≡ 2 ^ length bs * 2 = pow-suc 2 (length bs) in
    rw twice (two_cases b (2 ^ length bs) (number bs) a.0 rest)

bits_above : (n k b m : ℕ) → n ≤ k → bits n (b * 2 ^ k + m) ≡ bits n m
unfolding bits
bits_above zero k b m h = refl
bits_above (suc n) k b m h =
    ap (λ (x : ℕ). x ∷ bits n (b * 2 ^ k + m)) (bit_at_cat_low b k m n (omega arith))
    ∙ ap (λ (l : List ℕ). m / 2 ^ n % 2 ∷ l) (bits_above n k b m (omega arith))

bits_number : (l : List ℕ) → AllBelow 2 l → bits (length l) (number l) ≡ l
unfolding bits number
bits_number [] a = refl
bits_number (b ∷ bs) a =
    let n : ℕ = length bs in
    let m : ℕ = number bs in
    let top : (b * 2 ^ n + m) / 2 ^ n % 2 ≡ b / 2 ^ (n - n) % 2 = bit_at_cat_high b n m n (number_lt bs a.1) (omega arith) in
    let none : n - n ≡ 0 = omega arith in
    let small : b < 2 = a.0 in
    let one : b / 2 ^ 0 % 2 ≡ b = omega arith in
    ap (λ (x : ℕ). x ∷ bits n (b * 2 ^ n + m)) (top ∙ ap (λ (k : ℕ). b / 2 ^ k % 2) none ∙ one)
    ∙ ap (λ (l : List ℕ). b ∷ l) (bits_above n n b m (omega arith) ∙ bits_number bs a.1)

-- ---- bytes and bits

bytes_of_bits_of : (bs : List ℕ) → AllBelow 256 bs → bytes_of (length bs) (bits_of bs) ≡ bs
bytes_of_bits_of [] a = bytes_of_none (bits_of [])
bytes_of_bits_of (b ∷ bs) a =
    let size : length (bits 8 b) ≡ 8 = length_bits 8 b in
    let small : b < 256 = a.0 in
    let same : b % 2 ^ 8 ≡ b = omega arith in
    bytes_of_open (length bs) (bits_of (b ∷ bs))
    ∙ ap (λ (l : List ℕ). number (take 8 l) ∷ bytes_of (length bs) (drop 8 l)) (bits_of_open b bs)
    ∙ ap (λ (l : List ℕ). number l ∷ bytes_of (length bs) (drop 8 (bits 8 b ++ bits_of bs))) (take_at (bits 8 b) (bits_of bs) 8 size)
    ∙ ap (λ (l : List ℕ). number (bits 8 b) ∷ bytes_of (length bs) l) (drop_at (bits 8 b) (bits_of bs) 8 size)
    ∙ ap (λ (k : ℕ). k ∷ bytes_of (length bs) (bits_of bs)) (number_bits 8 b ∙ same)
    ∙ ap (λ (l : List ℕ). b ∷ l) (bytes_of_bits_of bs a.1)

bits_of_none : bits_of [] ≡ []
unfolding bits_of
bits_of_none = refl

pub bits_of_bytes_of : (n : ℕ) (l : List ℕ) → length l ≡ 8 * n → AllBelow 2 l → bits_of (bytes_of n l) ≡ l
bits_of_bytes_of zero l h a = ap bits_of (bytes_of_none l) ∙ bits_of_none ∙ sym (nil_from_length l h)
bits_of_bytes_of (suc n) l h a =
    let size : length (take 8 l) ≡ 8 = simp length-take (omega arith) in
    ap bits_of (bytes_of_open n l) ∙ bits_of_open (number (take 8 l)) (bytes_of n (drop 8 l))
    ∙ ap (λ (x : List ℕ). x ++ bits_of (bytes_of n (drop 8 l))) (ap (λ (k : ℕ). bits k (number (take 8 l))) (sym size) ∙ bits_number (take 8 l) (all_below_take 2 8 l a))
    ∙ ap (λ (x : List ℕ). take 8 l ++ x) (bits_of_bytes_of n (drop 8 l) (omega (arith, length-drop 8 l)) (all_below_drop 2 8 l a))
    ∙ take-append-drop 8 l

bits_of_is_bits : (bs : List ℕ) → IsBits (8 * length bs) (bits_of bs)
bits_of_is_bits [] = record { size = ap length bits_of_none; low = subst (λ (l : List ℕ). AllBelow 2 l) (sym bits_of_none) tt }
bits_of_is_bits (b ∷ bs) =
    let rest : IsBits (8 * length bs) (bits_of bs) = bits_of_is_bits bs in
    record {
      size = ap length (bits_of_open b bs) ∙ length-append (bits 8 b) (bits_of bs) ∙ omega (arith, rest.size, length_bits 8 b);
      low = subst (λ (l : List ℕ). AllBelow 2 l) (sym (bits_of_open b bs)) (all_below_append 2 (bits 8 b) (bits_of bs) (bits_low 8 b) rest.low);
    }

bytes_of_is_block : (n : ℕ) (l : List ℕ) → length l ≡ 8 * n → AllBelow 2 l → IsBlock n (bytes_of n l)
bytes_of_is_block zero l h a = record { size = ap length (bytes_of_none l); bytes = subst (λ (x : List ℕ). AllBelow 256 x) (sym (bytes_of_none l)) tt }
bytes_of_is_block (suc n) l h a =
    let size : length (take 8 l) ≡ 8 = simp length-take (omega arith) in
    let rest : IsBlock n (bytes_of n (drop 8 l)) = bytes_of_is_block n (drop 8 l) (omega (arith, length-drop 8 l)) (all_below_drop 2 8 l a) in
    let first : number (take 8 l) < 256 = subst (λ (k : ℕ). number (take 8 l) < 2 ^ k) size (number_lt (take 8 l) (all_below_take 2 8 l a)) in
    record {
      size = ap length (bytes_of_open n l) ∙ ap suc rest.size;
      bytes = subst (λ (x : List ℕ). AllBelow 256 x) (sym (bytes_of_open n l)) (first, rest.bytes);
    }

-- ---- the permutations

final_initial_open : (l : List ℕ) → pick final (pick initial l) ≡ listed_from 64 l 0
unfolding pick initial final listed_from
final_initial_open l = refl

initial_final_open : (l : List ℕ) → pick initial (pick final l) ≡ listed_from 64 l 0
unfolding pick initial final listed_from
initial_final_open l = refl

pub final_initial : (l : List ℕ) → length l ≡ 64 → pick final (pick initial l) ≡ l
final_initial l h = final_initial_open l ∙ sym (listed 64 l h)

pub initial_final : (l : List ℕ) → length l ≡ 64 → pick initial (pick final l) ≡ l
initial_final l h = initial_final_open l ∙ sym (listed 64 l h)

-- ---- the rounds

rounds_append : (xs ys : List (List ℕ)) (l r : List ℕ) → rounds (xs ++ ys) l r ≡ rounds ys (rounds xs l r).0 (rounds xs l r).1
rounds_append [] ys l r = ap (λ (p : List ℕ × List ℕ). rounds ys p.0 p.1) (sym (rounds_none l r))
rounds_append (x ∷ xs) ys l r =
    rounds_cons x (xs ++ ys) l r ∙ rounds_append xs ys r (bit_sum l (f r x))
    ∙ ap (λ (p : List ℕ × List ℕ). rounds ys p.0 p.1) (sym (rounds_cons x xs l r))

rounds_back : (ks : List (List ℕ)) (l r : List ℕ) → rounds (reverse ks) (rounds ks l r).1 (rounds ks l r).0 ≡ (r, l)
rounds_back [] l r = rounds_none (rounds [] l r).1 (rounds [] l r).0 ∙ ap (λ (p : List ℕ × List ℕ). (p.1, p.0)) (rounds_none l r)
rounds_back (k ∷ ks) l r =
    let p : List ℕ × List ℕ = rounds ks r (bit_sum l (f r k)) in
    ap (λ (q : List ℕ × List ℕ). rounds (reverse (k ∷ ks)) q.1 q.0) (rounds_cons k ks l r)
    ∙ ap (λ (x : List (List ℕ)). rounds x p.1 p.0) (reverse-append (k ∷ []) ks)
    ∙ rounds_append (reverse ks) (k ∷ []) p.1 p.0
    ∙ ap (λ (q : List ℕ × List ℕ). rounds (k ∷ []) q.0 q.1) (rounds_back ks r (bit_sum l (f r k)))
    ∙ rounds_cons k [] (bit_sum l (f r k)) r ∙ rounds_none r (bit_sum (bit_sum l (f r k)) (f r k))
    ∙ ap (λ (x : List ℕ). (r, x)) (added_back l (f r k))

record AreHalves (p : List ℕ × List ℕ) : Type 0 where
  pub left : IsBits 32 p.0
  pub right : IsBits 32 p.1

rounds_halves : (ks : List (List ℕ)) (l r : List ℕ) → IsBits 32 l → IsBits 32 r → AreHalves (rounds ks l r)
rounds_halves [] l r hl hr = subst (λ (p : List ℕ × List ℕ). AreHalves p) (sym (rounds_none l r)) (record { left = hl; right = hr })
rounds_halves (k ∷ ks) l r hl hr =
    let next : IsBits 32 (bit_sum l (f r k)) = record { size = length_added l (f r k) ∙ hl.size; low = all_below_added 1 l (f r k) hl.low (f_low r k) } in
    subst (λ (p : List ℕ × List ℕ). AreHalves p) (sym (rounds_cons k ks l r)) (rounds_halves ks r (bit_sum l (f r k)) hr next)

-- ---- a block of bits

length_initial : length initial ≡ 64
unfolding initial
length_initial = refl

pub length_final : length final ≡ 64
unfolding final
length_final = refl

module _ (ks : List (List ℕ)) (x : List ℕ) (ok : IsBits 64 x) where
  start : List ℕ
  start = pick initial x

  halves : List ℕ × List ℕ
  halves = rounds ks (take 32 (pick initial x)) (drop 32 (pick initial x))

  halves_ok : AreHalves (rounds ks (take 32 (pick initial x)) (drop 32 (pick initial x)))
  halves_ok =
      let size : length (pick initial x) ≡ 64 = length_pick initial x ∙ length_initial in
      let low : AllBelow 2 (pick initial x) = pick_low initial x ok.low in
      rounds_halves ks (take 32 (pick initial x)) (drop 32 (pick initial x))
      (record { size = simp length-take (omega arith); low = all_below_take 2 32 (pick initial x) low })
      (record { size = omega (arith, length-drop 32 (pick initial x)); low = all_below_drop 2 32 (pick initial x) low })

  with_keys_ok : IsBits 64 (with_keys ks x)
  with_keys_ok =
      let p : List ℕ × List ℕ = rounds ks (take 32 (pick initial x)) (drop 32 (pick initial x)) in
      let low : AllBelow 2 (p.1 ++ p.0) = all_below_append 2 p.1 p.0 halves_ok.right.low halves_ok.left.low in
      subst (λ (l : List ℕ). IsBits 64 l) (sym (with_keys_open ks x))
      (record { size = length_pick final (p.1 ++ p.0) ∙ length_final; low = pick_low final (p.1 ++ p.0) low })

  with_keys_back : with_keys (reverse ks) (with_keys ks x) ≡ x
  with_keys_back =
      let s : List ℕ = pick initial x in
      let p : List ℕ × List ℕ = rounds ks (take 32 s) (drop 32 s) in
      let r32 : length p.1 ≡ 32 = halves_ok.right.size in
      let l32 : length p.0 ≡ 32 = halves_ok.left.size in
      let y : List ℕ = with_keys ks x in
      let again : pick initial y ≡ p.1 ++ p.0 = ap (pick initial) (with_keys_open ks x) ∙ initial_final (p.1 ++ p.0) (length-append p.1 p.0 ∙ omega arith) in
      let back : rounds (reverse ks) (take 32 (pick initial y)) (drop 32 (pick initial y)) ≡ (drop 32 s, take 32 s) =
      ap (λ (l : List ℕ). rounds (reverse ks) (take 32 l) (drop 32 l)) again
      ∙ ap (λ (l : List ℕ). rounds (reverse ks) l (drop 32 (p.1 ++ p.0))) (take_at p.1 p.0 32 r32)
      ∙ ap (rounds (reverse ks) p.1) (drop_at p.1 p.0 32 r32)
      ∙ rounds_back ks (take 32 s) (drop 32 s) in
      with_keys_open (reverse ks) y ∙ ap (λ (q : List ℕ × List ℕ). pick final (q.1 ++ q.0)) back
      ∙ ap (pick final) (take-append-drop 32 s) ∙ final_initial x ok.size

-- ---- a block of bytes

block_bits : (b : List ℕ) → IsBlock 8 b → IsBits 64 (bits_of b)
block_bits b ok = subst (λ (k : ℕ). IsBits (8 * k) (bits_of b)) ok.size (bits_of_is_bits b)

pub ciphered_block : (ks : List (List ℕ)) (b : List ℕ) → IsBlock 8 b → IsBlock 8 (des_block ks b)
ciphered_block ks b ok =
    let y : IsBits 64 (with_keys ks (bits_of b)) = with_keys_ok ks (bits_of b) (block_bits b ok) in
    subst (λ (l : List ℕ). IsBlock 8 l) (sym (ciphered_open ks b)) (bytes_of_is_block 8 (with_keys ks (bits_of b)) y.size y.low)

pub ciphered_back : (ks : List (List ℕ)) (b : List ℕ) → IsBlock 8 b → des_block (reverse ks) (des_block ks b) ≡ b
ciphered_back ks b ok =
    let x : IsBits 64 (bits_of b) = block_bits b ok in
    let y : IsBits 64 (with_keys ks (bits_of b)) = with_keys_ok ks (bits_of b) x in
    ap (des_block (reverse ks)) (ciphered_open ks b) ∙ ciphered_open (reverse ks) (bytes_of 8 (with_keys ks (bits_of b)))
    ∙ ap (λ (l : List ℕ). bytes_of 8 (with_keys (reverse ks) l)) (bits_of_bytes_of 8 (with_keys ks (bits_of b)) y.size y.low)
    ∙ ap (bytes_of 8) (with_keys_back ks (bits_of b) x)
    ∙ ap (λ (k : ℕ). bytes_of k (bits_of b)) (sym ok.size) ∙ bytes_of_bits_of b ok.bytes

-- ---- the laws

pub des_back : (key b : List ℕ) → IsBlock 8 b → des_decipher key (des_encipher key b) ≡ b
des_back key b ok =
    ap (des_decipher key) (des_encipher_open key b) ∙ des_decipher_open key (des_block (round_keys key) b) ∙ ciphered_back (round_keys key) b ok

pub des_forth : (key b : List ℕ) → IsBlock 8 b → des_encipher key (des_decipher key b) ≡ b
des_forth key b ok =
    ap (des_encipher key) (des_decipher_open key b) ∙ des_encipher_open key (des_block (reverse (round_keys key)) b)
    ∙ ap (λ (k : List (List ℕ)). des_block k (des_block (reverse (round_keys key)) b)) (sym (reverse-reverse (round_keys key)))
    ∙ ciphered_back (reverse (round_keys key)) b ok

des_encipher_block : (key b : List ℕ) → IsBlock 8 b → IsBlock 8 (des_encipher key b)
des_encipher_block key b ok = subst (λ (l : List ℕ). IsBlock 8 l) (sym (des_encipher_open key b)) (ciphered_block (round_keys key) b ok)

des_decipher_block : (key b : List ℕ) → IsBlock 8 b → IsBlock 8 (des_decipher key b)
des_decipher_block key b ok = subst (λ (l : List ℕ). IsBlock 8 l) (sym (des_decipher_open key b)) (ciphered_block (reverse (round_keys key)) b ok)

pub tdes_back : (key b : List ℕ) → IsBlock 8 b → tdes_decipher key (tdes_encipher key b) ≡ b
tdes_back key b ok =
    let k1 : List ℕ = take 8 key in
    let k2 : List ℕ = drop 8 key in
    let e1 : IsBlock 8 (des_encipher k1 b) = des_encipher_block k1 b ok in
    let e2 : IsBlock 8 (des_decipher k2 (des_encipher k1 b)) = des_decipher_block k2 (des_encipher k1 b) e1 in
    ap (tdes_decipher key) (tdes_encipher_open key b) ∙ tdes_decipher_open key (des_encipher k1 (des_decipher k2 (des_encipher k1 b)))
    ∙ ap (λ (l : List ℕ). des_decipher k1 (des_encipher k2 l)) (des_back k1 (des_decipher k2 (des_encipher k1 b)) e2)
    ∙ ap (des_decipher k1) (des_forth k2 (des_encipher k1 b) e1) ∙ des_back k1 b ok

pub tdes_single : (half b : List ℕ) → length half ≡ 8 → IsBlock 8 b → tdes_encipher (half ++ half) b ≡ des_encipher half b
tdes_single half b size ok =
    tdes_encipher_open (half ++ half) b
    ∙ ap (λ (l : List ℕ). des_encipher l (des_decipher (drop 8 (half ++ half)) (des_encipher l b))) (take_at half half 8 size)
    ∙ ap (λ (l : List ℕ). des_encipher half (des_decipher l (des_encipher half b))) (drop_at half half 8 size)
    ∙ ap (des_encipher half) (des_back half b ok)
