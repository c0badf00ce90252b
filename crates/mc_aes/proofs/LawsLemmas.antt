-- Deciphering undoes enciphering: bytes, rows, columns, and the rounds.
use Rattle.std.proofs.Common.{◌≡◌, inl, inr, ℕ, zero, suc, ◌+◌, ◌*◌, ◌/◌, ◌%◌, ◌^◌, ◌<◌, ◌==◌, ◌&&◌, true, List, [], ◌∷◌, ◌++◌, length, get_or, take, drop, map, reverse, refl, sym, ap, ◌∙◌, arith, subst, length-append, length-drop, length-take}
use Rattle.std.specs.Prelude.{Bool, nat_lt, bytes_eq}
use Rattle.std.specs.Int.Bits.{bit_xor, xor_zero_r, xor_assoc}
use Rattle.std.proofs.Math.Nat.{zero-mul, one-mul}
use Rattle.std.proofs.lemmas.Nat.{xor_comm, xor_shr, xor_block, xor_mod, xor_lt}
use Rattle.std.proofs.lemmas.Bool.{eqb-true, ltb-true, and_parts}
use Rattle.std.proofs.lemmas.Slice.Eq.{bytes_eq-Decides}
use Rattle.std.proofs.lemmas.List.{reverse-append, reverse-reverse, length-reverse, append_assoc}
use Rattle.model_machine.specs.Modes.{bit_sum, AllBelow, IsBlock}
use Rattle.model_machine.proofs.ModesLemmas.{all_below, below_at, added_back, length_added, all_below_append, all_below_take, all_below_drop, all_below_at, all_below_added, listed_from, listed}
use Rattle.model_machine.specs.Aes.{times2, mul_bits, mul, sub, sub_back, dot, times_matrix, bytes_at_places, shift_rows, shift_rows_back, columns_times_matrix, mix_columns, mix_columns_back, round, last_round, round_back, last_round_back, next_key_word, next_key, round_keys_from, round_keys, rounds, rounds_back, cipher_block, inverse_cipher_block, aes_encipher, aes_decipher}
use Rattle.mc_aes.proofs.CipherLemmas.{rounds_cons, rounds_last, rounds_back_cons, rounds_back_last, enciphered_cons, deciphered_cons}
use Rattle.mc_aes.proofs.AesLemmas.{aes_encipher_open, aes_decipher_open}
use Rattle.model_machine.specs.model_device.proofs.ListLemmas.{bit_cases}

-- ---- bytes

sub_test : all_below (λ b. (sub_back (sub b) == b) && nat_lt (sub b) 256) 256 ≡ true
unfolding all_below sub sub_back
sub_test = refl

sub_back_test : all_below (λ b. (sub (sub_back b) == b) && nat_lt (sub_back b) 256) 256 ≡ true
unfolding all_below sub sub_back
sub_back_test = refl

sub_undone : (b : ℕ) → b < 256 → sub_back (sub b) ≡ b
sub_undone b h = eqb-true _ _ (and_parts _ _ (below_at (λ b. (sub_back (sub b) == b) && nat_lt (sub b) 256) 256 sub_test b h)).0

sub_low : (b : ℕ) → b < 256 → sub b < 256
sub_low b h = ltb-true _ _ (and_parts _ _ (below_at (λ b. (sub_back (sub b) == b) && nat_lt (sub b) 256) 256 sub_test b h)).1

sub_back_undone : (b : ℕ) → b < 256 → sub (sub_back b) ≡ b
sub_back_undone b h = eqb-true _ _ (and_parts _ _ (below_at (λ b. (sub (sub_back b) == b) && nat_lt (sub_back b) 256) 256 sub_back_test b h)).0

sub_back_low : (b : ℕ) → b < 256 → sub_back b < 256
sub_back_low b h = ltb-true _ _ (and_parts _ _ (below_at (λ b. (sub (sub_back b) == b) && nat_lt (sub_back b) 256) 256 sub_back_test b h)).1

-- two maps of bytes, of which h is the inverse of g
module _ (g h : ℕ → ℕ) (undone : (b : ℕ) → b < 256 → h (g b) ≡ b) (low : (b : ℕ) → b < 256 → g b < 256) where
  map_undone : (l : List ℕ) → AllBelow 256 l → map h (map g l) ≡ l
  map_undone [] a = refl
  map_undone (x ∷ l) a = ap (λ (k : ℕ). k ∷ map h (map g l)) (undone x a.0) ∙ ap (λ (t : List ℕ). x ∷ t) (map_undone l a.1)

  map_low : (l : List ℕ) → AllBelow 256 l → AllBelow 256 (map g l)
  map_low [] a = tt
  map_low (x ∷ l) a = (low x a.0, map_low l a.1)

length_mapped : (g : ℕ → ℕ) (l : List ℕ) → length (map g l) ≡ length l
length_mapped g [] = refl
length_mapped g (x ∷ l) = ap suc (length_mapped g l)

sub_block : (s : List ℕ) → IsBlock 16 s → IsBlock 16 (map sub s)
sub_block s ok = record { size = length_mapped sub s ∙ ok.size; bytes = map_low sub sub_back sub_undone sub_low s ok.bytes }

sub_back_block : (s : List ℕ) → IsBlock 16 s → IsBlock 16 (map sub_back s)
sub_back_block s ok = record { size = length_mapped sub_back s ∙ ok.size; bytes = map_low sub_back sub sub_back_undone sub_back_low s ok.bytes }

added_block : (s k : List ℕ) → IsBlock 16 s → IsBlock 16 k → IsBlock 16 (bit_sum s k)
added_block s k s_ok k_ok = record { size = length_added s k ∙ s_ok.size; bytes = all_below_added 8 s k s_ok.bytes k_ok.bytes }

-- ---- rows

placed_low : (is s : List ℕ) → AllBelow 256 s → AllBelow 256 (bytes_at_places is s)
placed_low [] s a = tt
placed_low (i ∷ is) s a = (all_below_at 256 s i (omega arith) a, placed_low is s a)

shift_block : (s : List ℕ) → IsBlock 16 s → IsBlock 16 (shift_rows s)
shift_block s ok = record { size = refl; bytes = placed_low (0 ∷ 5 ∷ 10 ∷ 15 ∷ 4 ∷ 9 ∷ 14 ∷ 3 ∷ 8 ∷ 13 ∷ 2 ∷ 7 ∷ 12 ∷ 1 ∷ 6 ∷ 11 ∷ []) s ok.bytes }

shift_back_block : (s : List ℕ) → IsBlock 16 s → IsBlock 16 (shift_rows_back s)
shift_back_block s ok = record { size = refl; bytes = placed_low (0 ∷ 13 ∷ 10 ∷ 7 ∷ 4 ∷ 1 ∷ 14 ∷ 11 ∷ 8 ∷ 5 ∷ 2 ∷ 15 ∷ 12 ∷ 9 ∷ 6 ∷ 3 ∷ []) s ok.bytes }

rows_undone_open : (s : List ℕ) → shift_rows_back (shift_rows s) ≡ listed_from 16 s 0
unfolding listed_from
rows_undone_open s = refl

rows_undone : (s : List ℕ) → length s ≡ 16 → shift_rows_back (shift_rows s) ≡ s
rows_undone s h = rows_undone_open s ∙ sym (listed 16 s h)

rows_back_undone_open : (s : List ℕ) → shift_rows (shift_rows_back s) ≡ listed_from 16 s 0
unfolding listed_from
rows_back_undone_open s = refl

rows_back_undone : (s : List ℕ) → length s ≡ 16 → shift_rows (shift_rows_back s) ≡ s
rows_back_undone s h = rows_back_undone_open s ∙ sym (listed 16 s h)

-- ---- products are sums of products

exchange : (a b c d : ℕ) → bit_xor (bit_xor a b) (bit_xor c d) ≡ bit_xor (bit_xor a c) (bit_xor b d)
exchange a b c d =
    xor_assoc a b (bit_xor c d)
    ∙ ap (bit_xor a) (sym (xor_assoc b c d) ∙ ap (λ (x : ℕ). bit_xor x d) (xor_comm b c) ∙ xor_assoc c b d)
    ∙ sym (xor_assoc a c (bit_xor b d))

bit_times : (p x y : ℕ) → p < 2 → p * bit_xor x y ≡ bit_xor (p * x) (p * y)
bit_times p x y h =
    elim (bit_cases p h) [
      | inl e ↦ rw (e, zero-mul, zero-mul, zero-mul) refl
      | inr e ↦ rw (e, one-mul, one-mul, one-mul) refl
    ]

carried : (p q : ℕ) → p < 2 → q < 2 → 27 * bit_xor p q ≡ bit_xor (27 * p) (27 * q)
carried p q hp hq =
    elim (bit_cases p hp) [
      | inl e ↦ elim (bit_cases q hq) [ inl d ↦ rw (e, d) refl | inr d ↦ rw (e, d) refl ]
      | inr e ↦ elim (bit_cases q hq) [ inl d ↦ rw (e, d) refl | inr d ↦ rw (e, d) refl ]
    ]

doubled : (x y : ℕ) → 2 * bit_xor x y ≡ bit_xor (2 * x) (2 * y)
doubled x y =
    let b = xor_block 1 x y 0 0 (omega arith) (omega arith) in
    let ex : x * 2 ^ 1 + 0 ≡ 2 * x = omega arith in
    let ey : y * 2 ^ 1 + 0 ≡ 2 * y = omega arith in
    let es : bit_xor x y * 2 ^ 1 + bit_xor 0 0 ≡ 2 * bit_xor x y = omega arith in
    sym es ∙ sym b ∙ ap (λ (k : ℕ). bit_xor k (y * 2 ^ 1 + 0)) ex ∙ ap (bit_xor (2 * x)) ey

times2_xor : (x y : ℕ) → x < 256 → y < 256 → times2 (bit_xor x y) ≡ bit_xor (times2 x) (times2 y)
times2_xor x y hx hy =
    let front : 2 * bit_xor x y % 256 ≡ bit_xor (2 * x % 256) (2 * y % 256) = ap (λ (k : ℕ). k % 256) (doubled x y) ∙ xor_mod (2 * x) (2 * y) 8 in
    let back : 27 * (bit_xor x y / 128) ≡ bit_xor (27 * (x / 128)) (27 * (y / 128)) =
    ap (λ (k : ℕ). 27 * k) (xor_shr x y 7) ∙ carried (x / 128) (y / 128) (omega arith) (omega arith) in
    ap (λ (k : ℕ). bit_xor k (27 * (bit_xor x y / 128))) front ∙ ap (bit_xor (bit_xor (2 * x % 256) (2 * y % 256))) back
    ∙ exchange (2 * x % 256) (2 * y % 256) (27 * (x / 128)) (27 * (y / 128))

times2_low : (x : ℕ) → x < 256 → times2 x < 256
times2_low x h = xor_lt 8 (2 * x % 256) (27 * (x / 128)) (omega arith) (omega arith)

mul_bits_cons : (n a b : ℕ) → mul_bits (suc n) a b ≡ bit_xor (a % 2 * b) (mul_bits n (a / 2) (times2 b))
unfolding mul_bits
mul_bits_cons n a b = refl

mul_bits_none : (a b : ℕ) → mul_bits 0 a b ≡ 0
unfolding mul_bits
mul_bits_none a b = refl

mul_bits_xor : (n a x y : ℕ) → x < 256 → y < 256 → mul_bits n a (bit_xor x y) ≡ bit_xor (mul_bits n a x) (mul_bits n a y)
mul_bits_xor zero a x y hx hy =
    mul_bits_none a (bit_xor x y) ∙ sym (ap (λ (k : ℕ). bit_xor k (mul_bits 0 a y)) (mul_bits_none a x) ∙ mul_bits_none a y)
mul_bits_xor (suc n) a x y hx hy =
    mul_bits_cons n a (bit_xor x y)
    ∙ ap (λ (k : ℕ). bit_xor k (mul_bits n (a / 2) (times2 (bit_xor x y)))) (bit_times (a % 2) x y (omega arith))
    ∙ ap (bit_xor (bit_xor (a % 2 * x) (a % 2 * y)))
    (ap (mul_bits n (a / 2)) (times2_xor x y hx hy) ∙ mul_bits_xor n (a / 2) (times2 x) (times2 y) (times2_low x hx) (times2_low y hy))
    ∙ exchange (a % 2 * x) (a % 2 * y) (mul_bits n (a / 2) (times2 x)) (mul_bits n (a / 2) (times2 y))
    ∙ sym (ap (λ (k : ℕ). bit_xor k (mul_bits (suc n) a y)) (mul_bits_cons n a x) ∙ ap (bit_xor (bit_xor (a % 2 * x) (mul_bits n (a / 2) (times2 x)))) (mul_bits_cons n a y))

mul_open : (a b : ℕ) → mul a b ≡ mul_bits 8 a b
unfolding mul
mul_open a b = refl

mul_xor : (a x y : ℕ) → x < 256 → y < 256 → mul a (bit_xor x y) ≡ bit_xor (mul a x) (mul a y)
mul_xor a x y hx hy =
    mul_open a (bit_xor x y) ∙ mul_bits_xor 8 a x y hx hy
    ∙ sym (ap (λ (k : ℕ). bit_xor k (mul a y)) (mul_open a x) ∙ ap (bit_xor (mul_bits 8 a x)) (mul_open a y))

bit_times_low : (p x : ℕ) → p < 2 → x < 256 → p * x < 256
bit_times_low p x hp hx = elim (bit_cases p hp) [ inl e ↦ rw (e, zero-mul) (omega arith) | inr e ↦ rw (e, one-mul) hx ]

mul_bits_low : (n a b : ℕ) → b < 256 → mul_bits n a b < 256
mul_bits_low zero a b h = rw (mul_bits_none a b) (omega arith)
mul_bits_low (suc n) a b h =
    rw (mul_bits_cons n a b) (xor_lt 8 (a % 2 * b) (mul_bits n (a / 2) (times2 b)) (bit_times_low (a % 2) b (omega arith) h) (mul_bits_low n (a / 2) (times2 b) (times2_low b h)))

mul_low : (a b : ℕ) → b < 256 → mul a b < 256
mul_low a b h = rw (mul_open a b) (mul_bits_low 8 a b h)

-- ---- columns

four_bytes : (a b c d a' b' c' d' : ℕ) → a ≡ a' → b ≡ b' → c ≡ c' → d ≡ d' → a ∷ b ∷ c ∷ d ∷ [] ≡ a' ∷ b' ∷ c' ∷ d' ∷ []
four_bytes a b c d a' b' c' d' ea eb ec ed = cc

dot_low : (p q r s a b c d : ℕ) → a < 256 → b < 256 → c < 256 → d < 256 → dot p q r s (a ∷ b ∷ c ∷ d ∷ []) < 256
dot_low p q r s a b c d ha hb hc hd =
    xor_lt 8 (bit_xor (bit_xor (mul p a) (mul q b)) (mul r c)) (mul s d)
    (xor_lt 8 (bit_xor (mul p a) (mul q b)) (mul r c) (xor_lt 8 (mul p a) (mul q b) (mul_low p a ha) (mul_low q b hb)) (mul_low r c hc)) (mul_low s d hd)

mixed_cons : (n p q r s : ℕ) (l : List ℕ) → columns_times_matrix (suc n) p q r s l ≡ times_matrix p q r s (take 4 l) ++ columns_times_matrix n p q r s (drop 4 l)
unfolding columns_times_matrix
mixed_cons n p q r s l = refl

mixed_none : (p q r s : ℕ) (l : List ℕ) → columns_times_matrix 0 p q r s l ≡ []
unfolding columns_times_matrix
mixed_none p q r s l = refl

dot_xor : (p q r s a b c d a' b' c' d' : ℕ) → a < 256 → b < 256 → c < 256 → d < 256 → a' < 256 → b' < 256 → c' < 256 → d' < 256
    → dot p q r s (bit_xor a a' ∷ bit_xor b b' ∷ bit_xor c c' ∷ bit_xor d d' ∷ []) ≡ bit_xor (dot p q r s (a ∷ b ∷ c ∷ d ∷ [])) (dot p q r s (a' ∷ b' ∷ c' ∷ d' ∷ []))
dot_xor p q r s a b c d a' b' c' d' ha hb hc hd ha' hb' hc' hd' =
    rw (mul_xor p a a' ha ha', mul_xor q b b' hb hb', mul_xor r c c' hc hc', mul_xor s d d' hd hd')
    (ap (λ (k : ℕ). bit_xor (bit_xor k (bit_xor (mul r c) (mul r c'))) (bit_xor (mul s d) (mul s d'))) (exchange (mul p a) (mul p a') (mul q b) (mul q b'))
    ∙ ap (λ (k : ℕ). bit_xor k (bit_xor (mul s d) (mul s d'))) (exchange (bit_xor (mul p a) (mul q b)) (bit_xor (mul p a') (mul q b')) (mul r c) (mul r c'))
    ∙ exchange (bit_xor (bit_xor (mul p a) (mul q b)) (mul r c)) (bit_xor (bit_xor (mul p a') (mul q b')) (mul r c')) (mul s d) (mul s d'))

matrix_xor : (p q r s a b c d a' b' c' d' : ℕ) → a < 256 → b < 256 → c < 256 → d < 256 → a' < 256 → b' < 256 → c' < 256 → d' < 256
    → times_matrix p q r s (bit_xor a a' ∷ bit_xor b b' ∷ bit_xor c c' ∷ bit_xor d d' ∷ []) ≡ bit_sum (times_matrix p q r s (a ∷ b ∷ c ∷ d ∷ [])) (times_matrix p q r s (a' ∷ b' ∷ c' ∷ d' ∷ []))
matrix_xor p q r s a b c d a' b' c' d' ha hb hc hd ha' hb' hc' hd' =
    let e0 = dot_xor p q r s a b c d a' b' c' d' ha hb hc hd ha' hb' hc' hd' in
    let e1 = dot_xor s p q r a b c d a' b' c' d' ha hb hc hd ha' hb' hc' hd' in
    let e2 = dot_xor r s p q a b c d a' b' c' d' ha hb hc hd ha' hb' hc' hd' in
    let e3 = dot_xor q r s p a b c d a' b' c' d' ha hb hc hd ha' hb' hc' hd' in
    four_bytes _ _ _ _ _ _ _ _ e0 e1 e2 e3

-- the product of two matrices on a sum of columns
both_xor : (p q r s x y z w a b c d a' b' c' d' : ℕ) → a < 256 → b < 256 → c < 256 → d < 256 → a' < 256 → b' < 256 → c' < 256 → d' < 256
    → times_matrix x y z w (times_matrix p q r s (bit_xor a a' ∷ bit_xor b b' ∷ bit_xor c c' ∷ bit_xor d d' ∷ []))
    ≡ bit_sum (times_matrix x y z w (times_matrix p q r s (a ∷ b ∷ c ∷ d ∷ []))) (times_matrix x y z w (times_matrix p q r s (a' ∷ b' ∷ c' ∷ d' ∷ [])))
both_xor p q r s x y z w a b c d a' b' c' d' ha hb hc hd ha' hb' hc' hd' =
    ap (times_matrix x y z w) (matrix_xor p q r s a b c d a' b' c' d' ha hb hc hd ha' hb' hc' hd')
    ∙ matrix_xor x y z w (dot p q r s (a ∷ b ∷ c ∷ d ∷ [])) (dot s p q r (a ∷ b ∷ c ∷ d ∷ [])) (dot r s p q (a ∷ b ∷ c ∷ d ∷ [])) (dot q r s p (a ∷ b ∷ c ∷ d ∷ []))
    (dot p q r s (a' ∷ b' ∷ c' ∷ d' ∷ [])) (dot s p q r (a' ∷ b' ∷ c' ∷ d' ∷ [])) (dot r s p q (a' ∷ b' ∷ c' ∷ d' ∷ [])) (dot q r s p (a' ∷ b' ∷ c' ∷ d' ∷ []))
    (dot_low p q r s a b c d ha hb hc hd) (dot_low s p q r a b c d ha hb hc hd) (dot_low r s p q a b c d ha hb hc hd) (dot_low q r s p a b c d ha hb hc hd)
    (dot_low p q r s a' b' c' d' ha' hb' hc' hd') (dot_low s p q r a' b' c' d' ha' hb' hc' hd') (dot_low r s p q a' b' c' d' ha' hb' hc' hd') (dot_low q r s p a' b' c' d' ha' hb' hc' hd')

-- the product of two matrices maps each column with one byte b and three zeros to itself
abbrev alone_back : ℕ → ℕ → ℕ → ℕ → ℕ → ℕ → ℕ → ℕ → ℕ → Bool
alone_back p q r s x y z w b =
    (bytes_eq (times_matrix x y z w (times_matrix p q r s (b ∷ 0 ∷ 0 ∷ 0 ∷ []))) (b ∷ 0 ∷ 0 ∷ 0 ∷ [])
    && bytes_eq (times_matrix x y z w (times_matrix p q r s (0 ∷ b ∷ 0 ∷ 0 ∷ []))) (0 ∷ b ∷ 0 ∷ 0 ∷ []))
    && (bytes_eq (times_matrix x y z w (times_matrix p q r s (0 ∷ 0 ∷ b ∷ 0 ∷ []))) (0 ∷ 0 ∷ b ∷ 0 ∷ [])
    && bytes_eq (times_matrix x y z w (times_matrix p q r s (0 ∷ 0 ∷ 0 ∷ b ∷ []))) (0 ∷ 0 ∷ 0 ∷ b ∷ []))

mix_test : all_below (alone_back 2 3 1 1 14 11 13 9) 256 ≡ true
unfolding all_below mul
mix_test = refl

mix_back_test : all_below (alone_back 14 11 13 9 2 3 1 1) 256 ≡ true
unfolding all_below mul
mix_back_test = refl

module _ (p q r s x y z w : ℕ) (test : all_below (alone_back p q r s x y z w) 256 ≡ true) where
  column_undone : (a b c d : ℕ) → a < 256 → b < 256 → c < 256 → d < 256
      → times_matrix x y z w (times_matrix p q r s (a ∷ b ∷ c ∷ d ∷ [])) ≡ a ∷ b ∷ c ∷ d ∷ []
  column_undone a b c d ha hb hc hd =
      let zero_low : 0 < 256 = omega arith in
      let at_a = and_parts _ _ (below_at (alone_back p q r s x y z w) 256 test a ha) in
      let at_b = and_parts _ _ (below_at (alone_back p q r s x y z w) 256 test b hb) in
      let at_c = and_parts _ _ (below_at (alone_back p q r s x y z w) 256 test c hc) in
      let at_d = and_parts _ _ (below_at (alone_back p q r s x y z w) 256 test d hd) in
      let t = λ (l : List ℕ). times_matrix x y z w (times_matrix p q r s l) in
      let ea : times_matrix x y z w (times_matrix p q r s (a ∷ 0 ∷ 0 ∷ 0 ∷ [])) ≡ a ∷ 0 ∷ 0 ∷ 0 ∷ [] = (bytes_eq-Decides _ _).0 (and_parts _ _ at_a.0).0 in
      let eb : times_matrix x y z w (times_matrix p q r s (0 ∷ b ∷ 0 ∷ 0 ∷ [])) ≡ 0 ∷ b ∷ 0 ∷ 0 ∷ [] = (bytes_eq-Decides _ _).0 (and_parts _ _ at_b.0).1 in
      let ec : times_matrix x y z w (times_matrix p q r s (0 ∷ 0 ∷ c ∷ 0 ∷ [])) ≡ 0 ∷ 0 ∷ c ∷ 0 ∷ [] = (bytes_eq-Decides _ _).0 (and_parts _ _ at_c.1).0 in
      let ed : times_matrix x y z w (times_matrix p q r s (0 ∷ 0 ∷ 0 ∷ d ∷ [])) ≡ 0 ∷ 0 ∷ 0 ∷ d ∷ [] = (bytes_eq-Decides _ _).0 (and_parts _ _ at_d.1).1 in
      let front : times_matrix x y z w (times_matrix p q r s (a ∷ b ∷ 0 ∷ 0 ∷ [])) ≡ a ∷ b ∷ 0 ∷ 0 ∷ [] =
      ap (λ (k : ℕ). times_matrix x y z w (times_matrix p q r s (k ∷ b ∷ 0 ∷ 0 ∷ []))) (sym (xor_zero_r a))
      ∙ both_xor p q r s x y z w a 0 0 0 0 b 0 0 ha zero_low zero_low zero_low zero_low hb zero_low zero_low
      ∙ ap (λ (l : List ℕ). bit_sum l (times_matrix x y z w (times_matrix p q r s (0 ∷ b ∷ 0 ∷ 0 ∷ [])))) ea ∙ ap (bit_sum (a ∷ 0 ∷ 0 ∷ 0 ∷ [])) eb
      ∙ ap (λ (k : ℕ). k ∷ b ∷ 0 ∷ 0 ∷ []) (xor_zero_r a) in
      let back : times_matrix x y z w (times_matrix p q r s (0 ∷ 0 ∷ c ∷ d ∷ [])) ≡ 0 ∷ 0 ∷ c ∷ d ∷ [] =
      ap (λ (k : ℕ). times_matrix x y z w (times_matrix p q r s (0 ∷ 0 ∷ k ∷ d ∷ []))) (sym (xor_zero_r c))
      ∙ both_xor p q r s x y z w 0 0 c 0 0 0 0 d zero_low zero_low hc zero_low zero_low zero_low zero_low hd
      ∙ ap (λ (l : List ℕ). bit_sum l (times_matrix x y z w (times_matrix p q r s (0 ∷ 0 ∷ 0 ∷ d ∷ [])))) ec ∙ ap (bit_sum (0 ∷ 0 ∷ c ∷ 0 ∷ [])) ed
      ∙ ap (λ (k : ℕ). 0 ∷ 0 ∷ k ∷ d ∷ []) (xor_zero_r c) in
      ap (λ (k : ℕ). times_matrix x y z w (times_matrix p q r s (k ∷ b ∷ c ∷ d ∷ []))) (sym (xor_zero_r a))
      ∙ ap (λ (k : ℕ). times_matrix x y z w (times_matrix p q r s (bit_xor a 0 ∷ k ∷ c ∷ d ∷ []))) (sym (xor_zero_r b))
      ∙ both_xor p q r s x y z w a b 0 0 0 0 c d ha hb zero_low zero_low zero_low zero_low hc hd
      ∙ ap (λ (l : List ℕ). bit_sum l (times_matrix x y z w (times_matrix p q r s (0 ∷ 0 ∷ c ∷ d ∷ [])))) front ∙ ap (bit_sum (a ∷ b ∷ 0 ∷ 0 ∷ [])) back
      ∙ ap (λ (k : ℕ). k ∷ bit_xor b 0 ∷ c ∷ d ∷ []) (xor_zero_r a) ∙ ap (λ (k : ℕ). a ∷ k ∷ c ∷ d ∷ []) (xor_zero_r b)

  mixed_undone : (n : ℕ) (l : List ℕ) → length l ≡ 4 * n → AllBelow 256 l → columns_times_matrix n x y z w (columns_times_matrix n p q r s l) ≡ l
  mixed_undone zero [] h a = mixed_none x y z w (columns_times_matrix 0 p q r s [])
  mixed_undone zero (b ∷ l) h a = absurd (omega arith)
  mixed_undone (suc n) [] h a = absurd (omega arith)
  mixed_undone (suc n) (b0 ∷ []) h a = absurd (omega arith)
  mixed_undone (suc n) (b0 ∷ b1 ∷ []) h a = absurd (omega arith)
  mixed_undone (suc n) (b0 ∷ b1 ∷ b2 ∷ []) h a = absurd (omega arith)
  mixed_undone (suc n) (b0 ∷ b1 ∷ b2 ∷ b3 ∷ l) h a =
      ap (columns_times_matrix (suc n) x y z w) (mixed_cons n p q r s (b0 ∷ b1 ∷ b2 ∷ b3 ∷ l))
      ∙ mixed_cons n x y z w (times_matrix p q r s (b0 ∷ b1 ∷ b2 ∷ b3 ∷ []) ++ columns_times_matrix n p q r s l)
      ∙ ap (λ (c : List ℕ). c ++ columns_times_matrix n x y z w (columns_times_matrix n p q r s l)) (column_undone b0 b1 b2 b3 a.0 a.1.0 a.1.1.0 a.1.1.1.0)
      ∙ ap (λ (t : List ℕ). b0 ∷ b1 ∷ b2 ∷ b3 ∷ t) (mixed_undone n l (omega arith) a.1.1.1.1)

matrix_low : (p q r s : ℕ) (l : List ℕ) → AllBelow 256 l → AllBelow 256 (times_matrix p q r s l)
matrix_low p q r s l a =
    let at : (i : ℕ) → get_or l i 0 < 256 = λ i. all_below_at 256 l i (omega arith) a in (
      dot_low p q r s (get_or l 0 0) (get_or l 1 0) (get_or l 2 0) (get_or l 3 0) (at 0) (at 1) (at 2) (at 3),
      (
        dot_low s p q r (get_or l 0 0) (get_or l 1 0) (get_or l 2 0) (get_or l 3 0) (at 0) (at 1) (at 2) (at 3),
        (
          dot_low r s p q (get_or l 0 0) (get_or l 1 0) (get_or l 2 0) (get_or l 3 0) (at 0) (at 1) (at 2) (at 3),
          (dot_low q r s p (get_or l 0 0) (get_or l 1 0) (get_or l 2 0) (get_or l 3 0) (at 0) (at 1) (at 2) (at 3), tt),
        ),
      ),
    )

mixed_low : (n p q r s : ℕ) (l : List ℕ) → AllBelow 256 l → IsBlock (4 * n) (columns_times_matrix n p q r s l)
mixed_low zero p q r s l a = record { size = ap length (mixed_none p q r s l); bytes = subst (λ (x : List ℕ). AllBelow 256 x) (sym (mixed_none p q r s l)) tt }
mixed_low (suc n) p q r s l a =
    let rest : IsBlock (4 * n) (columns_times_matrix n p q r s (drop 4 l)) = mixed_low n p q r s (drop 4 l) (all_below_drop 256 4 l a) in
    let col : List ℕ = times_matrix p q r s (take 4 l) in
    record {
      size = ap length (mixed_cons n p q r s l) ∙ length-append col (columns_times_matrix n p q r s (drop 4 l)) ∙ omega (arith, rest.size);
      bytes = subst (λ (x : List ℕ). AllBelow 256 x) (sym (mixed_cons n p q r s l)) (all_below_append 256 col (columns_times_matrix n p q r s (drop 4 l)) (matrix_low p q r s (take 4 l) (all_below_take 256 4 l a)) rest.bytes);
    }

mix_open : (s : List ℕ) → mix_columns s ≡ columns_times_matrix 4 2 3 1 1 s
unfolding mix_columns
mix_open s = refl

mix_back_open : (s : List ℕ) → mix_columns_back s ≡ columns_times_matrix 4 14 11 13 9 s
unfolding mix_columns_back
mix_back_open s = refl

mix_undone : (s : List ℕ) → IsBlock 16 s → mix_columns_back (mix_columns s) ≡ s
mix_undone s ok = mix_back_open (mix_columns s) ∙ ap (columns_times_matrix 4 14 11 13 9) (mix_open s) ∙ mixed_undone 2 3 1 1 14 11 13 9 mix_test 4 s ok.size ok.bytes

mix_back_undone : (s : List ℕ) → IsBlock 16 s → mix_columns (mix_columns_back s) ≡ s
mix_back_undone s ok = mix_open (mix_columns_back s) ∙ ap (columns_times_matrix 4 2 3 1 1) (mix_back_open s) ∙ mixed_undone 14 11 13 9 2 3 1 1 mix_back_test 4 s ok.size ok.bytes

mix_block : (s : List ℕ) → IsBlock 16 s → IsBlock 16 (mix_columns s)
mix_block s ok = subst (λ (l : List ℕ). IsBlock 16 l) (sym (mix_open s)) (mixed_low 4 2 3 1 1 s ok.bytes)

mix_back_block : (s : List ℕ) → IsBlock 16 s → IsBlock 16 (mix_columns_back s)
mix_back_block s ok = subst (λ (l : List ℕ). IsBlock 16 l) (sym (mix_back_open s)) (mixed_low 4 14 11 13 9 s ok.bytes)

-- ---- rounds

round_open : (k s : List ℕ) → round k s ≡ bit_sum (mix_columns (shift_rows (map sub s))) k
unfolding round
round_open k s = refl

last_round_open : (k s : List ℕ) → last_round k s ≡ bit_sum (shift_rows (map sub s)) k
unfolding last_round
last_round_open k s = refl

round_back_open : (k s : List ℕ) → round_back k s ≡ map sub_back (shift_rows_back (mix_columns_back (bit_sum s k)))
unfolding round_back
round_back_open k s = refl

last_round_back_open : (k s : List ℕ) → last_round_back k s ≡ map sub_back (shift_rows_back (bit_sum s k))
unfolding last_round_back
last_round_back_open k s = refl

middle_block : (s : List ℕ) → IsBlock 16 s → IsBlock 16 (shift_rows (map sub s))
middle_block s ok = shift_block (map sub s) (sub_block s ok)

middle_undone : (s : List ℕ) → IsBlock 16 s → map sub_back (shift_rows_back (shift_rows (map sub s))) ≡ s
middle_undone s ok =
    ap (map sub_back) (rows_undone (map sub s) (sub_block s ok).size) ∙ map_undone sub sub_back sub_undone sub_low s ok.bytes

middle_back_undone : (s : List ℕ) → IsBlock 16 s → shift_rows (map sub (map sub_back (shift_rows_back s))) ≡ s
middle_back_undone s ok =
    ap shift_rows (map_undone sub_back sub sub_back_undone sub_back_low (shift_rows_back s) (shift_back_block s ok).bytes) ∙ rows_back_undone s ok.size

round_block : (k s : List ℕ) → IsBlock 16 k → IsBlock 16 s → IsBlock 16 (round k s)
round_block k s k_ok ok =
    subst (λ (l : List ℕ). IsBlock 16 l) (sym (round_open k s)) (added_block (mix_columns (shift_rows (map sub s))) k (mix_block (shift_rows (map sub s)) (middle_block s ok)) k_ok)

round_undone : (k s : List ℕ) → IsBlock 16 s → round_back k (round k s) ≡ s
round_undone k s ok =
    ap (round_back k) (round_open k s) ∙ round_back_open k (bit_sum (mix_columns (shift_rows (map sub s))) k)
    ∙ ap (λ (l : List ℕ). map sub_back (shift_rows_back (mix_columns_back l))) (added_back (mix_columns (shift_rows (map sub s))) k)
    ∙ ap (λ (l : List ℕ). map sub_back (shift_rows_back l)) (mix_undone (shift_rows (map sub s)) (middle_block s ok)) ∙ middle_undone s ok

last_round_undone : (k s : List ℕ) → IsBlock 16 s → last_round_back k (last_round k s) ≡ s
last_round_undone k s ok =
    ap (last_round_back k) (last_round_open k s) ∙ last_round_back_open k (bit_sum (shift_rows (map sub s)) k)
    ∙ ap (λ (l : List ℕ). map sub_back (shift_rows_back l)) (added_back (shift_rows (map sub s)) k) ∙ middle_undone s ok

-- ---- the law

-- each key of a list is a block
abbrev AllBlocks : List (List ℕ) → Type 0
AllBlocks [] = Unit {0}
AllBlocks (k ∷ ks) = IsBlock 16 k × AllBlocks ks

rounds_undone : (k : List ℕ) (ks : List (List ℕ)) (j : List ℕ) (rest : List (List ℕ)) (s : List ℕ) → AllBlocks (k ∷ ks) → IsBlock 16 s
    → inverse_cipher_block (reverse (k ∷ ks) ++ (j ∷ rest)) (rounds (k ∷ ks) s) ≡ rounds_back (j ∷ rest) s
rounds_undone k [] j rest s all ok =
    ap (inverse_cipher_block (k ∷ j ∷ rest)) (rounds_last k s) ∙ deciphered_cons k (j ∷ rest) (last_round k s)
    ∙ ap (rounds_back (j ∷ rest)) (last_round_undone k s ok)
rounds_undone k (i ∷ ks) j rest s all ok =
    ap (inverse_cipher_block (reverse (k ∷ i ∷ ks) ++ (j ∷ rest))) (rounds_cons k i ks s)
    ∙ ap (λ (l : List (List ℕ)). inverse_cipher_block (l ++ (j ∷ rest)) (rounds (i ∷ ks) (round k s))) (reverse-append (k ∷ []) (i ∷ ks))
    ∙ ap (λ (l : List (List ℕ)). inverse_cipher_block l (rounds (i ∷ ks) (round k s))) (append_assoc (reverse (i ∷ ks)) (k ∷ []) (j ∷ rest))
    ∙ rounds_undone i ks k (j ∷ rest) (round k s) all.1 (round_block k s all.0 ok)
    ∙ rounds_back_cons k j rest (round k s) ∙ ap (rounds_back (j ∷ rest)) (round_undone k s ok)

cipher_undone : (k j : List ℕ) (ks : List (List ℕ)) (b : List ℕ) → AllBlocks (k ∷ j ∷ ks) → IsBlock 16 b
    → inverse_cipher_block (reverse (k ∷ j ∷ ks)) (cipher_block (k ∷ j ∷ ks) b) ≡ b
cipher_undone k j ks b all ok =
    ap (inverse_cipher_block (reverse (k ∷ j ∷ ks))) (enciphered_cons k (j ∷ ks) b)
    ∙ ap (λ (l : List (List ℕ)). inverse_cipher_block l (rounds (j ∷ ks) (bit_sum b k))) (reverse-append (k ∷ []) (j ∷ ks))
    ∙ rounds_undone j ks k [] (bit_sum b k) all.1 (added_block b k ok all.0)
    ∙ rounds_back_last k (bit_sum b k) ∙ added_back b k

-- ---- the round keys are blocks

changed_open : (c : ℕ) (w : List ℕ) → next_key_word c w ≡ bit_sum (map sub (drop 1 w ++ take 1 w)) (c ∷ [])
unfolding next_key_word
changed_open c w = refl

changed_low : (c : ℕ) (w : List ℕ) → c < 256 → AllBelow 256 w → AllBelow 256 (next_key_word c w)
changed_low c w h a =
    subst (λ (l : List ℕ). AllBelow 256 l) (sym (changed_open c w))
    (all_below_added 8 (map sub (drop 1 w ++ take 1 w)) (c ∷ [])
    (map_low sub sub_back sub_undone sub_low (drop 1 w ++ take 1 w) (all_below_append 256 (drop 1 w) (take 1 w) (all_below_drop 256 1 w a) (all_below_take 256 1 w a))) (h, tt))

next_key_open : (c : ℕ) (k : List ℕ) →
    let w0 = bit_sum (take 4 k) (next_key_word c (drop 12 k)) in
    let w1 = bit_sum (take 4 (drop 4 k)) w0 in
    let w2 = bit_sum (take 4 (drop 8 k)) w1 in
    let w3 = bit_sum (drop 12 k) w2 in
    next_key c k ≡ w0 ++ w1 ++ w2 ++ w3
unfolding next_key
next_key_open c k = refl

next_key_block : (c : ℕ) (k : List ℕ) → c < 256 → IsBlock 16 k → IsBlock 16 (next_key c k)
next_key_block c k h ok =
    let size : length k ≡ 16 = ok.size in
    let w0 : List ℕ = bit_sum (take 4 k) (next_key_word c (drop 12 k)) in
    let w1 : List ℕ = bit_sum (take 4 (drop 4 k)) w0 in
    let w2 : List ℕ = bit_sum (take 4 (drop 8 k)) w1 in
    let w3 : List ℕ = bit_sum (drop 12 k) w2 in
    let l0 : length w0 ≡ 4 = length_added (take 4 k) (next_key_word c (drop 12 k)) ∙ simp length-take (omega arith) in
    let l1 : length w1 ≡ 4 = length_added (take 4 (drop 4 k)) w0 ∙ simp (length-take, length-drop) (omega arith) in
    let l2 : length w2 ≡ 4 = length_added (take 4 (drop 8 k)) w1 ∙ simp (length-take, length-drop) (omega arith) in
    let l3 : length w3 ≡ 4 = length_added (drop 12 k) w2 ∙ simp length-drop (omega arith) in
    let a0 : AllBelow 256 w0 = all_below_added 8 (take 4 k) (next_key_word c (drop 12 k)) (all_below_take 256 4 k ok.bytes) (changed_low c (drop 12 k) h (all_below_drop 256 12 k ok.bytes)) in
    let a1 : AllBelow 256 w1 = all_below_added 8 (take 4 (drop 4 k)) w0 (all_below_take 256 4 (drop 4 k) (all_below_drop 256 4 k ok.bytes)) a0 in
    let a2 : AllBelow 256 w2 = all_below_added 8 (take 4 (drop 8 k)) w1 (all_below_take 256 4 (drop 8 k) (all_below_drop 256 8 k ok.bytes)) a1 in
    let a3 : AllBelow 256 w3 = all_below_added 8 (drop 12 k) w2 (all_below_drop 256 12 k ok.bytes) a2 in
    let whole : IsBlock 16 (w0 ++ w1 ++ w2 ++ w3) = record {
      size = length-append (w0 ++ w1 ++ w2) w3 ∙ ap (λ (n : ℕ). n + length w3) (length-append (w0 ++ w1) w2 ∙ ap (λ (n : ℕ). n + length w2) (length-append w0 w1)) ∙ omega (arith, l0, l1, l2, l3);
      bytes = all_below_append 256 (w0 ++ w1 ++ w2) w3 (all_below_append 256 (w0 ++ w1) w2 (all_below_append 256 w0 w1 a0 a1) a2) a3;
    } in
    subst (λ (l : List ℕ). IsBlock 16 l) (sym (next_key_open c k)) whole

round_keys_from_none : (c : ℕ) (k : List ℕ) → round_keys_from 0 c k ≡ k ∷ []
unfolding round_keys_from
round_keys_from_none c k = refl

round_keys_from_cons : (n c : ℕ) (k : List ℕ) → round_keys_from (suc n) c k ≡ k ∷ round_keys_from n (times2 c) (next_key c k)
unfolding round_keys_from
round_keys_from_cons n c k = refl

keys_blocks : (n c : ℕ) (k : List ℕ) → c < 256 → IsBlock 16 k → AllBlocks (round_keys_from n c k)
keys_blocks zero c k h ok = subst (λ (l : List (List ℕ)). AllBlocks l) (sym (round_keys_from_none c k)) (ok, tt)
keys_blocks (suc n) c k h ok =
    subst (λ (l : List (List ℕ)). AllBlocks l) (sym (round_keys_from_cons n c k)) (ok, keys_blocks n (times2 c) (next_key c k) (times2_low c h) (next_key_block c k h ok))

round_keys_open : (key : List ℕ) → round_keys key ≡ round_keys_from 10 1 key
unfolding round_keys
round_keys_open key = refl

length_keys : (n c : ℕ) (k : List ℕ) → length (round_keys_from n c k) ≡ suc n
length_keys zero c k = ap length (round_keys_from_none c k)
length_keys (suc n) c k = ap length (round_keys_from_cons n c k) ∙ ap suc (length_keys n (times2 c) (next_key c k))

round_keys_long : (key : List ℕ) → length (round_keys key) ≡ 11
round_keys_long key = ap length (round_keys_open key) ∙ length_keys 10 1 key

list_undone : (ks : List (List ℕ)) (b : List ℕ) → length ks ≡ 11 → AllBlocks ks → IsBlock 16 b → inverse_cipher_block (reverse ks) (cipher_block ks b) ≡ b
list_undone [] b h all ok = absurd (omega arith)
list_undone (k ∷ []) b h all ok = absurd (omega arith)
list_undone (k ∷ j ∷ ks) b h all ok = cipher_undone k j ks b all ok

pub aes_back : (key b : List ℕ) → IsBlock 16 key → IsBlock 16 b → aes_decipher key (aes_encipher key b) ≡ b
aes_back key b key_ok ok =
    let all : AllBlocks (round_keys key) = subst (λ (l : List (List ℕ)). AllBlocks l) (sym (round_keys_open key)) (keys_blocks 10 1 key (omega arith) key_ok) in
    ap (aes_decipher key) (aes_encipher_open key b) ∙ aes_decipher_open key (cipher_block (round_keys key) b)
    ∙ list_undone (round_keys key) b (round_keys_long key) all ok

-- ---- enciphering is the inverse of deciphering

round_forth : (k s : List ℕ) → IsBlock 16 k → IsBlock 16 s → round k (round_back k s) ≡ s
round_forth k s k_ok ok =
    let x : List ℕ = mix_columns_back (bit_sum s k) in
    let sum : IsBlock 16 (bit_sum s k) = added_block s k ok k_ok in
    ap (round k) (round_back_open k s) ∙ round_open k (map sub_back (shift_rows_back x))
    ∙ ap (λ (l : List ℕ). bit_sum (mix_columns l) k) (middle_back_undone x (mix_back_block (bit_sum s k) sum))
    ∙ ap (λ (l : List ℕ). bit_sum l k) (mix_back_undone (bit_sum s k) sum) ∙ added_back s k

last_round_forth : (k s : List ℕ) → IsBlock 16 k → IsBlock 16 s → last_round k (last_round_back k s) ≡ s
last_round_forth k s k_ok ok =
    ap (last_round k) (last_round_back_open k s) ∙ last_round_open k (map sub_back (shift_rows_back (bit_sum s k)))
    ∙ ap (λ (l : List ℕ). bit_sum l k) (middle_back_undone (bit_sum s k) (added_block s k ok k_ok)) ∙ added_back s k

back_block : (s : List ℕ) → IsBlock 16 s → IsBlock 16 (map sub_back (shift_rows_back s))
back_block s ok = sub_back_block (shift_rows_back s) (shift_back_block s ok)

round_back_block : (k s : List ℕ) → IsBlock 16 k → IsBlock 16 s → IsBlock 16 (round_back k s)
round_back_block k s k_ok ok =
    subst (λ (l : List ℕ). IsBlock 16 l) (sym (round_back_open k s)) (back_block (mix_columns_back (bit_sum s k)) (mix_back_block (bit_sum s k) (added_block s k ok k_ok)))

last_round_back_block : (k s : List ℕ) → IsBlock 16 k → IsBlock 16 s → IsBlock 16 (last_round_back k s)
last_round_back_block k s k_ok ok = subst (λ (l : List ℕ). IsBlock 16 l) (sym (last_round_back_open k s)) (back_block (bit_sum s k) (added_block s k ok k_ok))

first_back : (y : List ℕ) (ys : List (List ℕ)) (k t : List ℕ) → rounds_back (y ∷ ys ++ (k ∷ [])) t ≡ rounds_back (ys ++ (k ∷ [])) (round_back y t)
first_back y [] k t = rounds_back_cons y k [] t
first_back y (x ∷ ys) k t = rounds_back_cons y x (ys ++ (k ∷ [])) t

-- the rounds back under ys and k, and then the rounds under ys in reverse, cancel before the rounds under the other
-- keys
back_forth : (ys : List (List ℕ)) (k i : List ℕ) (ks : List (List ℕ)) (t : List ℕ) → AllBlocks ys → IsBlock 16 t
    → rounds (reverse ys ++ (i ∷ ks)) (bit_sum (rounds_back (ys ++ (k ∷ [])) t) k) ≡ rounds (i ∷ ks) t
back_forth [] k i ks t all ok =
    ap (λ (l : List ℕ). rounds (i ∷ ks) (bit_sum l k)) (rounds_back_last k t) ∙ ap (rounds (i ∷ ks)) (added_back t k)
back_forth (y ∷ ys) k i ks t all ok =
    ap (λ (l : List ℕ). rounds (reverse (y ∷ ys) ++ (i ∷ ks)) (bit_sum l k)) (first_back y ys k t)
    ∙ ap (λ (l : List (List ℕ)). rounds (l ++ (i ∷ ks)) (bit_sum (rounds_back (ys ++ (k ∷ [])) (round_back y t)) k)) (reverse-append (y ∷ []) ys)
    ∙ ap (λ (l : List (List ℕ)). rounds l (bit_sum (rounds_back (ys ++ (k ∷ [])) (round_back y t)) k)) (append_assoc (reverse ys) (y ∷ []) (i ∷ ks))
    ∙ back_forth ys k y (i ∷ ks) (round_back y t) all.1 (round_back_block y t all.0 ok)
    ∙ rounds_cons y i ks (round_back y t) ∙ ap (rounds (i ∷ ks)) (round_forth y t all.0 ok)

all_blocks_append : (xs ys : List (List ℕ)) → AllBlocks xs → AllBlocks ys → AllBlocks (xs ++ ys)
all_blocks_append [] ys a b = b
all_blocks_append (x ∷ xs) ys a b = (a.0, all_blocks_append xs ys a.1 b)

all_blocks_reverse : (ks : List (List ℕ)) → AllBlocks ks → AllBlocks (reverse ks)
all_blocks_reverse [] a = tt
all_blocks_reverse (k ∷ ks) a = subst (λ (l : List (List ℕ)). AllBlocks l) (sym (reverse-append (k ∷ []) ks)) (all_blocks_append (reverse ks) (k ∷ []) (all_blocks_reverse ks a.1) (a.0, tt))

-- enciphering is the inverse of deciphering if there is at least one key after the first
forth_from : (k : List ℕ) (rs : List (List ℕ)) (b : List ℕ) → 0 < length rs → IsBlock 16 k → AllBlocks rs → IsBlock 16 b
    → cipher_block (k ∷ reverse rs) (inverse_cipher_block (rs ++ (k ∷ [])) b) ≡ b
forth_from k [] b h k_ok all ok = absurd (omega arith)
forth_from k (i ∷ ys) b h k_ok all ok =
    let t : List ℕ = last_round_back i b in
    enciphered_cons k (reverse (i ∷ ys)) (inverse_cipher_block (i ∷ ys ++ (k ∷ [])) b)
    ∙ ap (λ (l : List ℕ). rounds (reverse (i ∷ ys)) (bit_sum l k)) (deciphered_cons i (ys ++ (k ∷ [])) b)
    ∙ ap (λ (l : List (List ℕ)). rounds l (bit_sum (rounds_back (ys ++ (k ∷ [])) t) k)) (reverse-append (i ∷ []) ys)
    ∙ back_forth ys k i [] t all.1 (last_round_back_block i b all.0 ok)
    ∙ rounds_last i t ∙ last_round_forth i b all.0 ok

list_forth : (ks : List (List ℕ)) (b : List ℕ) → length ks ≡ 11 → AllBlocks ks → IsBlock 16 b → cipher_block ks (inverse_cipher_block (reverse ks) b) ≡ b
list_forth [] b h all ok = absurd (omega arith)
list_forth (k ∷ ks) b h all ok =
    ap (λ (l : List (List ℕ)). cipher_block (k ∷ ks) (inverse_cipher_block l b)) (reverse-append (k ∷ []) ks)
    ∙ ap (λ (l : List (List ℕ)). cipher_block (k ∷ l) (inverse_cipher_block (reverse ks ++ (k ∷ [])) b)) (sym (reverse-reverse ks))
    ∙ forth_from k (reverse ks) b (omega (arith, length-reverse ks)) all.0 (all_blocks_reverse ks all.1) ok

pub aes_forth : (key b : List ℕ) → IsBlock 16 key → IsBlock 16 b → aes_encipher key (aes_decipher key b) ≡ b
aes_forth key b key_ok ok =
    let all : AllBlocks (round_keys key) = subst (λ (l : List (List ℕ)). AllBlocks l) (sym (round_keys_open key)) (keys_blocks 10 1 key (omega arith) key_ok) in
    ap (aes_encipher key) (aes_decipher_open key b) ∙ aes_encipher_open key (inverse_cipher_block (reverse (round_keys key)) b)
    ∙ list_forth (round_keys key) b (round_keys_long key) all ok
