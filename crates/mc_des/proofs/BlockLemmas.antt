-- Words as lists of bits and of bytes, and a permuted block through the rounds.
use Rattle.std.proofs.Common.{◌≡◌, ℕ, zero, suc, ◌+◌, ◌-◌, ◌*◌, ◌/◌, ◌%◌, ◌^◌, ◌<◌, ◌≤◌, List, [], ◌∷◌, ◌++◌, length, get_or, take, drop, map, refl, sym, ap, ◌∙◌, arith, add-one, drop-cons}
use Rattle.std.specs.Prelude.{bit_or, bit_and}
use Rattle.std.specs.Int.{w64, to_be_bytes}
use Rattle.std.specs.Int.Bits.{bit_xor}
use Rattle.std.proofs.Math.Nat.{mul_comm, div-add-mod}
use Rattle.std.proofs.lemmas.Nat.{and_mask, mod-pow-add}
use Rattle.std.proofs.lemmas.Nat.Bits.{bit_at_cat_low}
use Rattle.std.proofs.lemmas.List.{take_at, drop_at, drop_all, get_or-map, length-map}
use Rattle.model_machine.specs.Modes.{bit_sum}
use Rattle.model_machine.specs.Des.{bits, number, bits_of, bytes_of, pick, rounds, f, with_keys, des_block, initial, final}
use Rattle.mc_des.specs.Words.{key_bits, block_after_rounds}
use Rattle.mc_des.proofs.BitsLemmas.{bits_xor, bits_cat, length_bits}
use Rattle.mc_des.proofs.CipherFunction.{or_parts}

-- ---- bits of a part

parts_of : (v d : ℕ) → v ≡ v / d * d + v % d
parts_of v d = sym (ap (λ (n : ℕ). n + v % d) (mul_comm (v / d) d) ∙ div-add-mod v d)

bit_mod : (v m i : ℕ) → i < m → v % 2 ^ m / 2 ^ i % 2 ≡ v / 2 ^ i % 2
bit_mod v m i h =
    let whole : v ≡ v / 2 ^ m * 2 ^ m + v % 2 ^ m = parts_of v (2 ^ m) in
    sym (ap (λ (x : ℕ). x / 2 ^ i % 2) whole ∙ bit_at_cat_low (v / 2 ^ m) m (v % 2 ^ m) i h)

pub bits_mod : (n m v : ℕ) → n ≤ m → bits n (v % 2 ^ m) ≡ bits n v
unfolding bits
bits_mod zero m v h = refl
bits_mod (suc n) m v h =
    ap (λ (x : ℕ). x ∷ bits n (v % 2 ^ m)) (bit_mod v m n (omega arith))
    ∙ ap (λ (l : List ℕ). v / 2 ^ n % 2 ∷ l) (bits_mod n m v (omega arith))

pub number_bits : (n v : ℕ) → number (bits n v) ≡ v % 2 ^ n
unfolding number bits
number_bits zero v = omega arith
number_bits (suc n) v =
    let order : suc n ≡ 1 + n = omega arith in
    ap (λ (k : ℕ). v / 2 ^ n % 2 * 2 ^ k + number (bits n v)) (length_bits n v)
    ∙ ap (λ (k : ℕ). v / 2 ^ n % 2 * 2 ^ n + k) (number_bits n v)
    ∙ sym (ap (λ (k : ℕ). v % 2 ^ k) order ∙ mod-pow-add v 1 n)

-- ---- bytes

pub bytes_of_open : (n : ℕ) (l : List ℕ) → bytes_of (suc n) l ≡ number (take 8 l) ∷ bytes_of n (drop 8 l)
unfolding bytes_of
bytes_of_open n l = refl

pub bytes_of_none : (l : List ℕ) → bytes_of 0 l ≡ []
unfolding bytes_of
bytes_of_none l = refl

pub bits_of_open : (b : ℕ) (bs : List ℕ) → bits_of (b ∷ bs) ≡ bits 8 b ++ bits_of bs
unfolding bits_of
bits_of_open b bs = refl

bits_of_none : (v : ℕ) → bits_of [] ≡ bits 0 v
unfolding bits_of bits
bits_of_none v = refl

bytes_of_step : (n m v : ℕ) → bytes_of (suc n) (bits (8 + m) v) ≡ (v / 2 ^ m % 256) ∷ bytes_of n (bits m v)
bytes_of_step n m v =
    let cut : bits (8 + m) v ≡ bits 8 (v / 2 ^ m) ++ bits m v = bits_cat 8 m v in
    let size : length (bits 8 (v / 2 ^ m)) ≡ 8 = length_bits 8 (v / 2 ^ m) in
    bytes_of_open n (bits (8 + m) v)
    ∙ ap (λ (l : List ℕ). number (take 8 l) ∷ bytes_of n (drop 8 l)) cut
    ∙ ap (λ (l : List ℕ). number l ∷ bytes_of n (drop 8 (bits 8 (v / 2 ^ m) ++ bits m v))) (take_at (bits 8 (v / 2 ^ m)) (bits m v) 8 size)
    ∙ ap (λ (l : List ℕ). number (bits 8 (v / 2 ^ m)) ∷ bytes_of n l) (drop_at (bits 8 (v / 2 ^ m)) (bits m v) 8 size)
    ∙ ap (λ (k : ℕ). k ∷ bytes_of n (bits m v)) (number_bits 8 (v / 2 ^ m))

-- the bytes of a word are those of its bits
pub bytes_of_bits : (v : ℕ) → bytes_of 8 (bits 64 v) ≡ to_be_bytes w64 v
bytes_of_bits v =
    let lowest : v / 2 ^ 0 % 256 ≡ v % 256 = omega arith in
    bytes_of_step 7 56 v ∙ ap (λ (l : List ℕ). v / 2 ^ 56 % 256 ∷ l)
    (bytes_of_step 6 48 v ∙ ap (λ (l : List ℕ). v / 2 ^ 48 % 256 ∷ l)
    (bytes_of_step 5 40 v ∙ ap (λ (l : List ℕ). v / 2 ^ 40 % 256 ∷ l)
    (bytes_of_step 4 32 v ∙ ap (λ (l : List ℕ). v / 2 ^ 32 % 256 ∷ l)
    (bytes_of_step 3 24 v ∙ ap (λ (l : List ℕ). v / 2 ^ 24 % 256 ∷ l)
    (bytes_of_step 2 16 v ∙ ap (λ (l : List ℕ). v / 2 ^ 16 % 256 ∷ l)
    (bytes_of_step 1 8 v ∙ ap (λ (l : List ℕ). v / 2 ^ 8 % 256 ∷ l)
    (bytes_of_step 0 0 v ∙ ap (λ (l : List ℕ). v / 2 ^ 0 % 256 ∷ l) (bytes_of_none (bits 0 v))
    ∙ ap (λ (k : ℕ). k ∷ []) lowest)))))))

bits_of_step : (m v : ℕ) (bs : List ℕ) → bits_of bs ≡ bits m v → bits_of ((v / 2 ^ m % 256) ∷ bs) ≡ bits (8 + m) v
bits_of_step m v bs e =
    bits_of_open (v / 2 ^ m % 256) bs ∙ ap (λ (l : List ℕ). l ++ bits_of bs) (bits_mod 8 8 (v / 2 ^ m) (omega arith))
    ∙ ap (λ (l : List ℕ). bits 8 (v / 2 ^ m) ++ l) e ∙ sym (bits_cat 8 m v)

-- the bits of the bytes of a word
pub bits_of_bytes : (v : ℕ) → bits_of (to_be_bytes w64 v) ≡ bits 64 v
bits_of_bytes v =
    let lowest : v % 256 ≡ v / 2 ^ 0 % 256 = omega arith in
    let b0 : bits_of ((v % 256) ∷ []) ≡ bits 8 v = ap (λ (k : ℕ). bits_of (k ∷ [])) lowest ∙ bits_of_step 0 v [] (bits_of_none v) in
    bits_of_step 56 v _ (bits_of_step 48 v _ (bits_of_step 40 v _ (bits_of_step 32 v _ (bits_of_step 24 v _ (bits_of_step 16 v _ (bits_of_step 8 v _ b0))))))

-- ---- halves of a word

pub high_half : (v : ℕ) → bits 32 (v / 2 ^ 32) ≡ take 32 (bits 64 v)
high_half v = sym (ap (take 32) (bits_cat 32 32 v) ∙ take_at (bits 32 (v / 2 ^ 32)) (bits 32 v) 32 (length_bits 32 (v / 2 ^ 32)))

pub low_half : (v : ℕ) → bits 32 (bit_and v (2 ^ 32 - 1)) ≡ drop 32 (bits 64 v)
low_half v =
    ap (bits 32) (and_mask v 32) ∙ bits_mod 32 32 v (omega arith)
    ∙ sym (ap (drop 32) (bits_cat 32 32 v) ∙ drop_at (bits 32 (v / 2 ^ 32)) (bits 32 v) 32 (length_bits 32 (v / 2 ^ 32)))

pub both_halves : (high low : ℕ) → high < 2 ^ 32 → low < 2 ^ 32 → bits 64 (bit_or (high * 2 ^ 32 % 2 ^ 64) low) ≡ bits 32 high ++ bits 32 low
both_halves high low h l =
    let v : ℕ = high * 2 ^ 32 + low in
    let fits : high * 2 ^ 32 % 2 ^ 64 ≡ high * 2 ^ 32 = omega arith in
    let top : v / 2 ^ 32 ≡ high = omega arith in
    let bottom : v % 2 ^ 32 ≡ low = omega arith in
    ap (λ (k : ℕ). bits 64 (bit_or k low)) fits ∙ ap (bits 64) (or_parts 32 high low l) ∙ bits_cat 32 32 v
    ∙ ap (λ (k : ℕ). bits 32 k ++ bits 32 v) top ∙ ap (λ (x : List ℕ). bits 32 high ++ x) (sym (bits_mod 32 32 v (omega arith)) ∙ ap (bits 32) bottom)

-- ---- the rounds

pub rounds_cons : (k : List ℕ) (ks : List (List ℕ)) (l r : List ℕ) → rounds (k ∷ ks) l r ≡ rounds ks r (bit_sum l (f r k))
unfolding rounds
rounds_cons k ks l r = refl

pub rounds_none : (l r : List ℕ) → rounds [] l r ≡ (l, r)
unfolding rounds
rounds_none l r = refl

pub with_keys_open : (ks : List (List ℕ)) (block : List ℕ) → let halves = rounds ks (take 32 (pick initial block)) (drop 32 (pick initial block)) in
    with_keys ks block ≡ pick final (halves.1 ++ halves.0)
unfolding with_keys
with_keys_open ks block = refl

pub passed_open : (ks : List (List ℕ)) (block : List ℕ) → let halves = rounds ks (take 32 block) (drop 32 block) in block_after_rounds ks block ≡ halves.1 ++ halves.0
unfolding block_after_rounds
passed_open ks block = refl

pub ciphered_open : (ks : List (List ℕ)) (block : List ℕ) → des_block ks block ≡ bytes_of 8 (with_keys ks (bits_of block))
unfolding des_block
ciphered_open ks block = refl

module _ (keys : List ℕ) where
  pub rounds_init : (block left right : ℕ) → left ≡ block / 2 ^ 32 → right ≡ bit_and block (2 ^ 32 - 1)
      → rounds (drop (2 * 0) (map key_bits keys)) (bits 32 left) (bits 32 right) ≡ rounds (map key_bits keys) (take 32 (bits 64 block)) (drop 32 (bits 64 block))
  rounds_init block left right el er =
      ap (λ (x : List ℕ). rounds (map key_bits keys) x (bits 32 right)) (ap (bits 32) el ∙ high_half block)
      ∙ ap (rounds (map key_bits keys) (take 32 (bits 64 block))) (ap (bits 32) er ∙ low_half block)

  pub rounds_step : (i left right value : ℕ) (e : List ℕ × List ℕ) → i < length keys → rounds (drop i (map key_bits keys)) (bits 32 left) (bits 32 right) ≡ e
      → bits 32 value ≡ f (bits 32 right) (key_bits (get_or keys i 0))
      → rounds (drop (i + 1) (map key_bits keys)) (bits 32 right) (bits 32 (bit_xor left value)) ≡ e
  rounds_step i left right value e h same ev =
      let ks : List (List ℕ) = map key_bits keys in
      let count : length ks ≡ length keys = length-map keys key_bits in
      let here : get_or ks i [] ≡ key_bits (get_or keys i 0) = get_or-map key_bits keys i 0 [] h in
      ap (λ (k : ℕ). rounds (drop k ks) (bits 32 right) (bits 32 (bit_xor left value))) (add-one i)
      ∙ ap (rounds (drop (suc i) ks) (bits 32 right)) (bits_xor 32 left value ∙ ap (bit_sum (bits 32 left)) (ev ∙ ap (f (bits 32 right)) (sym here)))
      ∙ sym (rounds_cons (get_or ks i []) (drop (suc i) ks) (bits 32 left) (bits 32 right))
      ∙ ap (λ (l : List (List ℕ)). rounds l (bits 32 left) (bits 32 right)) (sym (drop-cons ks i [] (omega arith))) ∙ same

  -- two rounds, after which each half is in its place again
  pub rounds_twice : (i left right v w : ℕ) (e : List ℕ × List ℕ) → 2 * i + 1 < length keys → rounds (drop (2 * i) (map key_bits keys)) (bits 32 left) (bits 32 right) ≡ e
      → bits 32 v ≡ f (bits 32 right) (key_bits (get_or keys (2 * i) 0))
      → bits 32 w ≡ f (bits 32 (bit_xor left v)) (key_bits (get_or keys (2 * i + 1) 0))
      → rounds (drop (2 * (i + 1)) (map key_bits keys)) (bits 32 (bit_xor left v)) (bits 32 (bit_xor right w)) ≡ e
  rounds_twice i left right v w e h same ev ew =
      let place : 2 * (i + 1) ≡ 2 * i + 1 + 1 = omega arith in
      ap (λ (k : ℕ). rounds (drop k (map key_bits keys)) (bits 32 (bit_xor left v)) (bits 32 (bit_xor right w))) place
      ∙ rounds_step (2 * i + 1) right (bit_xor left v) w e h (rounds_step (2 * i) left right v e (omega arith) same ev) ew

  pub rounds_end : (i left right result block : ℕ) → length keys ≤ 2 * i
      → rounds (drop (2 * i) (map key_bits keys)) (bits 32 left) (bits 32 right) ≡ rounds (map key_bits keys) (take 32 (bits 64 block)) (drop 32 (bits 64 block))
      → left < 2 ^ 32 → right < 2 ^ 32 → result ≡ bit_or (right * 2 ^ 32 % 2 ^ 64) left
      → bits 64 result ≡ block_after_rounds (map key_bits keys) (bits 64 block)
  rounds_end i left right result block h same hl hr er =
      let ks : List (List ℕ) = map key_bits keys in
      let count : length ks ≡ length keys = length-map keys key_bits in
      let ended : (bits 32 left, bits 32 right) ≡ rounds ks (take 32 (bits 64 block)) (drop 32 (bits 64 block)) =
      sym (rounds_none (bits 32 left) (bits 32 right)) ∙ ap (λ (l : List (List ℕ)). rounds l (bits 32 left) (bits 32 right)) (sym (drop_all (2 * i) ks (omega arith))) ∙ same in
      ap (bits 64) er ∙ both_halves right left hr hl ∙ ap (λ (p : List ℕ × List ℕ). p.1 ++ p.0) ended ∙ sym (passed_open ks (bits 64 block))
