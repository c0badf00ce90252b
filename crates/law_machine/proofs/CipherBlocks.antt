-- What the ciphers make of a block is as long as a block.
use Rattle.std.proofs.Common.{◌≡◌, ℕ, zero, suc, ◌*◌, List, [], ◌∷◌, take, drop, map, length, refl, ap, ◌∙◌, arith}
use Rattle.std.specs.Prelude.{reverse}
use Rattle.model_card.specs.model_machine.specs.Modes.{bit_sum}
use Rattle.model_card.specs.model_machine.specs.Des.{bits_of, bytes_of, with_keys, des_block, des_encipher, des_decipher, tdes_encipher, tdes_decipher}
use Rattle.model_card.specs.model_machine.specs.Aes.{shift_rows, sub, mix_columns, columns_times_matrix, round, last_round, round_back, last_round_back, rounds, rounds_back}
use Rattle.model_card.specs.model_machine.specs.Aes as aes
use Rattle.model_card.specs.model_machine.specs.Des as des
use Rattle.model_card.specs.model_machine.proofs.ModesLemmas.{length_added}

-- ---- DES

length_bytes_of : (n : ℕ) (l : List ℕ) → length (bytes_of n l) ≡ n
unfolding bytes_of
length_bytes_of zero l = refl
length_bytes_of (suc n) l = ap suc (length_bytes_of n (drop 8 l))

length_ciphered : (ks : List (List ℕ)) (block : List ℕ) → length (des_block ks block) ≡ 8
unfolding des_block
length_ciphered ks block = length_bytes_of 8 (with_keys ks (bits_of block))

-- a block enciphered by DES has eight bytes
pub length_des : (key block : List ℕ) → length (des_encipher key block) ≡ 8
unfolding des_encipher
length_des key block = length_ciphered (des.round_keys key) block

-- so has one deciphered
pub length_des_back : (key block : List ℕ) → length (des_decipher key block) ≡ 8
unfolding des_decipher
length_des_back key block = length_ciphered (reverse (des.round_keys key)) block

-- and one enciphered by triple DES
pub length_tdes : (key block : List ℕ) → length (tdes_encipher key block) ≡ 8
unfolding tdes_encipher
length_tdes key block = length_des (take 8 key) (des_decipher (drop 8 key) (des_encipher (take 8 key) block))

-- and one deciphered by it
pub length_tdes_back : (key block : List ℕ) → length (tdes_decipher key block) ≡ 8
unfolding tdes_decipher
length_tdes_back key block = length_des_back (take 8 key) (des_encipher (drop 8 key) (des_decipher (take 8 key) block))

-- ---- AES

-- the last round of AES leaves sixteen bytes
pub last_16 : (k s : List ℕ) → length (last_round k s) ≡ 16
unfolding last_round
last_16 k s = length_added (shift_rows (map sub s)) k

length_mixed : (n p q r t : ℕ) (s : List ℕ) → length (columns_times_matrix n p q r t s) ≡ 4 * n
unfolding columns_times_matrix
length_mixed zero p q r t s = refl
length_mixed (suc n) p q r t s = let rest : length (columns_times_matrix n p q r t (drop 4 s)) ≡ 4 * n = length_mixed n p q r t (drop 4 s) in omega arith

length_columns : (s : List ℕ) → length (mix_columns s) ≡ 16
unfolding mix_columns
length_columns s = length_mixed 4 2 3 1 1 s

-- so does each other round
pub round_16 : (k s : List ℕ) → length (round k s) ≡ 16
unfolding round
round_16 k s = length_added (mix_columns (shift_rows (map sub s))) k ∙ length_columns (shift_rows (map sub s))

rounds_16 : (ks : List (List ℕ)) (s : List ℕ) → length s ≡ 16 → length (rounds ks s) ≡ 16
unfolding rounds
rounds_16 [] s h = h
rounds_16 (k ∷ []) s h = last_16 k s
rounds_16 (k ∷ j ∷ ks) s h = rounds_16 (j ∷ ks) (round k s) (round_16 k s)

-- a block enciphered by AES has sixteen bytes
pub aes_16 : (ks : List (List ℕ)) (s : List ℕ) → length s ≡ 16 → length (aes.cipher_block ks s) ≡ 16
unfolding aes.cipher_block
aes_16 [] s h = h
aes_16 (k ∷ ks) s h = rounds_16 ks (bit_sum s k) (length_added s k ∙ h)

-- and each round back
pub back_16 : (k s : List ℕ) → length (round_back k s) ≡ 16
unfolding round_back
back_16 k s = refl

-- and the last round back
pub last_back_16 : (k s : List ℕ) → length (last_round_back k s) ≡ 16
unfolding last_round_back
last_back_16 k s = refl

rounds_back_16 : (ks : List (List ℕ)) (s : List ℕ) → length s ≡ 16 → length (rounds_back ks s) ≡ 16
unfolding rounds_back
rounds_back_16 [] s h = h
rounds_back_16 (k ∷ []) s h = length_added s k ∙ h
rounds_back_16 (k ∷ j ∷ ks) s h = rounds_back_16 (j ∷ ks) (round_back k s) (back_16 k s)

-- so has one deciphered
pub aes_back_16 : (ks : List (List ℕ)) (s : List ℕ) → length s ≡ 16 → length (aes.inverse_cipher_block ks s) ≡ 16
unfolding aes.inverse_cipher_block
aes_back_16 [] s h = h
aes_back_16 (k ∷ ks) s h = rounds_back_16 ks (last_round_back k s) (last_back_16 k s)
