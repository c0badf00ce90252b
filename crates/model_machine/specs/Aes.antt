-- AES with keys of 128 bits, over the field of 256 elements, on lists of bytes.
-- FIPS 197 (Advanced Encryption Standard), and NIST SP 800-38A for cipher block chaining.
use Rattle.std.specs.Prelude.{ℕ, zero, suc, ◌+◌, ◌*◌, ◌/◌, ◌%◌, ◌^◌, List, [], ◌∷◌, ◌++◌, take, drop, map, reverse, slice_index, bit_xor}
use Rattle.model_machine.specs.Modes.{bit_sum, cbc_last}

-- ---- the field

-- a byte times x, modulo x^8 + x^4 + x^3 + x + 1 (FIPS 197, 4.2.1)
abbrev pub times2 : ℕ → ℕ
times2 b = bit_xor (2 * b % 256) (27 * (b / 128))

-- a byte times the n low bits of another
unfoldable pub mul_bits : ℕ → ℕ → ℕ → ℕ
mul_bits zero a b = 0
mul_bits (suc n) a b = bit_xor (a % 2 * b) (mul_bits n (a / 2) (times2 b))

-- the product of two bytes (FIPS 197, 4.2)
unfoldable pub mul : ℕ → ℕ → ℕ
unfolding mul_bits
mul a b = mul_bits 8 a b

-- the product of the powers 2, 4, .. 2 ^ n of a byte
unfoldable pub squares : ℕ → ℕ → ℕ
unfolding mul
squares zero b = 1
squares (suc n) b = let square = mul b b in mul square (squares n square)

-- the inverse of a byte, and 0 for 0: the power 254, since the power 255 of any other byte is 1
unfoldable pub inverse : ℕ → ℕ
unfolding squares
inverse b = squares 7 b

-- ---- bytes

-- bit i of a byte, with the numbers of bits modulo 8, from 0 at the low end
abbrev pub bit : ℕ → ℕ → ℕ
bit b i = b / 2 ^ (i % 8) % 2

-- the byte whose bit i is the function's value at i, from its n low bits
abbrev pub byte_by : ℕ → (ℕ → ℕ) → ℕ
byte_by zero value = 0
byte_by (suc n) value = value n * 2 ^ n + byte_by n value

-- the affine transformation of a byte (FIPS 197, 5.1.1)
unfoldable pub affine : ℕ → ℕ
affine b = byte_by 8 (λ i. (bit b i + bit b (i + 4) + bit b (i + 5) + bit b (i + 6) + bit b (i + 7) + bit 0x63 i) % 2)

-- the inverse of the affine transformation (FIPS 197, 5.3.2)
unfoldable pub affine_back : ℕ → ℕ
affine_back b = byte_by 8 (λ i. (bit b (i + 2) + bit b (i + 5) + bit b (i + 7) + bit 0x05 i) % 2)

-- SubBytes: the substitute of a byte (FIPS 197, 5.1.1)
unfoldable pub sub : ℕ → ℕ
unfolding inverse affine
sub b = affine (inverse b)

-- InvSubBytes: the byte of a substitute (FIPS 197, 5.3.2)
unfoldable pub sub_back : ℕ → ℕ
unfolding inverse affine_back
sub_back b = inverse (affine_back b)

-- ---- steps on a state of 16 bytes: the byte in row r and column c is at r + 4 c

-- the bytes at these places
abbrev pub bytes_at_places : List ℕ → List ℕ → List ℕ
bytes_at_places [] s = []
bytes_at_places (i ∷ is) s = slice_index s i ∷ bytes_at_places is s

-- ShiftRows: row r turned left by r (FIPS 197, 5.1.2)
abbrev pub shift_rows : List ℕ → List ℕ
shift_rows s = bytes_at_places (0 ∷ 5 ∷ 10 ∷ 15 ∷ 4 ∷ 9 ∷ 14 ∷ 3 ∷ 8 ∷ 13 ∷ 2 ∷ 7 ∷ 12 ∷ 1 ∷ 6 ∷ 11 ∷ []) s

-- InvShiftRows: the rows turned back (FIPS 197, 5.3.1)
abbrev pub shift_rows_back : List ℕ → List ℕ
shift_rows_back s = bytes_at_places (0 ∷ 13 ∷ 10 ∷ 7 ∷ 4 ∷ 1 ∷ 14 ∷ 11 ∷ 8 ∷ 5 ∷ 2 ∷ 15 ∷ 12 ∷ 9 ∷ 6 ∷ 3 ∷ []) s

-- the sum of the products of four factors and the bytes of a column
abbrev pub dot : ℕ → ℕ → ℕ → ℕ → List ℕ → ℕ
dot p q r s column =
    bit_xor (bit_xor (bit_xor (mul p (slice_index column 0)) (mul q (slice_index column 1))) (mul r (slice_index column 2))) (mul s (slice_index column 3))

-- a column times the matrix whose first row is p q r s, each row turned right by one from the row above
abbrev pub times_matrix : ℕ → ℕ → ℕ → ℕ → List ℕ → List ℕ
times_matrix p q r s column = dot p q r s column ∷ dot s p q r column ∷ dot r s p q column ∷ dot q r s p column ∷ []

-- the first n columns of a state times that matrix
unfoldable pub columns_times_matrix : ℕ → ℕ → ℕ → ℕ → ℕ → List ℕ → List ℕ
unfolding mul
columns_times_matrix zero p q r s state = []
columns_times_matrix (suc n) p q r s state = times_matrix p q r s (take 4 state) ++ columns_times_matrix n p q r s (drop 4 state)

-- MixColumns: each column times the matrix (FIPS 197, 5.1.3)
unfoldable pub mix_columns : List ℕ → List ℕ
unfolding columns_times_matrix
mix_columns s = columns_times_matrix 4 2 3 1 1 s

-- InvMixColumns (FIPS 197, 5.3.3)
unfoldable pub mix_columns_back : List ℕ → List ℕ
unfolding columns_times_matrix
mix_columns_back s = columns_times_matrix 4 14 11 13 9 s

-- a round; its last step adds the round key, AddRoundKey (FIPS 197, 5.1 and 5.1.4)
unfoldable pub round : List ℕ → List ℕ → List ℕ
unfolding sub mix_columns
round k s = bit_sum (mix_columns (shift_rows (map sub s))) k

-- the tenth round, without a column step (FIPS 197, 5.1)
unfoldable pub last_round : List ℕ → List ℕ → List ℕ
unfolding sub
last_round k s = bit_sum (shift_rows (map sub s)) k

-- the inverse of the last round
unfoldable pub last_round_back : List ℕ → List ℕ → List ℕ
unfolding sub_back
last_round_back k s = map sub_back (shift_rows_back (bit_sum s k))

-- the inverse of a round
unfoldable pub round_back : List ℕ → List ℕ → List ℕ
unfolding sub_back mix_columns_back
round_back k s = map sub_back (shift_rows_back (mix_columns_back (bit_sum s k)))

-- ---- the key

-- the last word of a round key rotated left by a byte and substituted, with the round constant c added to its first
-- byte: RotWord, SubWord and Rcon (FIPS 197, 5.2)
unfoldable pub next_key_word : ℕ → List ℕ → List ℕ
unfolding sub
next_key_word c w = bit_sum (map sub (drop 1 w ++ take 1 w)) (c ∷ [])

-- the round key after a round key: four words, of which each is the word four before it and the word before it added,
-- and the word before the first is changed
unfoldable pub next_key : ℕ → List ℕ → List ℕ
unfolding next_key_word
next_key c k =
    let w0 = bit_sum (take 4 k) (next_key_word c (drop 12 k)) in
    let w1 = bit_sum (take 4 (drop 4 k)) w0 in
    let w2 = bit_sum (take 4 (drop 8 k)) w1 in
    let w3 = bit_sum (drop 12 k) w2 in
    w0 ++ w1 ++ w2 ++ w3

-- a round key and the n after it, with c the round constant of the next, a power of x
unfoldable pub round_keys_from : ℕ → ℕ → List ℕ → List (List ℕ)
unfolding next_key
round_keys_from zero c k = k ∷ []
round_keys_from (suc n) c k = k ∷ round_keys_from n (times2 c) (next_key c k)

-- the 11 round keys of a key of 16 bytes (FIPS 197, 5.2, key expansion)
unfoldable pub round_keys : List ℕ → List (List ℕ)
unfolding round_keys_from
round_keys key = round_keys_from 10 1 key

-- ---- the cipher

-- the rounds with a list of round keys, of which the last is for the last round
unfoldable pub rounds : List (List ℕ) → List ℕ → List ℕ
unfolding round last_round
rounds [] s = s
rounds (k ∷ []) s = last_round k s
rounds (k ∷ j ∷ ks) s = rounds (j ∷ ks) (round k s)

-- a block enciphered with a list of round keys: the first is added before the first round
unfoldable pub cipher_block : List (List ℕ) → List ℕ → List ℕ
unfolding rounds
cipher_block [] block = block
cipher_block (k ∷ ks) block = rounds ks (bit_sum block k)

-- the inverse rounds with a list of round keys in reverse order, of which the last is only added
unfoldable pub rounds_back : List (List ℕ) → List ℕ → List ℕ
unfolding round_back
rounds_back [] s = s
rounds_back (k ∷ []) s = bit_sum s k
rounds_back (k ∷ j ∷ ks) s = rounds_back (j ∷ ks) (round_back k s)

-- a block deciphered with a list of round keys in reverse order
unfoldable pub inverse_cipher_block : List (List ℕ) → List ℕ → List ℕ
unfolding rounds_back last_round_back
inverse_cipher_block [] block = block
inverse_cipher_block (k ∷ ks) block = rounds_back ks (last_round_back k block)

-- AES-128, with a key and a block of 16 bytes (FIPS 197, 5.1, cipher)
unfoldable pub aes_encipher : List ℕ → List ℕ → List ℕ
unfolding round_keys cipher_block
aes_encipher key block = cipher_block (round_keys key) block

-- the inverse cipher of AES-128, with a key and a block of 16 bytes (FIPS 197, 5.3, inverse cipher)
unfoldable pub aes_decipher : List ℕ → List ℕ → List ℕ
unfolding round_keys inverse_cipher_block
aes_decipher key block = inverse_cipher_block (reverse (round_keys key)) block

-- the last block of CBC over a message of whole blocks, from a start block (SP 800-38A, 6.2)
unfoldable pub aes_signature : List ℕ → List ℕ → List ℕ → List ℕ
unfolding aes_encipher
aes_signature key start message = cbc_last (aes_encipher key) 16 start message
