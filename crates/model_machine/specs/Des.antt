-- DES, two-key triple DES and their signatures, over lists of bits that are numbered from 1 at the left.
-- FIPS 46-3 (Data Encryption Standard), and FIPS 81 for cipher block chaining.
use Rattle.std.specs.Prelude.{ℕ, zero, suc, ◌+◌, ◌-◌, ◌*◌, ◌/◌, ◌%◌, ◌^◌, List, [], ◌∷◌, ◌++◌, length, take, drop, reverse, slice_index, slice_index_or}
use Rattle.model_machine.specs.Modes.{bit_sum, cbc_last}

-- ---- bits

-- the n low bits of a number, the highest first
unfoldable pub bits : ℕ → ℕ → List ℕ
bits zero v = []
bits (suc n) v = (v / 2 ^ n % 2) ∷ bits n v

-- the number that a list of bits is in binary
unfoldable pub number : List ℕ → ℕ
number [] = 0
number (b ∷ bs) = b * 2 ^ length bs + number bs

-- the bits of a list of bytes
unfoldable pub bits_of : List ℕ → List ℕ
unfolding bits
bits_of [] = []
bits_of (b ∷ bs) = bits 8 b ++ bits_of bs

-- the first n bytes of a list of bits
unfoldable pub bytes_of : ℕ → List ℕ → List ℕ
unfolding number
bytes_of zero l = []
bytes_of (suc n) l = number (take 8 l) ∷ bytes_of n (drop 8 l)

-- the bits whose places a table names
unfoldable pub pick : List ℕ → List ℕ → List ℕ
pick [] l = []
pick (t ∷ ts) l = slice_index l (t - 1) ∷ pick ts l

-- a list turned left by k places
unfoldable pub turn : ℕ → List ℕ → List ℕ
turn k l = drop k l ++ take k l

-- ---- tables

-- IP, the initial permutation (FIPS 46-3, Enciphering)
unfoldable pub initial : List ℕ
initial =
    58 ∷ 50 ∷ 42 ∷ 34 ∷ 26 ∷ 18 ∷ 10 ∷ 2 ∷ 60 ∷ 52 ∷ 44 ∷ 36 ∷ 28 ∷ 20 ∷ 12 ∷ 4 ∷
    62 ∷ 54 ∷ 46 ∷ 38 ∷ 30 ∷ 22 ∷ 14 ∷ 6 ∷ 64 ∷ 56 ∷ 48 ∷ 40 ∷ 32 ∷ 24 ∷ 16 ∷ 8 ∷
    57 ∷ 49 ∷ 41 ∷ 33 ∷ 25 ∷ 17 ∷ 9 ∷ 1 ∷ 59 ∷ 51 ∷ 43 ∷ 35 ∷ 27 ∷ 19 ∷ 11 ∷ 3 ∷
    61 ∷ 53 ∷ 45 ∷ 37 ∷ 29 ∷ 21 ∷ 13 ∷ 5 ∷ 63 ∷ 55 ∷ 47 ∷ 39 ∷ 31 ∷ 23 ∷ 15 ∷ 7 ∷ []

-- the inverse of IP (FIPS 46-3, Enciphering)
unfoldable pub final : List ℕ
final =
    40 ∷ 8 ∷ 48 ∷ 16 ∷ 56 ∷ 24 ∷ 64 ∷ 32 ∷ 39 ∷ 7 ∷ 47 ∷ 15 ∷ 55 ∷ 23 ∷ 63 ∷ 31 ∷
    38 ∷ 6 ∷ 46 ∷ 14 ∷ 54 ∷ 22 ∷ 62 ∷ 30 ∷ 37 ∷ 5 ∷ 45 ∷ 13 ∷ 53 ∷ 21 ∷ 61 ∷ 29 ∷
    36 ∷ 4 ∷ 44 ∷ 12 ∷ 52 ∷ 20 ∷ 60 ∷ 28 ∷ 35 ∷ 3 ∷ 43 ∷ 11 ∷ 51 ∷ 19 ∷ 59 ∷ 27 ∷
    34 ∷ 2 ∷ 42 ∷ 10 ∷ 50 ∷ 18 ∷ 58 ∷ 26 ∷ 33 ∷ 1 ∷ 41 ∷ 9 ∷ 49 ∷ 17 ∷ 57 ∷ 25 ∷ []

-- E, from 32 bits to 48 (FIPS 46-3, The cipher function f)
unfoldable pub expansion : List ℕ
expansion =
    32 ∷ 1 ∷ 2 ∷ 3 ∷ 4 ∷ 5 ∷ 4 ∷ 5 ∷ 6 ∷ 7 ∷ 8 ∷ 9 ∷
    8 ∷ 9 ∷ 10 ∷ 11 ∷ 12 ∷ 13 ∷ 12 ∷ 13 ∷ 14 ∷ 15 ∷ 16 ∷ 17 ∷
    16 ∷ 17 ∷ 18 ∷ 19 ∷ 20 ∷ 21 ∷ 20 ∷ 21 ∷ 22 ∷ 23 ∷ 24 ∷ 25 ∷
    24 ∷ 25 ∷ 26 ∷ 27 ∷ 28 ∷ 29 ∷ 28 ∷ 29 ∷ 30 ∷ 31 ∷ 32 ∷ 1 ∷ []

-- P (FIPS 46-3, The cipher function f)
unfoldable pub permutation : List ℕ
permutation =
    16 ∷ 7 ∷ 20 ∷ 21 ∷ 29 ∷ 12 ∷ 28 ∷ 17 ∷ 1 ∷ 15 ∷ 23 ∷ 26 ∷ 5 ∷ 18 ∷ 31 ∷ 10 ∷
    2 ∷ 8 ∷ 24 ∷ 14 ∷ 32 ∷ 27 ∷ 3 ∷ 9 ∷ 19 ∷ 13 ∷ 30 ∷ 6 ∷ 22 ∷ 11 ∷ 4 ∷ 25 ∷ []

-- PC-1, from the key to two halves of 28 bits (FIPS 46-3, Appendix 1)
unfoldable pub choice1 : List ℕ
choice1 =
    57 ∷ 49 ∷ 41 ∷ 33 ∷ 25 ∷ 17 ∷ 9 ∷ 1 ∷ 58 ∷ 50 ∷ 42 ∷ 34 ∷ 26 ∷ 18 ∷
    10 ∷ 2 ∷ 59 ∷ 51 ∷ 43 ∷ 35 ∷ 27 ∷ 19 ∷ 11 ∷ 3 ∷ 60 ∷ 52 ∷ 44 ∷ 36 ∷
    63 ∷ 55 ∷ 47 ∷ 39 ∷ 31 ∷ 23 ∷ 15 ∷ 7 ∷ 62 ∷ 54 ∷ 46 ∷ 38 ∷ 30 ∷ 22 ∷
    14 ∷ 6 ∷ 61 ∷ 53 ∷ 45 ∷ 37 ∷ 29 ∷ 21 ∷ 13 ∷ 5 ∷ 28 ∷ 20 ∷ 12 ∷ 4 ∷ []

-- PC-2, from both halves to a round key of 48 bits (FIPS 46-3, Appendix 1)
unfoldable pub choice2 : List ℕ
choice2 =
    14 ∷ 17 ∷ 11 ∷ 24 ∷ 1 ∷ 5 ∷ 3 ∷ 28 ∷ 15 ∷ 6 ∷ 21 ∷ 10 ∷
    23 ∷ 19 ∷ 12 ∷ 4 ∷ 26 ∷ 8 ∷ 16 ∷ 7 ∷ 27 ∷ 20 ∷ 13 ∷ 2 ∷
    41 ∷ 52 ∷ 31 ∷ 37 ∷ 47 ∷ 55 ∷ 30 ∷ 40 ∷ 51 ∷ 45 ∷ 33 ∷ 48 ∷
    44 ∷ 49 ∷ 39 ∷ 56 ∷ 34 ∷ 53 ∷ 46 ∷ 42 ∷ 50 ∷ 36 ∷ 29 ∷ 32 ∷ []

-- the left shifts of the halves of the key before each round (FIPS 46-3, Appendix 1)
unfoldable pub shifts : List ℕ
shifts =
    1 ∷ 1 ∷ 2 ∷ 2 ∷ 2 ∷ 2 ∷ 2 ∷ 2 ∷ 1 ∷ 2 ∷ 2 ∷ 2 ∷ 2 ∷ 2 ∷ 2 ∷ 1 ∷ []

-- S1 to S8, each as its four rows (FIPS 46-3, Appendix 1)
unfoldable pub boxes : List (List (List ℕ))
boxes =
    ((14 ∷ 4 ∷ 13 ∷ 1 ∷ 2 ∷ 15 ∷ 11 ∷ 8 ∷ 3 ∷ 10 ∷ 6 ∷ 12 ∷ 5 ∷ 9 ∷ 0 ∷ 7 ∷ []) ∷ (0 ∷ 15 ∷ 7 ∷ 4 ∷ 14 ∷ 2 ∷ 13 ∷ 1 ∷ 10 ∷ 6 ∷ 12 ∷ 11 ∷ 9 ∷ 5 ∷ 3 ∷ 8 ∷ []) ∷ (4 ∷ 1 ∷ 14 ∷ 8 ∷ 13 ∷ 6 ∷ 2 ∷ 11 ∷ 15 ∷ 12 ∷ 9 ∷ 7 ∷ 3 ∷ 10 ∷ 5 ∷ 0 ∷ []) ∷ (15 ∷ 12 ∷ 8 ∷ 2 ∷ 4 ∷ 9 ∷ 1 ∷ 7 ∷ 5 ∷ 11 ∷ 3 ∷ 14 ∷ 10 ∷ 0 ∷ 6 ∷ 13 ∷ []) ∷ []) ∷
    ((15 ∷ 1 ∷ 8 ∷ 14 ∷ 6 ∷ 11 ∷ 3 ∷ 4 ∷ 9 ∷ 7 ∷ 2 ∷ 13 ∷ 12 ∷ 0 ∷ 5 ∷ 10 ∷ []) ∷ (3 ∷ 13 ∷ 4 ∷ 7 ∷ 15 ∷ 2 ∷ 8 ∷ 14 ∷ 12 ∷ 0 ∷ 1 ∷ 10 ∷ 6 ∷ 9 ∷ 11 ∷ 5 ∷ []) ∷ (0 ∷ 14 ∷ 7 ∷ 11 ∷ 10 ∷ 4 ∷ 13 ∷ 1 ∷ 5 ∷ 8 ∷ 12 ∷ 6 ∷ 9 ∷ 3 ∷ 2 ∷ 15 ∷ []) ∷ (13 ∷ 8 ∷ 10 ∷ 1 ∷ 3 ∷ 15 ∷ 4 ∷ 2 ∷ 11 ∷ 6 ∷ 7 ∷ 12 ∷ 0 ∷ 5 ∷ 14 ∷ 9 ∷ []) ∷ []) ∷
    ((10 ∷ 0 ∷ 9 ∷ 14 ∷ 6 ∷ 3 ∷ 15 ∷ 5 ∷ 1 ∷ 13 ∷ 12 ∷ 7 ∷ 11 ∷ 4 ∷ 2 ∷ 8 ∷ []) ∷ (13 ∷ 7 ∷ 0 ∷ 9 ∷ 3 ∷ 4 ∷ 6 ∷ 10 ∷ 2 ∷ 8 ∷ 5 ∷ 14 ∷ 12 ∷ 11 ∷ 15 ∷ 1 ∷ []) ∷ (13 ∷ 6 ∷ 4 ∷ 9 ∷ 8 ∷ 15 ∷ 3 ∷ 0 ∷ 11 ∷ 1 ∷ 2 ∷ 12 ∷ 5 ∷ 10 ∷ 14 ∷ 7 ∷ []) ∷ (1 ∷ 10 ∷ 13 ∷ 0 ∷ 6 ∷ 9 ∷ 8 ∷ 7 ∷ 4 ∷ 15 ∷ 14 ∷ 3 ∷ 11 ∷ 5 ∷ 2 ∷ 12 ∷ []) ∷ []) ∷
    ((7 ∷ 13 ∷ 14 ∷ 3 ∷ 0 ∷ 6 ∷ 9 ∷ 10 ∷ 1 ∷ 2 ∷ 8 ∷ 5 ∷ 11 ∷ 12 ∷ 4 ∷ 15 ∷ []) ∷ (13 ∷ 8 ∷ 11 ∷ 5 ∷ 6 ∷ 15 ∷ 0 ∷ 3 ∷ 4 ∷ 7 ∷ 2 ∷ 12 ∷ 1 ∷ 10 ∷ 14 ∷ 9 ∷ []) ∷ (10 ∷ 6 ∷ 9 ∷ 0 ∷ 12 ∷ 11 ∷ 7 ∷ 13 ∷ 15 ∷ 1 ∷ 3 ∷ 14 ∷ 5 ∷ 2 ∷ 8 ∷ 4 ∷ []) ∷ (3 ∷ 15 ∷ 0 ∷ 6 ∷ 10 ∷ 1 ∷ 13 ∷ 8 ∷ 9 ∷ 4 ∷ 5 ∷ 11 ∷ 12 ∷ 7 ∷ 2 ∷ 14 ∷ []) ∷ []) ∷
    ((2 ∷ 12 ∷ 4 ∷ 1 ∷ 7 ∷ 10 ∷ 11 ∷ 6 ∷ 8 ∷ 5 ∷ 3 ∷ 15 ∷ 13 ∷ 0 ∷ 14 ∷ 9 ∷ []) ∷ (14 ∷ 11 ∷ 2 ∷ 12 ∷ 4 ∷ 7 ∷ 13 ∷ 1 ∷ 5 ∷ 0 ∷ 15 ∷ 10 ∷ 3 ∷ 9 ∷ 8 ∷ 6 ∷ []) ∷ (4 ∷ 2 ∷ 1 ∷ 11 ∷ 10 ∷ 13 ∷ 7 ∷ 8 ∷ 15 ∷ 9 ∷ 12 ∷ 5 ∷ 6 ∷ 3 ∷ 0 ∷ 14 ∷ []) ∷ (11 ∷ 8 ∷ 12 ∷ 7 ∷ 1 ∷ 14 ∷ 2 ∷ 13 ∷ 6 ∷ 15 ∷ 0 ∷ 9 ∷ 10 ∷ 4 ∷ 5 ∷ 3 ∷ []) ∷ []) ∷
    ((12 ∷ 1 ∷ 10 ∷ 15 ∷ 9 ∷ 2 ∷ 6 ∷ 8 ∷ 0 ∷ 13 ∷ 3 ∷ 4 ∷ 14 ∷ 7 ∷ 5 ∷ 11 ∷ []) ∷ (10 ∷ 15 ∷ 4 ∷ 2 ∷ 7 ∷ 12 ∷ 9 ∷ 5 ∷ 6 ∷ 1 ∷ 13 ∷ 14 ∷ 0 ∷ 11 ∷ 3 ∷ 8 ∷ []) ∷ (9 ∷ 14 ∷ 15 ∷ 5 ∷ 2 ∷ 8 ∷ 12 ∷ 3 ∷ 7 ∷ 0 ∷ 4 ∷ 10 ∷ 1 ∷ 13 ∷ 11 ∷ 6 ∷ []) ∷ (4 ∷ 3 ∷ 2 ∷ 12 ∷ 9 ∷ 5 ∷ 15 ∷ 10 ∷ 11 ∷ 14 ∷ 1 ∷ 7 ∷ 6 ∷ 0 ∷ 8 ∷ 13 ∷ []) ∷ []) ∷
    ((4 ∷ 11 ∷ 2 ∷ 14 ∷ 15 ∷ 0 ∷ 8 ∷ 13 ∷ 3 ∷ 12 ∷ 9 ∷ 7 ∷ 5 ∷ 10 ∷ 6 ∷ 1 ∷ []) ∷ (13 ∷ 0 ∷ 11 ∷ 7 ∷ 4 ∷ 9 ∷ 1 ∷ 10 ∷ 14 ∷ 3 ∷ 5 ∷ 12 ∷ 2 ∷ 15 ∷ 8 ∷ 6 ∷ []) ∷ (1 ∷ 4 ∷ 11 ∷ 13 ∷ 12 ∷ 3 ∷ 7 ∷ 14 ∷ 10 ∷ 15 ∷ 6 ∷ 8 ∷ 0 ∷ 5 ∷ 9 ∷ 2 ∷ []) ∷ (6 ∷ 11 ∷ 13 ∷ 8 ∷ 1 ∷ 4 ∷ 10 ∷ 7 ∷ 9 ∷ 5 ∷ 0 ∷ 15 ∷ 14 ∷ 2 ∷ 3 ∷ 12 ∷ []) ∷ []) ∷
    ((13 ∷ 2 ∷ 8 ∷ 4 ∷ 6 ∷ 15 ∷ 11 ∷ 1 ∷ 10 ∷ 9 ∷ 3 ∷ 14 ∷ 5 ∷ 0 ∷ 12 ∷ 7 ∷ []) ∷ (1 ∷ 15 ∷ 13 ∷ 8 ∷ 10 ∷ 3 ∷ 7 ∷ 4 ∷ 12 ∷ 5 ∷ 6 ∷ 11 ∷ 0 ∷ 14 ∷ 9 ∷ 2 ∷ []) ∷ (7 ∷ 11 ∷ 4 ∷ 1 ∷ 9 ∷ 12 ∷ 14 ∷ 2 ∷ 0 ∷ 6 ∷ 10 ∷ 13 ∷ 15 ∷ 3 ∷ 5 ∷ 8 ∷ []) ∷ (2 ∷ 1 ∷ 14 ∷ 7 ∷ 4 ∷ 10 ∷ 8 ∷ 13 ∷ 15 ∷ 12 ∷ 9 ∷ 0 ∷ 3 ∷ 5 ∷ 6 ∷ 11 ∷ []) ∷ []) ∷ []

-- ---- the rounds

-- the output of a box for six bits: bits 1 and 6 name the row, bits 2 to 5 the column
unfoldable pub box_at : List (List ℕ) → List ℕ → List ℕ
unfolding bits
box_at box g =
    let row = 2 * slice_index g 0 + slice_index g 5 in
    let column = 8 * slice_index g 1 + 4 * slice_index g 2 + 2 * slice_index g 3 + slice_index g 4 in
    bits 4 (slice_index (slice_index_or box row []) column)

-- the outputs of the boxes for the groups of six bits, one after the other
unfoldable pub through : List (List (List ℕ)) → List ℕ → List ℕ
unfolding box_at
through [] l = []
through (box ∷ rest) l = box_at box (take 6 l) ++ through rest (drop 6 l)

-- the cipher function f, of the right half and a round key (FIPS 46-3, The cipher function f)
unfoldable pub f : List ℕ → List ℕ → List ℕ
unfolding pick through expansion permutation boxes
f r k = pick permutation (through boxes (bit_sum (pick expansion r) k))

-- the rounds with a list of round keys, on a left and a right half
unfoldable pub rounds : List (List ℕ) → List ℕ → List ℕ → List ℕ × List ℕ
unfolding f
rounds [] l r = (l, r)
rounds (k ∷ ks) l r = rounds ks r (bit_sum l (f r k))

-- the round keys, from two halves and the shifts that remain
unfoldable pub schedule : List ℕ → List ℕ → List ℕ → List (List ℕ)
unfolding pick turn choice2
schedule [] c d = []
schedule (s ∷ ss) c d = pick choice2 (turn s c ++ turn s d) ∷ schedule ss (turn s c) (turn s d)

-- the 16 round keys of a key of 8 bytes (FIPS 46-3, Appendix 1, KS)
unfoldable pub round_keys : List ℕ → List (List ℕ)
unfolding pick bits_of schedule choice1 shifts
round_keys key =
    let halves = pick choice1 (bits_of key) in
    schedule shifts (take 28 halves) (drop 28 halves)

-- a block of 64 bits through IP, the rounds with the round keys in this order, and the inverse of IP
unfoldable pub with_keys : List (List ℕ) → List ℕ → List ℕ
unfolding pick rounds initial final
with_keys ks block =
    let start = pick initial block in
    let halves = rounds ks (take 32 start) (drop 32 start) in
    pick final (halves.1 ++ halves.0)

-- ---- the ciphers

-- a block of 8 bytes through the rounds with the round keys in this order
unfoldable pub des_block : List (List ℕ) → List ℕ → List ℕ
unfolding bits_of bytes_of with_keys
des_block ks block = bytes_of 8 (with_keys ks (bits_of block))

-- DES, with a key of 8 bytes (FIPS 46-3, Enciphering)
unfoldable pub des_encipher : List ℕ → List ℕ → List ℕ
unfolding round_keys des_block
des_encipher key block = des_block (round_keys key) block

-- DES deciphering: the round keys in reverse order (FIPS 46-3, Deciphering)
unfoldable pub des_decipher : List ℕ → List ℕ → List ℕ
unfolding round_keys des_block
des_decipher key block = des_block (reverse (round_keys key)) block

-- two-key triple DES, with a key of 16 bytes (FIPS 46-3, Triple data encryption algorithm, keying option 2)
unfoldable pub tdes_encipher : List ℕ → List ℕ → List ℕ
unfolding des_encipher des_decipher
tdes_encipher key block = des_encipher (take 8 key) (des_decipher (drop 8 key) (des_encipher (take 8 key) block))

-- two-key triple DES deciphering
unfoldable pub tdes_decipher : List ℕ → List ℕ → List ℕ
unfolding des_encipher des_decipher
tdes_decipher key block = des_decipher (take 8 key) (des_encipher (drop 8 key) (des_decipher (take 8 key) block))

-- the last block of CBC under DES over a message of whole blocks, from a start block (FIPS 81)
unfoldable pub des_signature : List ℕ → List ℕ → List ℕ → List ℕ
unfolding des_encipher
des_signature key start message = cbc_last (des_encipher key) 8 start message

-- the last block of CBC under triple DES
unfoldable pub tdes_signature : List ℕ → List ℕ → List ℕ → List ℕ
unfolding tdes_encipher
tdes_signature key start message = cbc_last (tdes_encipher key) 8 start message
