-- What the ciphers and the digest give is bytes, whatever the sizes of their keys and blocks.
use Rattle.std.proofs.Common.{◌≡◌, ℕ, zero, suc, ◌+◌, ◌-◌, ◌*◌, ◌/◌, ◌%◌, ◌^◌, ◌<◌, List, [], ◌∷◌, ◌++◌, length, take, drop, map, reverse, sym, subst, arith}
use Rattle.std.specs.Prelude.{slice_index}
use Rattle.std.specs.Int.{bytes_high_first, byte_at}
use Rattle.std.proofs.Math.Nat.{pow-suc, one-mul, zero-mul}
use Rattle.std.proofs.Math.Pow.{pow_mono}
use Rattle.std.proofs.lemmas.Nat.{xor_lt}
use Rattle.std.proofs.lemmas.List.{reverse-append}
use Rattle.sha1.specs.Sha1.{sha1, digest_bytes, hash_after, padded_message}
use Rattle.law_family.specs.model_device.specs.Bytes.{AreBytes}
use Rattle.law_family.specs.model_device.proofs.ListLemmas.{bit_cases, bytes_from}
use Rattle.law_family.specs.model_machine.specs.Modes.{bit_sum, AllBelow, each, ecb, blocks_of, last_of_chain}
use Rattle.law_family.specs.model_machine.specs.Des as des
use Rattle.law_family.specs.model_machine.specs.Aes as aes
use Rattle.law_family.specs.model_machine.specs.Primitives.{Cipher, Des, TripleDes, Aes, encipherment, decipherment, signature}
use Rattle.law_family.specs.model_machine.proofs.ModesLemmas.{all_below_append, all_below_take, all_below_drop, all_below_at, all_below_added}
use Rattle.law_bytes.proofs.ByteLists.{joined, taken, short_take, below, of_below, remainder}

-- ---- bits

bits_low : (n v : ℕ) → AllBelow 2 (des.bits n v)
unfolding des.bits
bits_low zero v = tt
bits_low (suc n) v = (omega arith, bits_low n v)

pick_low : (ts l : List ℕ) → AllBelow 2 l → AllBelow 2 (des.pick ts l)
unfolding des.pick
pick_low [] l a = tt
pick_low (t ∷ ts) l a = (all_below_at 2 l (t - 1) (omega arith) a, pick_low ts l a)

box_low : (box : List (List ℕ)) (g : List ℕ) → AllBelow 2 (des.box_at box g)
unfolding des.box_at
box_low box g = bits_low 4 _

through_low : (bs : List (List (List ℕ))) (l : List ℕ) → AllBelow 2 (des.through bs l)
unfolding des.through
through_low [] l = tt
through_low (b ∷ bs) l = all_below_append 2 (des.box_at b (take 6 l)) (des.through bs (drop 6 l)) (box_low b (take 6 l)) (through_low bs (drop 6 l))

function_low : (r k : List ℕ) → AllBelow 2 (des.f r k)
unfolding des.f
function_low r k = pick_low des.permutation (des.through des.boxes (bit_sum (des.pick des.expansion r) k)) (through_low des.boxes (bit_sum (des.pick des.expansion r) k))

bits_of_low : (b : List ℕ) → AllBelow 2 (des.bits_of b)
unfolding des.bits_of
bits_of_low [] = tt
bits_of_low (b ∷ bs) = all_below_append 2 (des.bits 8 b) (des.bits_of bs) (bits_low 8 b) (bits_of_low bs)

-- ---- numbers of bits

with_bit : (b p m : ℕ) → b < 2 → m < p → b * p + m < p * 2
with_bit b p m hb hm = grind (arith, bit_cases, zero-mul, one-mul)

number_low : (l : List ℕ) → AllBelow 2 l → des.number l < 2 ^ length l
unfolding des.number
number_low [] a = omega arith
number_low (b ∷ bs) a =
    let rest : des.number bs < 2 ^ length bs = number_low bs a.1 in
    let twice : 2 ^ suc (length bs) ≡ 2 ^ length bs * 2 = pow-suc 2 (length bs) in
    rw twice (with_bit b (2 ^ length bs) (des.number bs) a.0 rest)

-- at most n bits make a number below 2 ^ n
number_within : (n : ℕ) (l : List ℕ) → AllBelow 2 l → des.number (take n l) < 2 ^ n
number_within n l a = grind (arith, number_low, all_below_take, pow_mono, short_take)

des_blocks : (n : ℕ) (l : List ℕ) → AllBelow 2 l → AreBytes (des.bytes_of n l)
unfolding des.bytes_of
des_blocks zero l a = tt
des_blocks (suc n) l a = (number_within 8 l a, des_blocks n (drop 8 l) (all_below_drop 2 8 l a))

-- ---- DES

-- two halves of bits
record AreHalves (p : List ℕ × List ℕ) : Type 0 where
  pub left : AllBelow 2 p.0
  pub right : AllBelow 2 p.1

rounds_low : (ks : List (List ℕ)) (l r : List ℕ) → AllBelow 2 l → AllBelow 2 r → AreHalves (des.rounds ks l r)
unfolding des.rounds
rounds_low [] l r hl hr = record { left = hl; right = hr }
rounds_low (k ∷ ks) l r hl hr = rounds_low ks r (bit_sum l (des.f r k)) hr (all_below_added 1 l (des.f r k) hl (function_low r k))

keyed_low : (ks : List (List ℕ)) (block : List ℕ) → AllBelow 2 block → AllBelow 2 (des.with_keys ks block)
unfolding des.with_keys
keyed_low ks block h =
    let start : List ℕ = des.pick des.initial block in
    let low : AllBelow 2 start = pick_low des.initial block h in
    let p : List ℕ × List ℕ = des.rounds ks (take 32 start) (drop 32 start) in
    let halves : AreHalves p = rounds_low ks (take 32 start) (drop 32 start) (all_below_take 2 32 start low) (all_below_drop 2 32 start low) in
    pick_low des.final (p.1 ++ p.0) (all_below_append 2 p.1 p.0 halves.right halves.left)

des_bytes : (ks : List (List ℕ)) (block : List ℕ) → AreBytes (des.des_block ks block)
unfolding des.des_block
des_bytes ks block = des_blocks 8 (des.with_keys ks (des.bits_of block)) (keyed_low ks (des.bits_of block) (bits_of_low block))

enciphered_des : (key block : List ℕ) → AreBytes (des.des_encipher key block)
unfolding des.des_encipher
enciphered_des key block = des_bytes (des.round_keys key) block

deciphered_des : (key block : List ℕ) → AreBytes (des.des_decipher key block)
unfolding des.des_decipher
deciphered_des key block = des_bytes (reverse (des.round_keys key)) block

enciphered_triple : (key block : List ℕ) → AreBytes (des.tdes_encipher key block)
unfolding des.tdes_encipher
enciphered_triple key block = enciphered_des (take 8 key) (des.des_decipher (drop 8 key) (des.des_encipher (take 8 key) block))

deciphered_triple : (key block : List ℕ) → AreBytes (des.tdes_decipher key block)
unfolding des.tdes_decipher
deciphered_triple key block = deciphered_des (take 8 key) (des.des_encipher (drop 8 key) (des.des_decipher (take 8 key) block))

-- ---- AES: bytes

twice_low : (b : ℕ) → b < 256 → aes.times2 b < 256
twice_low b h = xor_lt 8 (2 * b % 256) (27 * (b / 128)) (omega arith) (omega arith)

-- a bit times a byte
bit_times : (a b : ℕ) → b < 256 → a % 2 * b < 256
bit_times a b h = grind (arith, bit_cases, zero-mul, one-mul)

product_by : (n a b : ℕ) → b < 256 → aes.mul_bits n a b < 256
unfolding aes.mul_bits
product_by zero a b h = omega arith
product_by (suc n) a b h = xor_lt 8 (a % 2 * b) (aes.mul_bits n (a / 2) (aes.times2 b)) (bit_times a b h) (product_by n (a / 2) (aes.times2 b) (twice_low b h))

product_low : (a b : ℕ) → b < 256 → aes.mul a b < 256
unfolding aes.mul
product_low a b h = product_by 8 a b h

squares_low : (n b : ℕ) → b < 256 → aes.squares n b < 256
unfolding aes.squares
squares_low zero b h = omega arith
squares_low (suc n) b h = product_low (aes.mul b b) (aes.squares n (aes.mul b b)) (squares_low n (aes.mul b b) (product_low b b h))

inverse_low : (b : ℕ) → b < 256 → aes.inverse b < 256
unfolding aes.inverse
inverse_low b h = squares_low 7 b h

-- a byte of eight bits
bits_byte : (n : ℕ) (value : ℕ → ℕ) → ((i : ℕ) → value i < 2) → aes.byte_by n value < 2 ^ n
bits_byte zero value h = omega arith
bits_byte (suc n) value h = rw (pow-suc 2 n) (with_bit (value n) (2 ^ n) (aes.byte_by n value) (h n) (bits_byte n value h))

bit_of : (n : ℕ) → n % 2 < 2
bit_of n = omega arith

affine_low : (b : ℕ) → aes.affine b < 256
unfolding aes.affine
affine_low b =
    let sum : ℕ → ℕ = λ i. aes.bit b i + aes.bit b (i + 4) + aes.bit b (i + 5) + aes.bit b (i + 6) + aes.bit b (i + 7) + aes.bit 0x63 i in
    bits_byte 8 (λ i. sum i % 2) (λ i. bit_of (sum i))

back_low : (b : ℕ) → aes.affine_back b < 256
unfolding aes.affine_back
back_low b =
    let sum : ℕ → ℕ = λ i. aes.bit b (i + 2) + aes.bit b (i + 5) + aes.bit b (i + 7) + aes.bit 0x05 i in
    bits_byte 8 (λ i. sum i % 2) (λ i. bit_of (sum i))

substitute_low : (b : ℕ) → aes.sub b < 256
unfolding aes.sub
substitute_low b = affine_low (aes.inverse b)

substitute_back_low : (b : ℕ) → aes.sub_back b < 256
unfolding aes.sub_back
substitute_back_low b = inverse_low (aes.affine_back b) (back_low b)

mapped : (g : ℕ → ℕ) → ((b : ℕ) → g b < 256) → (l : List ℕ) → AllBelow 256 (map g l)
mapped g low [] = tt
mapped g low (b ∷ l) = (low b, mapped g low l)

placed : (is s : List ℕ) → AllBelow 256 s → AllBelow 256 (aes.bytes_at_places is s)
placed [] s a = tt
placed (i ∷ is) s a = (all_below_at 256 s i (omega arith) a, placed is s a)

shifted : (s : List ℕ) → AllBelow 256 s → AllBelow 256 (aes.shift_rows s)
shifted s a = placed (0 ∷ 5 ∷ 10 ∷ 15 ∷ 4 ∷ 9 ∷ 14 ∷ 3 ∷ 8 ∷ 13 ∷ 2 ∷ 7 ∷ 12 ∷ 1 ∷ 6 ∷ 11 ∷ []) s a

-- ---- AES: keys

AllKeys : List (List ℕ) → Type 0
AllKeys [] = Unit {0}
AllKeys (k ∷ ks) = AllBelow 256 k × AllKeys ks

word_low : (c : ℕ) (w : List ℕ) → c < 256 → AllBelow 256 (aes.next_key_word c w)
unfolding aes.next_key_word
word_low c w h = all_below_added 8 (map aes.sub (drop 1 w ++ take 1 w)) (c ∷ []) (mapped aes.sub substitute_low (drop 1 w ++ take 1 w)) (h, tt)

next_low : (c : ℕ) (k : List ℕ) → c < 256 → AllBelow 256 k → AllBelow 256 (aes.next_key c k)
unfolding aes.next_key
next_low c k h a =
    let w0 : List ℕ = bit_sum (take 4 k) (aes.next_key_word c (drop 12 k)) in
    let w1 : List ℕ = bit_sum (take 4 (drop 4 k)) w0 in
    let w2 : List ℕ = bit_sum (take 4 (drop 8 k)) w1 in
    let w3 : List ℕ = bit_sum (drop 12 k) w2 in
    let part : (n : ℕ) → AllBelow 256 (take 4 (drop n k)) = λ n. all_below_take 256 4 (drop n k) (all_below_drop 256 n k a) in
    let a0 : AllBelow 256 w0 = all_below_added 8 (take 4 k) (aes.next_key_word c (drop 12 k)) (all_below_take 256 4 k a) (word_low c (drop 12 k) h) in
    let a1 : AllBelow 256 w1 = all_below_added 8 (take 4 (drop 4 k)) w0 (part 4) a0 in
    let a2 : AllBelow 256 w2 = all_below_added 8 (take 4 (drop 8 k)) w1 (part 8) a1 in
    let a3 : AllBelow 256 w3 = all_below_added 8 (drop 12 k) w2 (all_below_drop 256 12 k a) a2 in
    all_below_append 256 (w0 ++ w1 ++ w2) w3 (all_below_append 256 (w0 ++ w1) w2 (all_below_append 256 w0 w1 a0 a1) a2) a3

keys_from : (n c : ℕ) (k : List ℕ) → c < 256 → AllBelow 256 k → AllKeys (aes.round_keys_from n c k)
unfolding aes.round_keys_from AllKeys
keys_from zero c k h a = (a, tt)
keys_from (suc n) c k h a = (a, keys_from n (aes.times2 c) (aes.next_key c k) (twice_low c h) (next_low c k h a))

keys_low : (key : List ℕ) → AllBelow 256 key → AllKeys (aes.round_keys key)
unfolding aes.round_keys
keys_low key a = keys_from 10 1 key (omega arith) a

keys_joined : (ks js : List (List ℕ)) → AllKeys ks → AllKeys js → AllKeys (ks ++ js)
unfolding AllKeys
keys_joined [] js a b = b
keys_joined (k ∷ ks) js a b = (a.0, keys_joined ks js a.1 b)

keys_reversed : (ks : List (List ℕ)) → AllKeys ks → AllKeys (reverse ks)
unfolding AllKeys
keys_reversed [] a = tt
keys_reversed (k ∷ ks) a = subst AllKeys (sym (reverse-append (k ∷ []) ks)) (keys_joined (reverse ks) (k ∷ []) (keys_reversed ks a.1) (a.0, tt))

-- ---- AES: rounds

rounds_bytes : (k : List ℕ) (ks : List (List ℕ)) (s : List ℕ) → AllKeys (k ∷ ks) → AllBelow 256 (aes.rounds (k ∷ ks) s)
unfolding aes.rounds aes.last_round AllKeys
rounds_bytes k [] s a = all_below_added 8 (aes.shift_rows (map aes.sub s)) k (shifted (map aes.sub s) (mapped aes.sub substitute_low s)) a.0
rounds_bytes k (j ∷ ks) s a = rounds_bytes j ks (aes.round k s) a.1

cipher_bytes : (ks : List (List ℕ)) (block : List ℕ) → AllKeys ks → AllBelow 256 block → AllBelow 256 (aes.cipher_block ks block)
unfolding aes.cipher_block aes.rounds AllKeys
cipher_bytes [] block a h = h
cipher_bytes (k ∷ []) block a h = all_below_added 8 block k h a.0
cipher_bytes (k ∷ j ∷ ks) block a h = rounds_bytes j ks (bit_sum block k) a.1

last_back : (k s : List ℕ) → AllBelow 256 (aes.last_round_back k s)
unfolding aes.last_round_back
last_back k s = mapped aes.sub_back substitute_back_low (aes.shift_rows_back (bit_sum s k))

round_back_bytes : (k s : List ℕ) → AllBelow 256 (aes.round_back k s)
unfolding aes.round_back
round_back_bytes k s = mapped aes.sub_back substitute_back_low (aes.shift_rows_back (aes.mix_columns_back (bit_sum s k)))

rounds_back_bytes : (ks : List (List ℕ)) (s : List ℕ) → AllKeys ks → AllBelow 256 s → AllBelow 256 (aes.rounds_back ks s)
unfolding aes.rounds_back AllKeys
rounds_back_bytes [] s a h = h
rounds_back_bytes (k ∷ []) s a h = all_below_added 8 s k h a.0
rounds_back_bytes (k ∷ j ∷ ks) s a h = rounds_back_bytes (j ∷ ks) (aes.round_back k s) a.1 (round_back_bytes k s)

inverse_bytes : (ks : List (List ℕ)) (block : List ℕ) → AllKeys ks → AllBelow 256 block → AllBelow 256 (aes.inverse_cipher_block ks block)
unfolding aes.inverse_cipher_block AllKeys
inverse_bytes [] block a h = h
inverse_bytes (k ∷ ks) block a h = rounds_back_bytes ks (aes.last_round_back k block) a.1 (last_back k block)

enciphered_aes : (key block : List ℕ) → AreBytes key → AreBytes block → AreBytes (aes.aes_encipher key block)
unfolding aes.aes_encipher
enciphered_aes key block k h = of_below (aes.cipher_block (aes.round_keys key) block) (cipher_bytes (aes.round_keys key) block (keys_low key (below key k)) (below block h))

deciphered_aes : (key block : List ℕ) → AreBytes key → AreBytes block → AreBytes (aes.aes_decipher key block)
unfolding aes.aes_decipher
deciphered_aes key block k h =
    of_below (aes.inverse_cipher_block (reverse (aes.round_keys key)) block)
    (inverse_bytes (reverse (aes.round_keys key)) block (keys_reversed (aes.round_keys key) (keys_low key (below key k))) (below block h))

-- ---- messages

-- a cipher of blocks of bytes, block by block
each_bytes : (cipher : List ℕ → List ℕ) → ((b : List ℕ) → AreBytes b → AreBytes (cipher b)) → (n size : ℕ) (message : List ℕ) → AreBytes message → AreBytes (each cipher (blocks_of n size message))
each_bytes cipher is zero size message h = tt
each_bytes cipher is (suc n) size message h =
    joined (cipher (take size message)) (each cipher (blocks_of n size (drop size message))) (is (take size message) (taken size message h))
    (each_bytes cipher is n size (drop size message) (bytes_from message size h))

-- a message enciphered block by block is of bytes if each block is
pub message_bytes : (cipher : List ℕ → List ℕ) → ((b : List ℕ) → AreBytes b → AreBytes (cipher b)) → (size : ℕ) (message : List ℕ) → AreBytes message → AreBytes (ecb cipher size message)
message_bytes cipher is size message h = each_bytes cipher is (length message / size) size message h

-- and in a chain
chain_bytes : (cipher : List ℕ → List ℕ) → ((b : List ℕ) → AreBytes b → AreBytes (cipher b)) → (n size : ℕ) (message last : List ℕ) → AreBytes message → AreBytes last → AreBytes (last_of_chain cipher last (blocks_of n size message))
chain_bytes cipher is zero size message last h l = l
chain_bytes cipher is (suc n) size message last h l =
    chain_bytes cipher is n size (drop size message) (cipher (bit_sum (take size message) last)) (bytes_from message size h)
    (is (bit_sum (take size message) last) (of_below (bit_sum (take size message) last) (all_below_added 8 (take size message) last (below (take size message) (taken size message h)) (below last l))))

-- ---- the ciphers by their names

-- a block enciphered under a key of bytes is of bytes
pub enciphered : (c : Cipher) (key block : List ℕ) → AreBytes key → AreBytes block → AreBytes (encipherment c key block)
enciphered c key block k h = grind (arith, enciphered_des, enciphered_triple, enciphered_aes)

-- a block deciphered under a key of bytes is of bytes
pub deciphered : (c : Cipher) (key block : List ℕ) → AreBytes key → AreBytes block → AreBytes (decipherment c key block)
deciphered c key block k h = grind (arith, deciphered_des, deciphered_triple, deciphered_aes)

-- a signature under a key of bytes is of bytes
pub signed : (c : Cipher) (key start message : List ℕ) → AreBytes key → AreBytes start → AreBytes message → AreBytes (signature c key start message)
unfolding des.des_signature des.tdes_signature aes.aes_signature
signed Des key start message k s h = chain_bytes (des.des_encipher key) (λ b _. enciphered_des key b) (length message / 8) 8 message start h s
signed TripleDes key start message k s h = chain_bytes (des.tdes_encipher key) (λ b _. enciphered_triple key b) (length message / 8) 8 message start h s
signed Aes key start message k s h = chain_bytes (aes.aes_encipher key) (λ b l. enciphered_aes key b k l) (length message / 16) 16 message start h s

-- ---- the digest

byte_within : (i n : ℕ) → byte_at i n < 256
byte_within zero n = omega arith
byte_within (suc i) n = remainder (n / 256 ^ suc i)

high_first : (k n : ℕ) → AreBytes (bytes_high_first k n)
high_first zero n = tt
high_first (suc k) n = (byte_within k n, high_first k n)

digest_words : (h : List ℕ) (n : ℕ) → AreBytes (digest_bytes h n)
unfolding digest_bytes
digest_words h zero = tt
digest_words h (suc n) = joined (digest_bytes h n) (bytes_high_first 4 (slice_index h n)) (digest_words h n) (high_first 4 (slice_index h n))

-- a digest is of bytes
pub digested : (m : List ℕ) → AreBytes (sha1 m)
unfolding sha1
digested m = digest_words (hash_after (padded_message m) (length (padded_message m) / 64)) 5
