-- Results are no longer than what they are made of.
use Rattle.std.proofs.Common.{◌≡◌, ℕ, zero, suc, ◌+◌, ◌-◌, ◌*◌, ◌/◌, ◌≤◌, Bool, true, false, cond, List, [], ◌∷◌, ◌++◌, take, drop, map, length, Option, refl, arith}
use Rattle.std.specs.Prelude.{◌==◌, reverse, slice_index}
use Rattle.std.specs.Int.{w32, to_be_bytes}
use Rattle.sha1.specs.Sha1.{sha1, hash_after, padded_message, digest_bytes}
use Rattle.std.proofs.lemmas.List.{length-append, length-take, length-map}
use Rattle.model_card.specs.model_device.specs.Bytes.{bytes}
use Rattle.model_card.specs.model_machine.specs.Blocks.{each_byte}
use Rattle.model_card.specs.model_machine.specs.Modes.{bit_sum, blocks_of, each, last_of_chain, ecb}
use Rattle.model_card.specs.model_machine.specs.Des.{des_encipher, tdes_encipher, des_signature, tdes_signature}
use Rattle.model_card.specs.model_machine.specs.Aes.{shift_rows, sub, mix_columns, columns_times_matrix, round, last_round, round_back, last_round_back, rounds, rounds_back, round_keys, aes_encipher, aes_decipher, aes_signature}
use Rattle.model_card.specs.model_machine.specs.Aes as aes
use Rattle.model_card.specs.model_machine.specs.Frame.{Frame, Place, dynamic_base, where_is, bytes_in, bytes_at, stack_bytes}
use Rattle.model_card.specs.model_machine.specs.Primitives.{Cipher, Des, TripleDes, Aes, block_len, encipherment, decipherment, signature}
use Rattle.model_card.specs.model_device.proofs.ListLemmas.{length_bytes}
use Rattle.model_card.specs.model_machine.proofs.ModesLemmas.{length_added}
use Rattle.law_machine.proofs.CipherBlocks.{length_des, length_des_back, length_tdes, length_tdes_back, last_16, round_16, back_16, last_back_16}

-- ---- lists

-- a number written in as many bytes as a block is no longer
pub worked_short : (a : List ℕ) (n v : ℕ) → length a ≤ n → length (bytes (length a) v) ≤ n
worked_short a n v few = omega (arith, length_bytes (length a) v)

-- a byte-by-byte result is no longer than its first operand
pub each_short : (op : ℕ → ℕ → ℕ) (a b : List ℕ) (n : ℕ) → length a ≤ n → length (each_byte op a b) ≤ n
each_short op [] b n few = omega arith
each_short op (x ∷ a) [] n few = omega arith
each_short op (x ∷ a) (y ∷ b) n few =
    let less : length (each_byte op a b) ≤ length a = each_short op a b (length a) (omega arith) in
    omega arith

-- a block mapped byte by byte is no longer
pub map_short : (op : ℕ → ℕ) (a : List ℕ) (n : ℕ) → length a ≤ n → length (map op a) ≤ n
map_short op a n few = omega (arith, length-map a op)

-- at most n bytes are read from the stack
pub stacked_short : (f : Frame) (k n : ℕ) → length (stack_bytes f k n) ≤ n
stacked_short f k n = omega (arith, length-take n (drop (f.dt - k - dynamic_base) f.dyn))

-- at most n bytes are read at a place
pub in_short : (f : Frame) (public : List ℕ) (n : ℕ) (place : Option Place) → length (bytes_in f public n place) ≤ n
in_short f public n place = grind (arith, length-take)

-- a block or none is no longer than the block
pub none_or : (b : Bool) (l : List ℕ) (n : ℕ) → length l ≤ n → length (cond b [] l) ≤ n
none_or true l n few = omega arith
none_or false l n few = few

-- at most n bytes are read at an address
pub at_short : (f : Frame) (public : List ℕ) (a n : ℕ) → length (bytes_at f public a n) ≤ n
unfolding bytes_at
at_short f public a n = none_or (n == 0) (bytes_in f public n (where_is f a n)) n (in_short f public n (where_is f a n))

-- ---- ciphers

rounds_16 : (ks : List (List ℕ)) (s : List ℕ) → length s ≤ 16 → length (rounds ks s) ≤ 16
unfolding rounds
rounds_16 [] s h = h
rounds_16 (k ∷ []) s h = omega (arith, last_16 k s)
rounds_16 (k ∷ j ∷ ks) s h = rounds_16 (j ∷ ks) (round k s) (omega (arith, round_16 k s))

aes_16 : (ks : List (List ℕ)) (s : List ℕ) → length s ≤ 16 → length (aes.cipher_block ks s) ≤ 16
unfolding aes.cipher_block
aes_16 [] s h = h
aes_16 (k ∷ ks) s h = rounds_16 ks (bit_sum s k) (omega (arith, length_added s k))

rounds_back_16 : (ks : List (List ℕ)) (s : List ℕ) → length s ≤ 16 → length (rounds_back ks s) ≤ 16
unfolding rounds_back
rounds_back_16 [] s h = h
rounds_back_16 (k ∷ []) s h = omega (arith, length_added s k)
rounds_back_16 (k ∷ j ∷ ks) s h = rounds_back_16 (j ∷ ks) (round_back k s) (omega (arith, back_16 k s))

aes_back_16 : (ks : List (List ℕ)) (s : List ℕ) → length s ≤ 16 → length (aes.inverse_cipher_block ks s) ≤ 16
unfolding aes.inverse_cipher_block
aes_back_16 [] s h = h
aes_back_16 (k ∷ ks) s h = rounds_back_16 ks (last_round_back k s) (omega (arith, last_back_16 k s))

-- a cipher whose blocks have at most n bytes
abbrev Short : ℕ → (List ℕ → List ℕ) → Type 0
Short n cipher = (b : List ℕ) → length b ≤ n → length (cipher b) ≤ n

aes_short : (key : List ℕ) → Short 16 (aes_encipher key)
unfolding aes_encipher
aes_short key b h = aes_16 (round_keys key) b h

aes_back_short : (key : List ℕ) → Short 16 (aes_decipher key)
unfolding aes_decipher
aes_back_short key b h = aes_back_16 (reverse (round_keys key)) b h

enciphered_short : (c : Cipher) (key : List ℕ) → Short (block_len c) (encipherment c key)
enciphered_short c key b h = grind (arith, length_des, length_tdes, aes_short)

deciphered_short : (c : Cipher) (key : List ℕ) → Short (block_len c) (decipherment c key)
deciphered_short c key b h = grind (arith, length_des_back, length_tdes_back, aes_back_short)

each_blocks : (cipher : List ℕ → List ℕ) (n size : ℕ) (message : List ℕ) → Short size cipher → length (each cipher (blocks_of n size message)) ≤ n * size
each_blocks cipher zero size message h = omega arith
each_blocks cipher (suc n) size message h =
    let one : length (cipher (take size message)) ≤ size = h (take size message) (omega (arith, length-take size message)) in
    let rest : length (each cipher (blocks_of n size (drop size message))) ≤ n * size = each_blocks cipher n size (drop size message) h in
    let all : length (cipher (take size message) ++ each cipher (blocks_of n size (drop size message))) ≡ length (cipher (take size message)) + length (each cipher (blocks_of n size (drop size message))) =
    length-append (cipher (take size message)) (each cipher (blocks_of n size (drop size message))) in
    grind (arith, one, rest, all)

-- a message through a cipher is no longer
pub ecb_short : (c : Cipher) (cipher : List ℕ → List ℕ) (message : List ℕ) → Short (block_len c) cipher → length (ecb cipher (block_len c) message) ≤ length message
ecb_short c cipher message h = grind (arith, each_blocks)

-- an enciphered message is no longer than the message
pub enciphered_message : (c : Cipher) (key message : List ℕ) → length (ecb (encipherment c key) (block_len c) message) ≤ length message
enciphered_message c key message = ecb_short c (encipherment c key) message (enciphered_short c key)

-- a deciphered message is no longer than the message
pub deciphered_message : (c : Cipher) (key message : List ℕ) → length (ecb (decipherment c key) (block_len c) message) ≤ length message
deciphered_message c key message = ecb_short c (decipherment c key) message (deciphered_short c key)

chained_short : (cipher : List ℕ → List ℕ) (n size : ℕ) (start message : List ℕ) → Short size cipher → length start ≤ size → length (last_of_chain cipher start (blocks_of n size message)) ≤ size
chained_short cipher zero size start message h few = few
chained_short cipher (suc n) size start message h few =
    chained_short cipher n size (cipher (bit_sum (take size message) start)) (drop size message) h
    (h (bit_sum (take size message) start) (omega (arith, length_added (take size message) start, length-take size message)))

-- a signature is no longer than a block
pub signature_short : (c : Cipher) (key start message : List ℕ) → length start ≤ block_len c → length (signature c key start message) ≤ block_len c
unfolding des_signature tdes_signature aes_signature
signature_short Des key start message few = chained_short (des_encipher key) (length message / 8) 8 start message (enciphered_short Des key) few
signature_short TripleDes key start message few = chained_short (tdes_encipher key) (length message / 8) 8 start message (enciphered_short TripleDes key) few
signature_short Aes key start message few = chained_short (aes_encipher key) (length message / 16) 16 start message (enciphered_short Aes key) few

-- ---- the digest

digest_words : (h : List ℕ) (n : ℕ) → length (digest_bytes h n) ≡ 4 * n
unfolding digest_bytes
digest_words h zero = refl
digest_words h (suc n) =
    let rest : length (digest_bytes h n) ≡ 4 * n = digest_words h n in
    let all : length (digest_bytes h n ++ to_be_bytes w32 (slice_index h n)) ≡ length (digest_bytes h n) + 4 = length-append (digest_bytes h n) (to_be_bytes w32 (slice_index h n)) in
    omega arith

-- a digest has 20 bytes
pub length_sha1 : (m : List ℕ) → length (sha1 m) ≡ 20
unfolding sha1
length_sha1 m = digest_words (hash_after (padded_message m) (length (padded_message m) / 64)) 5
