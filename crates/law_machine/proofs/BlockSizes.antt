-- What ciphers, signatures and digests make is as long as blocks and messages are.
use Rattle.std.proofs.Common.{◌≡◌, ℕ, zero, suc, ◌+◌, ◌*◌, ◌/◌, ◌%◌, ◌≤◌, List, ◌++◌, take, drop, length, ap, ◌∙◌, arith}
use Rattle.std.specs.Prelude.{reverse}
use Rattle.sha1.specs.Sha1.{sha1}
use Rattle.std.proofs.lemmas.List.{length-append, length-take, length-drop}
use Rattle.std.proofs.Math.Nat.{suc-mul}
use Rattle.model_card.specs.model_machine.specs.Modes.{bit_sum, blocks_of, each, last_of_chain, ecb}
use Rattle.model_card.specs.model_machine.specs.Des.{des_encipher, tdes_encipher, des_signature, tdes_signature}
use Rattle.model_card.specs.model_machine.specs.Aes.{round_keys, aes_encipher, aes_decipher, aes_signature}
use Rattle.model_card.specs.model_machine.specs.Primitives.{Cipher, Des, TripleDes, Aes, block_len, encipherment, decipherment, signature}
use Rattle.model_card.specs.model_machine.proofs.ModesLemmas.{length_added}
use Rattle.law_machine.proofs.BlockLengths.{length_sha1}
use Rattle.law_machine.proofs.CipherBlocks.{length_des, length_des_back, length_tdes, length_tdes_back, aes_16, aes_back_16}

-- ---- messages

-- a cipher of blocks of n bytes
abbrev pub IsOfBlocks : ℕ → (List ℕ → List ℕ) → Type 0
IsOfBlocks n cipher = (b : List ℕ) → length b ≡ n → length (cipher b) ≡ n

aes_blocks : (key : List ℕ) → IsOfBlocks 16 (aes_encipher key)
unfolding aes_encipher
aes_blocks key b h = aes_16 (round_keys key) b h

aes_back_blocks : (key : List ℕ) → IsOfBlocks 16 (aes_decipher key)
unfolding aes_decipher
aes_back_blocks key b h = aes_back_16 (reverse (round_keys key)) b h

-- a block enciphered is one
pub enciphered_blocks : (c : Cipher) (key : List ℕ) → IsOfBlocks (block_len c) (encipherment c key)
enciphered_blocks c key b h = grind (arith, length_des, length_tdes, aes_blocks)

-- so is a block deciphered
pub deciphered_blocks : (c : Cipher) (key : List ℕ) → IsOfBlocks (block_len c) (decipherment c key)
deciphered_blocks c key b h = grind (arith, length_des_back, length_tdes_back, aes_back_blocks)

each_blocks : (cipher : List ℕ → List ℕ) (n size : ℕ) (message : List ℕ) → IsOfBlocks size cipher → n * size ≤ length message → length (each cipher (blocks_of n size message)) ≡ n * size
each_blocks cipher zero size message h enough = omega arith
each_blocks cipher (suc n) size message h enough =
    let more : suc n * size ≡ n * size + size = suc-mul n size in
    let first : length (take size message) ≡ size = omega (arith, length-take size message, enough, more) in
    let one : length (cipher (take size message)) ≡ size = h (take size message) first in
    let left : n * size ≤ length (drop size message) = omega (arith, length-drop size message, enough, more) in
    let rest : length (each cipher (blocks_of n size (drop size message))) ≡ n * size = each_blocks cipher n size (drop size message) h left in
    let all : length (cipher (take size message) ++ each cipher (blocks_of n size (drop size message))) ≡ length (cipher (take size message)) + length (each cipher (blocks_of n size (drop size message))) =
    length-append (cipher (take size message)) (each cipher (blocks_of n size (drop size message))) in
    omega (arith, one, rest, all, more)

-- a message of whole blocks through a cipher is as long
pub ecb_length : (c : Cipher) (cipher : List ℕ → List ℕ) (message : List ℕ) → IsOfBlocks (block_len c) cipher → length message % block_len c ≡ 0 → length (ecb cipher (block_len c) message) ≡ length message
ecb_length c cipher message h whole = grind (arith, each_blocks)

-- a message of whole blocks is as long enciphered
pub enciphered_length : (c : Cipher) (key message : List ℕ) (n : ℕ) → length message ≡ n → n % block_len c ≡ 0 → length (ecb (encipherment c key) (block_len c) message) ≡ n
enciphered_length c key message n size whole = ecb_length c (encipherment c key) message (enciphered_blocks c key) (ap (λ (k : ℕ). k % block_len c) size ∙ whole) ∙ size

-- a message of whole blocks is as long deciphered
pub deciphered_length : (c : Cipher) (key message : List ℕ) (n : ℕ) → length message ≡ n → n % block_len c ≡ 0 → length (ecb (decipherment c key) (block_len c) message) ≡ n
deciphered_length c key message n size whole = ecb_length c (decipherment c key) message (deciphered_blocks c key) (ap (λ (k : ℕ). k % block_len c) size ∙ whole) ∙ size

chained : (cipher : List ℕ → List ℕ) (n size : ℕ) (start message : List ℕ) → IsOfBlocks size cipher → length start ≡ size → n * size ≤ length message → length (last_of_chain cipher start (blocks_of n size message)) ≡ size
chained cipher zero size start message h begins enough = begins
chained cipher (suc n) size start message h begins enough =
    let more : suc n * size ≡ n * size + size = suc-mul n size in
    let first : length (take size message) ≡ size = omega (arith, length-take size message, enough, more) in
    let left : n * size ≤ length (drop size message) = omega (arith, length-drop size message, enough, more) in
    chained cipher n size (cipher (bit_sum (take size message) start)) (drop size message) h
    (h (bit_sum (take size message) start) (length_added (take size message) start ∙ first)) left

-- a signature from a block is a block
pub signature_length : (c : Cipher) (key start message : List ℕ) → length start ≡ block_len c → length (signature c key start message) ≡ block_len c
unfolding des_signature tdes_signature aes_signature
signature_length Des key start message begins = chained (des_encipher key) (length message / 8) 8 start message (enciphered_blocks Des key) begins (omega arith)
signature_length TripleDes key start message begins = chained (tdes_encipher key) (length message / 8) 8 start message (enciphered_blocks TripleDes key) begins (omega arith)
signature_length Aes key start message begins = chained (aes_encipher key) (length message / 16) 16 start message (enciphered_blocks Aes key) begins (omega arith)

-- a digest has 20 bytes
pub digest_length : (m : List ℕ) → length (sha1 m) ≡ 20
digest_length m = length_sha1 m
