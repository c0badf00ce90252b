-- The contracts of the public calls, from the rounds.
use Rattle.std.proofs.Common.{◌≡◌, ℕ, ◌+◌, ◌-◌, ◌*◌, ◌/◌, ◌<◌, ◌≤◌, List, length, take, drop, reverse, refl, sym, ap, ◌∙◌, arith}
use Rattle.std.proofs.Math.Nat.{sub-zero}
use Rattle.model_machine.proofs.ModesLemmas.{chain_step}
use Rattle.model_machine.specs.Modes.{bit_sum, blocks_of, last_of_chain}
use Rattle.model_machine.specs.Aes.{aes_encipher, aes_decipher, aes_signature, round_keys, cipher_block, inverse_cipher_block}

pub aes_encipher_open : (key block : List ℕ) → aes_encipher key block ≡ cipher_block (round_keys key) block
unfolding aes_encipher
aes_encipher_open key block = refl

pub aes_decipher_open : (key block : List ℕ) → aes_decipher key block ≡ inverse_cipher_block (reverse (round_keys key)) block
unfolding aes_decipher
aes_decipher_open key block = refl

pub aes_signature_open : (key start message : List ℕ) → aes_signature key start message ≡ last_of_chain (aes_encipher key) start (blocks_of (length message / 16) 16 message)
unfolding aes_signature
aes_signature_open key start message = refl

pub aes_encipher_is : (key block r b : List ℕ) (ks : List (List ℕ)) → ks ≡ round_keys key → b ≡ block → r ≡ cipher_block ks b → r ≡ aes_encipher key block
aes_encipher_is key block r b ks ek eb er = er ∙ ap (λ (k : List (List ℕ)). cipher_block k b) ek ∙ ap (cipher_block (round_keys key)) eb ∙ sym (aes_encipher_open key block)

pub aes_decipher_is : (key block r b : List ℕ) (ks : List (List ℕ)) → ks ≡ round_keys key → b ≡ block → r ≡ inverse_cipher_block (reverse ks) b → r ≡ aes_decipher key block
aes_decipher_is key block r b ks ek eb er = er ∙ ap (λ (k : List (List ℕ)). inverse_cipher_block (reverse k) b) ek ∙ ap (inverse_cipher_block (reverse (round_keys key))) eb ∙ sym (aes_decipher_open key block)

-- before the first block of the message, the chain over all its blocks is the definition's
pub signature_init : (key start message last : List ℕ) → last ≡ start
    → last_of_chain (aes_encipher key) last (blocks_of (length message / 16 - 0) 16 (drop (16 * 0) message)) ≡ aes_signature key start message
signature_init key start message last e =
    rw sub-zero (ap (λ (l : List ℕ). last_of_chain (aes_encipher key) l (blocks_of (length message / 16) 16 message)) e ∙ sym (aes_signature_open key start message))

pub signature_step : (key message last next block sum e : List ℕ) (ks : List (List ℕ)) (n i : ℕ) → i < n → ks ≡ round_keys key
    → last_of_chain (aes_encipher key) last (blocks_of (n - i) 16 (drop (16 * i) message)) ≡ e
    → block ≡ take (16 * i + 16 - 16 * i) (drop (16 * i) message) → sum ≡ bit_sum block last → next ≡ cipher_block ks sum
    → last_of_chain (aes_encipher key) next (blocks_of (n - (i + 1)) 16 (drop (16 * (i + 1)) message)) ≡ e
signature_step key message last next block sum e ks n i h ek same eb es en =
    let size : 16 * i + 16 - 16 * i ≡ 16 = omega arith in
    let place : 16 * (i + 1) ≡ 16 * i + 16 = omega arith in
    ap (λ (k : ℕ). last_of_chain (aes_encipher key) next (blocks_of (n - (i + 1)) 16 (drop k message))) place
    ∙ chain_step (aes_encipher key) 16 n i (16 * i) message last next e block h same
    (eb ∙ ap (λ (k : ℕ). take k (drop (16 * i) message)) size)
    (aes_encipher_is key (bit_sum block last) next sum ks ek es en)

pub signature_end : (key message last e r : List ℕ) (n i : ℕ) → n ≤ i → last_of_chain (aes_encipher key) last (blocks_of (n - i) 16 (drop (16 * i) message)) ≡ e → r ≡ last → r ≡ e
signature_end key message last e r n i h same er =
    let none : n - i ≡ 0 = omega arith in
    er ∙ rw none at same
