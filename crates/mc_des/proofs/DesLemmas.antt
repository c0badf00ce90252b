-- The public calls, from the rounds.
use Rattle.std.proofs.Common.{◌≡◌, ℕ, ◌+◌, ◌-◌, ◌*◌, ◌/◌, ◌<◌, ◌≤◌, List, [], ◌∷◌, ◌++◌, length, take, drop, map, reverse, refl, sym, ap, ◌∙◌, arith}
use Rattle.std.specs.Int.{w64, to_be_bytes}
use Rattle.std.specs.Int.Bits.{bit_xor}
use Rattle.std.proofs.Math.Nat.{sub-zero}
use Rattle.std.proofs.lemmas.Nat.{xor_mod}
use Rattle.std.proofs.lemmas.List.{reverse-append, length-drop, take_all, map-append}
use Rattle.model_machine.proofs.ModesLemmas.{chain_step}
use Rattle.model_machine.specs.Modes.{bit_sum, blocks_of, last_of_chain}
use Rattle.model_machine.specs.Des.{des_block, round_keys, des_encipher, des_decipher, tdes_encipher, tdes_decipher, des_signature, tdes_signature}
use Rattle.model_machine.specs.model_device.proofs.ListLemmas.{byte_xor}

-- ---- the definitions, unfolded once

pub des_encipher_open : (key block : List ℕ) → des_encipher key block ≡ des_block (round_keys key) block
unfolding des_encipher
des_encipher_open key block = refl

pub des_decipher_open : (key block : List ℕ) → des_decipher key block ≡ des_block (reverse (round_keys key)) block
unfolding des_decipher
des_decipher_open key block = refl

pub tdes_encipher_open : (key block : List ℕ) → tdes_encipher key block ≡ des_encipher (take 8 key) (des_decipher (drop 8 key) (des_encipher (take 8 key) block))
unfolding tdes_encipher
tdes_encipher_open key block = refl

pub tdes_decipher_open : (key block : List ℕ) → tdes_decipher key block ≡ des_decipher (take 8 key) (des_encipher (drop 8 key) (des_decipher (take 8 key) block))
unfolding tdes_decipher
tdes_decipher_open key block = refl

des_signature_open : (key start message : List ℕ) → des_signature key start message ≡ last_of_chain (des_encipher key) start (blocks_of (length message / 8) 8 message)
unfolding des_signature
des_signature_open key start message = refl

tdes_signature_open : (key start message : List ℕ) → tdes_signature key start message ≡ last_of_chain (tdes_encipher key) start (blocks_of (length message / 8) 8 message)
unfolding tdes_signature
tdes_signature_open key start message = refl

-- ---- lists

pub map_reverse : (g : ℕ → List ℕ) (l : List ℕ) → map g (reverse l) ≡ reverse (map g l)
map_reverse g [] = refl
map_reverse g (x ∷ l) =
    ap (map g) (reverse-append (x ∷ []) l) ∙ map-append g (reverse l) (x ∷ []) ∙ ap (λ (y : List (List ℕ)). y ++ (g x ∷ [])) (map_reverse g l)
    ∙ sym (reverse-append (g x ∷ []) (map g l))

pub second_half : (key : List ℕ) → length key ≡ 16 → take 8 (drop 8 key) ≡ drop 8 key
second_half key h = take_all 8 (drop 8 key) (omega (arith, length-drop 8 key))

-- ---- one block

pub des_encipher_is : (key block kb bb r : List ℕ) (ks : List (List ℕ)) → kb ≡ key → bb ≡ block → ks ≡ round_keys kb → r ≡ des_block ks bb → r ≡ des_encipher key block
des_encipher_is key block kb bb r ks ek eb es er =
    er ∙ ap (λ (x : List (List ℕ)). des_block x bb) (es ∙ ap round_keys ek) ∙ ap (des_block (round_keys key)) eb ∙ sym (des_encipher_open key block)

pub des_decipher_is : (key block kb bb r : List ℕ) (ks rs : List (List ℕ)) → kb ≡ key → bb ≡ block → ks ≡ round_keys kb → rs ≡ reverse ks → r ≡ des_block rs bb → r ≡ des_decipher key block
des_decipher_is key block kb bb r ks rs ek eb es ers er =
    er ∙ ap (λ (x : List (List ℕ)). des_block x bb) (ers ∙ ap reverse (es ∙ ap round_keys ek)) ∙ ap (des_block (reverse (round_keys key))) eb ∙ sym (des_decipher_open key block)

-- three ciphers, with the round keys in order in the outer ones and in reverse in the inner one
pub tdes_encipher_is : (key block kb jb bb r : List ℕ) (ks js is : List (List ℕ)) → kb ≡ take 8 key → jb ≡ drop 8 key → bb ≡ block → ks ≡ round_keys kb → js ≡ round_keys jb → is ≡ reverse js
    → r ≡ des_block ks (des_block is (des_block ks bb)) → r ≡ tdes_encipher key block
tdes_encipher_is key block kb jb bb r ks js is ek ej eb es et ei er =
    let first : des_block ks bb ≡ des_encipher (take 8 key) block = des_encipher_is (take 8 key) block kb bb _ ks ek eb es refl in
    let second : des_block is (des_block ks bb) ≡ des_decipher (drop 8 key) (des_encipher (take 8 key) block) = des_decipher_is (drop 8 key) _ jb _ _ js is ej first et ei refl in
    er ∙ des_encipher_is (take 8 key) _ kb _ _ ks ek second es refl ∙ sym (tdes_encipher_open key block)

-- three ciphers, with the round keys in reverse in the outer ones and in order in the inner one
pub tdes_decipher_is : (key block kb jb bb r : List ℕ) (ks os js : List (List ℕ)) → kb ≡ take 8 key → jb ≡ drop 8 key → bb ≡ block → ks ≡ round_keys kb → os ≡ reverse ks → js ≡ round_keys jb
    → r ≡ des_block os (des_block js (des_block os bb)) → r ≡ tdes_decipher key block
tdes_decipher_is key block kb jb bb r ks os js ek ej eb es eo et er =
    let first : des_block os bb ≡ des_decipher (take 8 key) block = des_decipher_is (take 8 key) block kb bb _ ks os ek eb es eo refl in
    let second : des_block js (des_block os bb) ≡ des_encipher (drop 8 key) (des_decipher (take 8 key) block) = des_encipher_is (drop 8 key) _ jb _ _ js ej first et refl in
    er ∙ des_decipher_is (take 8 key) _ kb _ _ ks os ek second es eo refl ∙ sym (tdes_decipher_open key block)

-- ---- chains

pub bytes_xor : (a b : ℕ) → to_be_bytes w64 (bit_xor a b) ≡ bit_sum (to_be_bytes w64 a) (to_be_bytes w64 b)
bytes_xor a b = rw (byte_xor a b 56, byte_xor a b 48, byte_xor a b 40, byte_xor a b 32, byte_xor a b 24, byte_xor a b 16, byte_xor a b 8, xor_mod a b 8) refl

pub des_signature_init : (key start message last : List ℕ) → last ≡ start
    → last_of_chain (des_encipher key) last (blocks_of (length message / 8 - 0) 8 (drop (8 * 0) message)) ≡ des_signature key start message
des_signature_init key start message last e =
    rw sub-zero (ap (λ (l : List ℕ). last_of_chain (des_encipher key) l (blocks_of (length message / 8) 8 message)) e ∙ sym (des_signature_open key start message))

pub tdes_signature_init : (key start message last : List ℕ) → last ≡ start
    → last_of_chain (tdes_encipher key) last (blocks_of (length message / 8 - 0) 8 (drop (8 * 0) message)) ≡ tdes_signature key start message
tdes_signature_init key start message last e =
    rw sub-zero (ap (λ (l : List ℕ). last_of_chain (tdes_encipher key) l (blocks_of (length message / 8) 8 message)) e ∙ sym (tdes_signature_open key start message))

-- one more block, of a cipher of blocks of eight bytes
pub signature_step : (cipher : List ℕ → List ℕ) (message last next block e : List ℕ) (n i : ℕ) → i < n
    → last_of_chain cipher last (blocks_of (n - i) 8 (drop (8 * i) message)) ≡ e
    → block ≡ take (8 * i + 8 - 8 * i) (drop (8 * i) message) → next ≡ cipher (bit_sum block last)
    → last_of_chain cipher next (blocks_of (n - (i + 1)) 8 (drop (8 * (i + 1)) message)) ≡ e
signature_step cipher message last next block e n i h same eb en =
    let size : 8 * i + 8 - 8 * i ≡ 8 = omega arith in
    let place : 8 * (i + 1) ≡ 8 * i + 8 = omega arith in
    ap (λ (k : ℕ). last_of_chain cipher next (blocks_of (n - (i + 1)) 8 (drop k message))) place
    ∙ chain_step cipher 8 n i (8 * i) message last next e block h same (eb ∙ ap (λ (k : ℕ). take k (drop (8 * i) message)) size) en

pub signature_end : (cipher : List ℕ → List ℕ) (message last e r : List ℕ) (n i : ℕ) → n ≤ i → last_of_chain cipher last (blocks_of (n - i) 8 (drop (8 * i) message)) ≡ e → r ≡ last → r ≡ e
signature_end cipher message last e r n i h same er =
    let none : n - i ≡ 0 = omega arith in
    er ∙ rw none at same
