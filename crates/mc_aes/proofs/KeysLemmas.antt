-- The key expansion of FIPS 197 on words.
use Rattle.std.proofs.Common.{◌≡◌, ℕ, ◌/◌, ◌%◌, ◌^◌, List, [], ◌∷◌, ◌++◌, refl}
use Rattle.std.specs.Prelude.{bit_xor}
use Rattle.model_machine.specs.Modes.{bit_sum}
use Rattle.model_machine.specs.Aes.{sub, next_key_word, next_key, round_keys}
use Rattle.mc_aes.specs.State.{word, state_bytes}
use Rattle.mc_aes.specs.declared.state.State.{State}
use Rattle.mc_aes.proofs.StateLemmas.{word_xor}

changed_bytes : (w constant : ℕ) → bit_xor (sub (w / 2 ^ 16 % 256)) constant ∷ sub (w / 2 ^ 8 % 256) ∷ sub (w % 256) ∷ sub (w / 2 ^ 24 % 256) ∷ [] ≡ next_key_word constant (word w)
unfolding word next_key_word
changed_bytes w constant = refl

pub changed_is : (w constant r a b c d : ℕ) → word r ≡ bit_xor a constant ∷ b ∷ c ∷ d ∷ [] → a ≡ sub (w / 2 ^ 16 % 256) → b ≡ sub (w / 2 ^ 8 % 256) → c ≡ sub (w % 256) → d ≡ sub (w / 2 ^ 24 % 256)
    → word r ≡ next_key_word constant (word w)
changed_is w constant r a b c d e ea eb ec ed = rw (e, ea, eb, ec, ed) (changed_bytes w constant)

next_words : (k : State) (constant : ℕ) →
    let w0 = bit_sum (word k.first) (next_key_word constant (word k.fourth)) in
    let w1 = bit_sum (word k.second) w0 in
    let w2 = bit_sum (word k.third) w1 in
    let w3 = bit_sum (word k.fourth) w2 in
    w0 ++ w1 ++ w2 ++ w3 ≡ next_key constant (state_bytes k)
unfolding word state_bytes next_key
next_words k constant = refl

pub next_key_is : (k : State) (constant x : ℕ) → word x ≡ next_key_word constant (word k.fourth) →
    let a = bit_xor k.first x in
    let b = bit_xor k.second a in
    let c = bit_xor k.third b in
    let d = bit_xor k.fourth c in
    word a ++ word b ++ word c ++ word d ≡ next_key constant (state_bytes k)
next_key_is k constant x e =
    rw (word_xor k.fourth (bit_xor k.third (bit_xor k.second (bit_xor k.first x))), word_xor k.third (bit_xor k.second (bit_xor k.first x)), word_xor k.second (bit_xor k.first x), word_xor k.first x, e)
    (next_words k constant)

round_keys_open : (key : List ℕ) → key
    ∷ (next_key 1 key)
    ∷ (next_key 2 (next_key 1 key))
    ∷ (next_key 4 (next_key 2 (next_key 1 key)))
    ∷ (next_key 8 (next_key 4 (next_key 2 (next_key 1 key))))
    ∷ (next_key 16 (next_key 8 (next_key 4 (next_key 2 (next_key 1 key)))))
    ∷ (next_key 32 (next_key 16 (next_key 8 (next_key 4 (next_key 2 (next_key 1 key))))))
    ∷ (next_key 64 (next_key 32 (next_key 16 (next_key 8 (next_key 4 (next_key 2 (next_key 1 key)))))))
    ∷ (next_key 128 (next_key 64 (next_key 32 (next_key 16 (next_key 8 (next_key 4 (next_key 2 (next_key 1 key))))))))
    ∷ (next_key 27 (next_key 128 (next_key 64 (next_key 32 (next_key 16 (next_key 8 (next_key 4 (next_key 2 (next_key 1 key)))))))))
    ∷ (next_key 54 (next_key 27 (next_key 128 (next_key 64 (next_key 32 (next_key 16 (next_key 8 (next_key 4 (next_key 2 (next_key 1 key)))))))))) ∷ [] ≡ round_keys key
unfolding round_keys
round_keys_open key = refl

pub round_keys_are : (key k0 k1 k2 k3 k4 k5 k6 k7 k8 k9 k10 : List ℕ) → k0 ≡ key → k1 ≡ next_key 1 k0 → k2 ≡ next_key 2 k1 → k3 ≡ next_key 4 k2 → k4 ≡ next_key 8 k3
    → k5 ≡ next_key 16 k4 → k6 ≡ next_key 32 k5 → k7 ≡ next_key 64 k6 → k8 ≡ next_key 128 k7 → k9 ≡ next_key 27 k8 → k10 ≡ next_key 54 k9
    → k0 ∷ k1 ∷ k2 ∷ k3 ∷ k4 ∷ k5 ∷ k6 ∷ k7 ∷ k8 ∷ k9 ∷ k10 ∷ [] ≡ round_keys key
round_keys_are key k0 k1 k2 k3 k4 k5 k6 k7 k8 k9 k10 e0 e1 e2 e3 e4 e5 e6 e7 e8 e9 e10 =
    rw (e10, e9, e8, e7, e6, e5, e4, e3, e2, e1, e0) (round_keys_open key)
