-- The rounds of a cipher, one key at a time.
use Rattle.std.proofs.Common.{◌≡◌, ℕ, suc, ◌+◌, ◌-◌, ◌<◌, List, [], ◌∷◌, length, get_or, drop, map, reverse, refl, sym, ap, ◌∙◌, arith, add-one, drop-cons}
use Rattle.std.proofs.lemmas.List.{get_or-map, get_or-reverse, length-map, length-reverse, drop_all}
use Rattle.model_machine.specs.Modes.{bit_sum}
use Rattle.model_machine.specs.Aes.{rounds, round, last_round, cipher_block, inverse_cipher_block, rounds_back, round_back, last_round_back}
use Rattle.mc_aes.specs.State.{state_bytes}
use Rattle.mc_aes.specs.declared.state.State.{State}

-- ---- one round of a list of keys

pub rounds_cons : (k j : List ℕ) (ks : List (List ℕ)) (s : List ℕ) → rounds (k ∷ j ∷ ks) s ≡ rounds (j ∷ ks) (round k s)
unfolding rounds
rounds_cons k j ks s = refl

pub rounds_last : (k s : List ℕ) → rounds (k ∷ []) s ≡ last_round k s
unfolding rounds
rounds_last k s = refl

pub rounds_back_cons : (k j : List ℕ) (ks : List (List ℕ)) (s : List ℕ) → rounds_back (k ∷ j ∷ ks) s ≡ rounds_back (j ∷ ks) (round_back k s)
unfolding rounds_back
rounds_back_cons k j ks s = refl

pub rounds_back_last : (k s : List ℕ) → rounds_back (k ∷ []) s ≡ bit_sum s k
unfolding rounds_back
rounds_back_last k s = refl

pub enciphered_cons : (k : List ℕ) (ks : List (List ℕ)) (b : List ℕ) → cipher_block (k ∷ ks) b ≡ rounds ks (bit_sum b k)
unfolding cipher_block
enciphered_cons k ks b = refl

pub deciphered_cons : (k : List ℕ) (ks : List (List ℕ)) (b : List ℕ) → inverse_cipher_block (k ∷ ks) b ≡ rounds_back ks (last_round_back k b)
unfolding inverse_cipher_block
deciphered_cons k ks b = refl

-- ---- at an index of the list

two : (ls : List (List ℕ)) (i : ℕ) → suc i < length ls → drop i ls ≡ get_or ls i [] ∷ get_or ls (suc i) [] ∷ drop (suc (suc i)) ls
two ls i h = drop-cons ls i [] (omega arith) ∙ ap (λ (t : List (List ℕ)). get_or ls i [] ∷ t) (drop-cons ls (suc i) [] h)

one : (ls : List (List ℕ)) (i : ℕ) → suc i ≡ length ls → drop i ls ≡ get_or ls i [] ∷ []
one ls i h = drop-cons ls i [] (omega arith) ∙ ap (λ (t : List (List ℕ)). get_or ls i [] ∷ t) (drop_all (suc i) ls (omega arith))

rounds_drop : (ls : List (List ℕ)) (i : ℕ) (s : List ℕ) → suc i < length ls → rounds (drop (suc i) ls) (round (get_or ls i []) s) ≡ rounds (drop i ls) s
rounds_drop ls i s h =
    ap (λ (l : List (List ℕ)). rounds l (round (get_or ls i []) s)) (drop-cons ls (suc i) [] h)
    ∙ sym (rounds_cons (get_or ls i []) (get_or ls (suc i) []) (drop (suc (suc i)) ls) s)
    ∙ ap (λ (l : List (List ℕ)). rounds l s) (sym (two ls i h))

rounds_back_drop : (ls : List (List ℕ)) (i : ℕ) (s : List ℕ) → suc i < length ls → rounds_back (drop (suc i) ls) (round_back (get_or ls i []) s) ≡ rounds_back (drop i ls) s
rounds_back_drop ls i s h =
    ap (λ (l : List (List ℕ)). rounds_back l (round_back (get_or ls i []) s)) (drop-cons ls (suc i) [] h)
    ∙ sym (rounds_back_cons (get_or ls i []) (get_or ls (suc i) []) (drop (suc (suc i)) ls) s)
    ∙ ap (λ (l : List (List ℕ)). rounds_back l s) (sym (two ls i h))

-- ---- the keys of the code

module _ (keys : List State) (eleven : length keys ≡ 11) where
  key_at : (i : ℕ) (d : State) → i < 11 → get_or (map state_bytes keys) i [] ≡ state_bytes (get_or keys i d)
  key_at i d h = get_or-map state_bytes keys i d [] (omega arith)

  key_back : (i : ℕ) (d : State) → i < 11 → get_or (reverse (map state_bytes keys)) i [] ≡ state_bytes (get_or keys (10 - i) d)
  key_back i d h =
      let len : length (map state_bytes keys) ≡ 11 = length-map keys state_bytes ∙ eleven in
      let place : length (map state_bytes keys) - 1 - i ≡ 10 - i = omega arith in
      get_or-reverse (map state_bytes keys) i [] (omega arith)
      ∙ ap (λ (k : ℕ). get_or (map state_bytes keys) k []) place ∙ key_at (10 - i) d (omega arith)

  count : length (map state_bytes keys) ≡ 11
  count = length-map keys state_bytes ∙ eleven

  count_back : length (reverse (map state_bytes keys)) ≡ 11
  count_back = length-reverse (map state_bytes keys) ∙ count

  pub encipher_init : (d : State) (b s : List ℕ) → s ≡ bit_sum b (state_bytes (get_or keys 0 d)) → rounds (drop 1 (map state_bytes keys)) s ≡ cipher_block (map state_bytes keys) b
  encipher_init d b s e =
      let l : List (List ℕ) = map state_bytes keys in
      let c : length l ≡ 11 = count in
      ap (rounds (drop 1 l)) (e ∙ ap (bit_sum b) (sym (key_at 0 d (omega arith))))
      ∙ sym (enciphered_cons (get_or l 0 []) (drop 1 l) b) ∙ ap (λ (x : List (List ℕ)). cipher_block x b) (sym (drop-cons l 0 [] (omega arith)))

  pub encipher_step : (i : ℕ) (d : State) (s t e : List ℕ) → i < 10 → rounds (drop i (map state_bytes keys)) s ≡ e → t ≡ round (state_bytes (get_or keys i d)) s
      → rounds (drop (i + 1) (map state_bytes keys)) t ≡ e
  encipher_step i d s t e h same is =
      let l : List (List ℕ) = map state_bytes keys in
      let c : length l ≡ 11 = count in
      rw add-one (ap (rounds (drop (suc i) l)) (is ∙ ap (λ (k : List ℕ). round k s) (sym (key_at i d (omega arith)))) ∙ rounds_drop l i s (omega arith) ∙ same)

  pub encipher_end : (i : ℕ) (d : State) (s t e : List ℕ) → i ≡ 10 → rounds (drop i (map state_bytes keys)) s ≡ e → t ≡ last_round (state_bytes (get_or keys 10 d)) s → t ≡ e
  encipher_end i d s t e h same is =
      let l : List (List ℕ) = map state_bytes keys in
      let c : length l ≡ 11 = count in
      is ∙ ap (λ (k : List ℕ). last_round k s) (sym (key_at 10 d (omega arith))) ∙ sym (rounds_last (get_or l 10 []) s)
      ∙ ap (λ (x : List (List ℕ)). rounds x s) (sym (one l 10 (omega arith))) ∙ ap (λ (k : ℕ). rounds (drop k l) s) (sym h) ∙ same

  pub decipher_init : (d : State) (b s : List ℕ) → s ≡ last_round_back (state_bytes (get_or keys 10 d)) b
      → rounds_back (drop 1 (reverse (map state_bytes keys))) s ≡ inverse_cipher_block (reverse (map state_bytes keys)) b
  decipher_init d b s e =
      let l : List (List ℕ) = reverse (map state_bytes keys) in
      let c : length l ≡ 11 = count_back in
      ap (rounds_back (drop 1 l)) (e ∙ ap (λ (k : List ℕ). last_round_back k b) (sym (key_back 0 d (omega arith))))
      ∙ sym (deciphered_cons (get_or l 0 []) (drop 1 l) b) ∙ ap (λ (x : List (List ℕ)). inverse_cipher_block x b) (sym (drop-cons l 0 [] (omega arith)))

  pub decipher_step : (i : ℕ) (d : State) (s t e : List ℕ) → i < 10 → rounds_back (drop i (reverse (map state_bytes keys))) s ≡ e → t ≡ round_back (state_bytes (get_or keys (10 - i) d)) s
      → rounds_back (drop (i + 1) (reverse (map state_bytes keys))) t ≡ e
  decipher_step i d s t e h same is =
      let l : List (List ℕ) = reverse (map state_bytes keys) in
      let c : length l ≡ 11 = count_back in
      rw add-one (ap (rounds_back (drop (suc i) l)) (is ∙ ap (λ (k : List ℕ). round_back k s) (sym (key_back i d (omega arith)))) ∙ rounds_back_drop l i s (omega arith) ∙ same)

  pub decipher_end : (i : ℕ) (d : State) (s t e : List ℕ) → i ≡ 10 → rounds_back (drop i (reverse (map state_bytes keys))) s ≡ e → t ≡ bit_sum s (state_bytes (get_or keys 0 d)) → t ≡ e
  decipher_end i d s t e h same is =
      let l : List (List ℕ) = reverse (map state_bytes keys) in
      let c : length l ≡ 11 = count_back in
      is ∙ ap (bit_sum s) (sym (key_back 10 d (omega arith))) ∙ sym (rounds_back_last (get_or l 10 []) s)
      ∙ ap (λ (x : List (List ℕ)). rounds_back x s) (sym (one l 10 (omega arith))) ∙ ap (λ (k : ℕ). rounds_back (drop k l) s) (sym h) ∙ same
