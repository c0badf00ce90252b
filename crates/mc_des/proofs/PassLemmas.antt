-- A block through one cipher or several: after the initial permutation they are the rounds alone, since the
-- permutations between two of them are inverse.
use Rattle.std.proofs.Common.{◌≡◌, ℕ, List, length, refl, sym, ap, ◌∙◌}
use Rattle.std.specs.Int.{w64, to_be_bytes}
use Rattle.model_machine.specs.Des.{bits, bytes_of, pick, initial, final, with_keys, des_block}
use Rattle.mc_des.specs.Words.{block_after_rounds}
use Rattle.mc_des.proofs.BitsLemmas.{length_bits, length_pick}
use Rattle.mc_des.proofs.BlockLemmas.{bytes_of_bits, ciphered_open}
use Rattle.mc_des.proofs.LawsLemmas.{bits_low, pick_low, bits_of_bytes_of, final_initial, initial_final, length_final}

with_keys_passed : (ks : List (List ℕ)) (block : List ℕ) → with_keys ks block ≡ pick final (block_after_rounds ks (pick initial block))
unfolding with_keys block_after_rounds
with_keys_passed ks block = refl

entered : (block start : ℕ) → bits 64 start ≡ pick initial (bits 64 block) → bytes_of 8 (pick final (bits 64 start)) ≡ to_be_bytes w64 block
entered block start e =
    ap (λ (l : List ℕ). bytes_of 8 (pick final l)) e ∙ ap (bytes_of 8) (final_initial (bits 64 block) (length_bits 64 block)) ∙ bytes_of_bits block

left : (last result : ℕ) → bits 64 result ≡ pick final (bits 64 last) → to_be_bytes w64 result ≡ bytes_of 8 (pick final (bits 64 last))
left last result e = sym (bytes_of_bits result) ∙ ap (bytes_of 8) e

-- the rounds of a permuted block are the cipher of the block's bytes
pass : (ks : List (List ℕ)) (word next : ℕ) → bits 64 next ≡ block_after_rounds ks (bits 64 word)
    → bytes_of 8 (pick final (bits 64 next)) ≡ des_block ks (bytes_of 8 (pick final (bits 64 word)))
pass ks word next e =
    let block : List ℕ = pick final (bits 64 word) in
    let size : length block ≡ 64 = length_pick final (bits 64 word) ∙ length_final in
    ap (λ (l : List ℕ). bytes_of 8 (pick final l)) (e ∙ ap (block_after_rounds ks) (sym (initial_final (bits 64 word) (length_bits 64 word))))
    ∙ ap (bytes_of 8) (sym (with_keys_passed ks block) ∙ ap (with_keys ks) (sym (bits_of_bytes_of 8 block size (pick_low final (bits 64 word) (bits_low 64 word)))))
    ∙ sym (ciphered_open ks (bytes_of 8 block))

pub once_is : (ks : List (List ℕ)) (block start last result : ℕ) → bits 64 start ≡ pick initial (bits 64 block) → bits 64 last ≡ block_after_rounds ks (bits 64 start)
    → bits 64 result ≡ pick final (bits 64 last) → to_be_bytes w64 result ≡ des_block ks (to_be_bytes w64 block)
once_is ks block start last result es el er = left last result er ∙ pass ks start last el ∙ ap (des_block ks) (entered block start es)

pub thrice_is : (outer inner : List (List ℕ)) (block start first second last result : ℕ) → bits 64 start ≡ pick initial (bits 64 block)
    → bits 64 first ≡ block_after_rounds outer (bits 64 start) → bits 64 second ≡ block_after_rounds inner (bits 64 first) → bits 64 last ≡ block_after_rounds outer (bits 64 second)
    → bits 64 result ≡ pick final (bits 64 last) → to_be_bytes w64 result ≡ des_block outer (des_block inner (des_block outer (to_be_bytes w64 block)))
thrice_is outer inner block start first second last result es e1 e2 e3 er =
    left last result er ∙ pass outer second last e3
    ∙ ap (des_block outer) (pass inner first second e2 ∙ ap (des_block inner) (pass outer start first e1 ∙ ap (des_block outer) (entered block start es)))
