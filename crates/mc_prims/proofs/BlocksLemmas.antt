-- Messages that are enciphered or deciphered block by block in place.
use Rattle.std.proofs.Common.{◌≡◌, ℕ, suc, ◌+◌, ◌≤◌, List, ◌++◌, length, take, drop, ap, sym, ◌∙◌, arith, subst, append_assoc}
use Rattle.std.proofs.lemmas.List.{drop-drop}
use Rattle.std.proofs.lemmas.Slice.{take-put_mid, drop-put_mid}
use borrow.Rule.Slice.PartMut.{put_mid}
use Rattle.model_machine.specs.Modes.{blocks_of, each}

-- one more block, which begins at a, is done
pub each_step : (f : List ℕ → List ℕ) (size k a j q : ℕ) (l b e : List ℕ) → j ≡ size → q ≡ a + size → a + size ≤ length l → length b ≡ size → b ≡ f (take j (drop a l))
    → take a l ++ each f (blocks_of (suc k) size (drop a l)) ≡ e
    → take q (put_mid a j l b) ++ each f (blocks_of k size (drop q (put_mid a j l b))) ≡ e
each_step f size k a j q l b e ej eq fits lb eb whole =
    let front : take q (put_mid a j l b) ≡ take a l ++ b = take-put_mid a j l b q (omega arith) (omega arith) in
    let back : drop q (put_mid a j l b) ≡ drop q l = drop-put_mid a j l b q (omega arith) (omega arith) (omega arith) in
    let same : b ≡ f (take size (drop a l)) = subst (λ (n : ℕ). b ≡ f (take n (drop a l))) ej eb in
    let rest : drop q l ≡ drop size (drop a l) = ap (λ (n : ℕ). drop n l) eq ∙ sym (drop-drop size a l) in
    let opened : take a l ++ (f (take size (drop a l)) ++ each f (blocks_of k size (drop size (drop a l)))) ≡ e = whole in
    ap (λ (t : List ℕ). t ++ each f (blocks_of k size (drop q (put_mid a j l b)))) front
    ∙ ap (λ (t : List ℕ). (take a l ++ b) ++ each f (blocks_of k size t)) (back ∙ rest)
    ∙ append_assoc (take a l) b (each f (blocks_of k size (drop size (drop a l))))
    ∙ ap (λ (t : List ℕ). take a l ++ (t ++ each f (blocks_of k size (drop size (drop a l))))) same
    ∙ opened
