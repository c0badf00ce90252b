-- One step of reading the targets of the journal of layout 1, a target word for each pair.
use Rattle.std.proofs.Common.{◌≡◌, ℕ, suc, ◌+◌, ◌-◌, ◌*◌, ◌<◌, List, [], ◌∷◌, ◌++◌, length, Option, Some, None, Result, Ok, Err, ◌∙◌, ap, arith}
use Rattle.mc_words.specs.model_device.specs.Image.{word_at, number, within, before, one_before, targets_1}
use Rattle.mc_words.specs.model_device.proofs.JournalLemmas.{read_on, read_bad, read_all}

-- n targets are the target of pair i and the n - 1 after it
one_more : (m : List (List ℕ)) (i n k : ℕ) → n ≡ suc k → targets_1 m i n ≡ one_before (number (within (length m)) (word_at m (3 + 2 * i))) (3 + 2 * i) (targets_1 m (i + 1) k)
unfolding targets_1
one_more m i n k e = ap (λ (t : ℕ). targets_1 m i t) e

-- the targets from pair i on, by what its target word holds
left_by : (m : List (List ℕ)) (count i : ℕ) (o : Option ℕ) → i < count → number (within (length m)) (word_at m (3 + 2 * i)) ≡ o
    → targets_1 m i (count - i) ≡ one_before o (3 + 2 * i) (targets_1 m (i + 1) (count - (i + 1)))
left_by m count i o lt h =
    one_more m i (count - i) (count - (i + 1)) (omega arith) ∙ ap (λ (o : Option ℕ). one_before o (3 + 2 * i) (targets_1 m (i + 1) (count - (i + 1)))) h

-- the target of pair i was read
pub targets_on : (m : List (List ℕ)) (count i t : ℕ) (whole : Result (List ℕ) ℕ) (items found : List ℕ) → i < count → whole ≡ before items (targets_1 m i (count - i))
    → number (within (length m)) (word_at m (3 + 2 * i)) ≡ Some t → found ≡ items ++ t ∷ [] → whole ≡ before found (targets_1 m (i + 1) (count - (i + 1)))
targets_on m count i t whole items found lt hw h hf =
    read_on items (t ∷ []) found (targets_1 m i (count - i)) (targets_1 m (i + 1) (count - (i + 1))) whole hw (left_by m count i (Some t) lt h) hf

-- the target word of pair i is bad
pub targets_bad : (m : List (List ℕ)) (count i : ℕ) (whole : Result (List ℕ) ℕ) (items : List ℕ) → i < count → whole ≡ before items (targets_1 m i (count - i))
    → number (within (length m)) (word_at m (3 + 2 * i)) ≡ None → whole ≡ Err (3 + 2 * i)
targets_bad m count i whole items lt hw h = read_bad items (3 + 2 * i) (targets_1 m i (count - i)) whole hw (left_by m count i None lt h)

-- no target is left
none_left : (m : List (List ℕ)) (i n : ℕ) → n ≡ 0 → targets_1 m i n ≡ Ok []
unfolding targets_1
none_left m i n e = ap (λ (t : ℕ). targets_1 m i t) e

-- all targets were read
pub targets_end : (m : List (List ℕ)) (i n : ℕ) (whole : Result (List ℕ) ℕ) (items : List ℕ) → n ≡ 0 → whole ≡ before items (targets_1 m i n) → whole ≡ Ok items
targets_end m i n whole items e h = read_all items (targets_1 m i n) whole h (none_left m i n e)
