-- One step of reading the pairs of a journal, of either layout.
use Rattle.std.proofs.Common.{◌≡◌, ℕ, ◌+◌, ◌<◌, ◌≤◌, List, [], ◌∷◌, ◌++◌, length, drop, get_or, refl, sym, ◌∙◌, ap, drop-cons, add-one, append_assoc}
use Rattle.std.proofs.lemmas.List.{drop_all, append-nil}
use Rattle.mc_words.specs.model_device.specs.Image.{Journal, One, Two, word_at, value, pairs}
use Rattle.mc_gate.specs.Layouts.{place_of_value}

-- a value is the word in its place
value_is : (j : Journal) (m : List (List ℕ)) (i : ℕ) → value j m i ≡ word_at m (place_of_value j i)
value_is One m i = refl
value_is Two m i = refl

-- what was read there is the value
pub read_value : (j : Journal) (m : List (List ℕ)) (i p : ℕ) (w : List ℕ) → w ≡ word_at m p → p ≡ place_of_value j i → w ≡ value j m i
read_value j m i p w e h = e ∙ ap (λ (q : ℕ). word_at m q) h ∙ sym (value_is j m i)

-- the pairs from pair i on are the pair of its target and those after it
pairs_cons : (j : Journal) (m : List (List ℕ)) (i t : ℕ) (ts us : List ℕ) → us ≡ t ∷ ts → pairs j m i us ≡ (t, value j m i) ∷ pairs j m (i + 1) ts
unfolding pairs
pairs_cons j m i t ts us e = ap (λ (l : List ℕ). pairs j m i l) e

-- pair i was read
pub pairs_on : (j : Journal) (m : List (List ℕ)) (i : ℕ) (ts : List ℕ) (whole items found : List (ℕ × List ℕ)) (w : List ℕ) → i < length ts → whole ≡ items ++ pairs j m i (drop i ts) → w ≡ value j m i
    → found ≡ items ++ (get_or ts i 0, w) ∷ [] → whole ≡ found ++ pairs j m (i + 1) (drop (i + 1) ts)
pairs_on j m i ts whole items found w lt hw h hf =
    hw ∙ ap (λ (l : List (ℕ × List ℕ)). items ++ l) (pairs_cons j m i (get_or ts i 0) (drop (i + 1) ts) (drop i ts) (rw (add-one) (drop-cons ts i 0 lt)))
    ∙ ap (λ (x : List ℕ). items ++ ((get_or ts i 0, x) ∷ pairs j m (i + 1) (drop (i + 1) ts))) (sym h)
    ∙ sym (append_assoc items ((get_or ts i 0, w) ∷ []) (pairs j m (i + 1) (drop (i + 1) ts)))
    ∙ ap (λ (l : List (ℕ × List ℕ)). l ++ pairs j m (i + 1) (drop (i + 1) ts)) (sym hf)

-- without targets there are no pairs
pairs_none : (j : Journal) (m : List (List ℕ)) (i : ℕ) (us : List ℕ) → us ≡ [] → pairs j m i us ≡ []
unfolding pairs
pairs_none j m i us e = ap (λ (l : List ℕ). pairs j m i l) e

-- all pairs were read
pub pairs_end : (j : Journal) (m : List (List ℕ)) (i : ℕ) (ts : List ℕ) (whole items : List (ℕ × List ℕ)) → length ts ≤ i → whole ≡ items ++ pairs j m i (drop i ts) → items ≡ whole
pairs_end j m i ts whole items le h =
    sym (h ∙ ap (λ (l : List (ℕ × List ℕ)). items ++ l) (pairs_none j m i (drop i ts) (drop_all i ts le)) ∙ append-nil items)
