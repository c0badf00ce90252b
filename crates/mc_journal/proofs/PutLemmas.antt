-- One step through the entries of the journal of layout 1.
use Rattle.std.proofs.Common.{◌≡◌, ℕ, ◌+◌, ◌*◌, ◌<◌, List, [], ◌∷◌, ◌++◌, length, drop, get_or, ap}
use Rattle.mc_words.specs.model_device.specs.Stopped.{entries_1, word_of_number}
use Rattle.mc_words.specs.model_device.proofs.JournalLemmas.{pair_step}

-- the entries from pair i on are its target word, its value and those after them
pub entry_step : (list : List (ℕ × List ℕ)) (i : ℕ) → i < length list
    → entries_1 i (drop i list) ≡ ((3 + 2 * i, word_of_number (get_or list i (0, [])).0) ∷ (4 + 2 * i, (get_or list i (0, [])).1) ∷ []) ++ entries_1 (i + 1) (drop (i + 1) list)
entry_step list i lt = ap (λ (l : List (ℕ × List ℕ)). entries_1 i l) (pair_step list i lt)
