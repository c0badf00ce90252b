-- One step through the target words and the values of the journal of layout 2.
use Rattle.std.proofs.Common.{◌≡◌, ℕ, suc, ◌+◌, ◌-◌, ◌*◌, ◌<◌, List, [], ◌∷◌, length, take, drop, get_or, sym, ◌∙◌, ap, arith, drop-drop}
use Rattle.mc_words.specs.model_device.specs.Stopped.{target_words, values_2, four_targets}
use Rattle.mc_words.specs.model_device.proofs.JournalLemmas.{pair_step}

-- the values from pair i on are its value and those after it
pub value_step : (list : List (ℕ × List ℕ)) (i : ℕ) → i < length list → values_2 i (drop i list) ≡ (19 + i, (get_or list i (0, [])).1) ∷ values_2 (i + 1) (drop (i + 1) list)
value_step list i lt = ap (λ (l : List (ℕ × List ℕ)). values_2 i l) (pair_step list i lt)

-- n target words are word 3 + i and the n - 1 after it
target_words_suc : (i k n : ℕ) (ts : List ℕ) → n ≡ suc k → target_words i n ts ≡ (3 + i, four_targets (take 4 ts)) ∷ target_words (i + 1) k (drop 4 ts)
target_words_suc i k n ts e = ap (λ (t : ℕ). target_words i t ts) e

-- the target words from word 3 + i on
pub target_step : (i n : ℕ) (ts : List ℕ) → i < n → target_words i (n - i) (drop (4 * i) ts) ≡ (3 + i, four_targets (take 4 (drop (4 * i) ts))) ∷ target_words (i + 1) (n - (i + 1)) (drop (4 * (i + 1)) ts)
target_step i n ts lt =
    target_words_suc i (n - (i + 1)) (n - i) (drop (4 * i) ts) (omega arith)
    ∙ ap (λ (l : List ℕ). (3 + i, four_targets (take 4 (drop (4 * i) ts))) ∷ target_words (i + 1) (n - (i + 1)) l) (drop-drop 4 (4 * i) ts ∙ ap (λ (t : ℕ). drop t ts) (let e : 4 * i + 4 ≡ 4 * (i + 1) = omega arith in e))

-- the target words from word 3 + i on, if it is known
pub target_step_at : (i n : ℕ) (ts word : List ℕ) → i < n → word ≡ four_targets (take 4 (drop (4 * i) ts))
    → target_words i (n - i) (drop (4 * i) ts) ≡ (3 + i, word) ∷ target_words (i + 1) (n - (i + 1)) (drop (4 * (i + 1)) ts)
target_step_at i n ts word lt e =
    target_step i n ts lt ∙ ap (λ (w : List ℕ). (3 + i, w) ∷ target_words (i + 1) (n - (i + 1)) (drop (4 * (i + 1)) ts)) (sym e)
