-- The runs of writes with known words.
use Rattle.std.specs.Prelude.{◌≡◌, ℕ, zero, suc, ◌+◌, ◌<◌, ◌≤◌, Bool, true, false, cond, List, [], ◌∷◌, map}
use Rattle.std.specs.List.{AllByRecursion}
use Rattle.std.proofs.Common.{arith, ap, inl, inr, ◌∙◌}
use Rattle.std.proofs.lemmas.Bool.{cases_lt}
use Rattle.mc_lab.specs.Sweeps.{Tried, count_from, Run, is_word, with_write, runs}
use Rattle.mc_lab.specs.declared.sweep_word.SweepWord.{SweepWord}
use Rattle.mc_lab.specs.declared.sweep_word.SweepWord.TheVariants.{Before, After}

-- a word is the same as itself
pub word_itself : (w : SweepWord) → is_word w w ≡ true
word_itself w = grind arith

-- the words of some writes
abbrev pub words : List Tried → List SweepWord
words ts = map (λ t. t.word) ts

-- ---- a property of each write is one of each run

module _ (P : SweepWord → Type 0) where
  joined_all : (b : Bool) (k : ℕ) (w : SweepWord) (r : Run) (rs : List Run) → P w → P r.word → AllByRecursion (λ r. P r.word) rs
      → AllByRecursion (λ r. P r.word) (cond b (record r { first = k } ∷ rs) (record { first = k; last = k; word = w } ∷ r ∷ rs))
  joined_all true k w r rs here first rest = (first, rest)
  joined_all false k w r rs here first rest = (here, (first, rest))

  with_all : (k : ℕ) (w : SweepWord) (rs : List Run) → P w → AllByRecursion (λ r. P r.word) rs → AllByRecursion (λ r. P r.word) (with_write k w rs)
  with_all k w [] here all = (here, tt)
  with_all k w (r ∷ rs) here all = joined_all (is_word w r.word) k w r rs here all.0 all.1

  -- a property of each write is one of each run
  pub all_runs : (k : ℕ) (ts : List Tried) → AllByRecursion (λ t. P t.word) ts → AllByRecursion (λ r. P r.word) (runs k (words ts))
  all_runs k [] all = tt
  all_runs k (t ∷ ts) all = with_all k t.word (runs (k + 1) (words ts)) all.0 (all_runs (k + 1) ts all.1)

-- a property of each number is one of each number that is counted
pub all_counted : {A : Type 0} (Q : A → Type 0) (f : ℕ → A) (k n : ℕ) → ((j : ℕ) → k ≤ j → j < k + n → Q (f j)) → AllByRecursion Q (map f (count_from k n))
all_counted Q f k zero h = tt
all_counted Q f k (suc n) h = (h k (omega arith) (omega arith), all_counted Q f (k + 1) n (λ j low high. h j (omega arith) (omega arith)))

-- ---- writes of one word, and of two

-- a write with the word of the run before it makes that run longer
pub with_same : (k last : ℕ) (v w : SweepWord) (rs : List Run) → v ≡ w → with_write k v (record { first = k + 1; last = last; word = w } ∷ rs) ≡ record { first = k; last = last; word = w } ∷ rs
with_same k last v w rs e = grind (arith, word_itself)

module _ (f : ℕ → Tried) where
  -- writes of one word are one run
  pub runs_all : (w : SweepWord) (n k : ℕ) → ((j : ℕ) → k ≤ j → j < k + suc n → (f j).word ≡ w) → runs k (words (map f (count_from k (suc n)))) ≡ record { first = k; last = k + n; word = w } ∷ []
  runs_all w zero k h = grind arith
  runs_all w (suc n) k h =
      ap (λ (rs : List Run). with_write k (f k).word rs) (runs_all w n (k + 1) (λ j low high. h j (omega arith) (omega arith)))
      ∙ with_same k (k + 1 + n) (f k).word w [] (h k (omega arith) (omega arith))
      ∙ ap (λ (i : ℕ). record { first = k; last = i; word = w } ∷ []) (let e : k + 1 + n ≡ k + suc n = omega arith in e)

  -- writes up to `g` are `before`, and the writes after it are `after`
  pub runs_split : (n k g : ℕ) → k ≤ g → g < k + n → ((j : ℕ) → k ≤ j → j ≤ g → (f j).word ≡ Before) → ((j : ℕ) → g < j → j < k + suc n → (f j).word ≡ After)
      → runs k (words (map f (count_from k (suc n)))) ≡ record { first = k; last = g; word = Before } ∷ record { first = g + 1; last = k + n; word = After } ∷ []
  runs_split zero k g low high before after = absurd (omega arith)
  runs_split (suc n) k g low high before after = elim (cases_lt k g) [
    | inl later ↦
        ap (λ (rs : List Run). with_write k (f k).word rs) (runs_split n (k + 1) g (omega arith) (omega arith) (λ j l h. before j (omega arith) h) (λ j l h. after j l (omega arith)))
        ∙ with_same k g (f k).word Before (record { first = g + 1; last = k + 1 + n; word = After } ∷ []) (before k (omega arith) low)
        ∙ ap (λ (i : ℕ). record { first = k; last = g; word = Before } ∷ record { first = g + 1; last = i; word = After } ∷ []) (let e : k + 1 + n ≡ k + suc n = omega arith in e)
    | inr here ↦
        let is : k ≡ g = omega arith in
        ap (λ (rs : List Run). with_write k (f k).word rs) (runs_all After n (k + 1) (λ j l h. after j (omega arith) (omega arith)))
        ∙ ap (λ (w : SweepWord). with_write k w (record { first = k + 1; last = k + 1 + n; word = After } ∷ [])) (before k (omega arith) low)
        ∙ ap (λ (i : ℕ). record { first = k; last = k; word = Before } ∷ record { first = k + 1; last = i; word = After } ∷ []) (let e : k + 1 + n ≡ k + suc n = omega arith in e)
        ∙ ap (λ (i : ℕ). record { first = k; last = i; word = Before } ∷ record { first = i + 1; last = k + suc n; word = After } ∷ []) is
  ]
