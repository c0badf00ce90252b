-- The first run of words.
use Rattle.std.proofs.Common.{take, length-drop}
use Rattle.std.specs.Prelude.{◌≡◌, ◌++◌, ℕ, zero, suc, ◌+◌, ◌-◌, ◌<◌, ◌≤◌, ◌⊎◌, Bool, true, false, cond, List, [], ◌∷◌, length, drop, get_or, refl}
use Rattle.std.proofs.Common.{arith, ap, sym, subst, inl, inr, ◌∙◌}
use Rattle.mc_lab.specs.Sweeps.{Run, is_word, with_write, runs, run_text, runs_text}
use Rattle.mc_lab.specs.declared.sweep_word.SweepWord.{SweepWord}
use Rattle.mc_lab.specs.declared.sweep_word.SweepWord.TheVariants.{Before}
use Rattle.std.proofs.lemmas.Bool.{cases_lt}
use Rattle.mc_lab.proofs.SweepRuns.{word_itself, with_same}

-- a write before a write of another word begins a run of its own
apart_if : (k : ℕ) (w : SweepWord) (r : Run) (rs : List Run) (b : Bool) → b ≡ false → cond b (record r { first = k } ∷ rs) (record { first = k; last = k; word = w } ∷ r ∷ rs) ≡ record { first = k; last = k; word = w } ∷ r ∷ rs
apart_if k w r rs true h = absurd (cc h)
apart_if k w r rs false h = refl

one_word : (v w : SweepWord) → is_word v w ≡ true → v ≡ w
one_word v w h = grind arith

other_by : (j k : ℕ) (w v : SweepWord) (r : Run) (rs : List Run) → is_word w v ≡ false → (b : Bool) → is_word v r.word ≡ b
    → with_write k w (cond b (record r { first = j } ∷ rs) (record { first = j; last = j; word = v } ∷ r ∷ rs)) ≡ record { first = k; last = k; word = w } ∷ cond b (record r { first = j } ∷ rs) (record { first = j; last = j; word = v } ∷ r ∷ rs)
other_by j k w v r rs h true e = apart_if k w (record r { first = j }) rs (is_word w r.word) (ap (λ (x : SweepWord). is_word w x) (sym (one_word v r.word e)) ∙ h)
other_by j k w v r rs h false e = apart_if k w (record { first = j; last = j; word = v }) (r ∷ rs) (is_word w v) h

before_other : (j k : ℕ) (w v : SweepWord) (rs : List Run) → is_word w v ≡ false → with_write k w (with_write j v rs) ≡ record { first = k; last = k; word = w } ∷ with_write j v rs
before_other j k w v [] h = apart_if k w (record { first = j; last = j; word = v }) [] (is_word w v) h
before_other j k w v (r ∷ rs) h = other_by j k w v r rs h (is_word v r.word) refl

-- the word after the first `n` words is another one, or there is none
abbrev pub RunEnds : List SweepWord → ℕ → SweepWord → Type 0
RunEnds ws n w = (length ws ≤ n) ⊎ (is_word w (get_or ws n Before) ≡ false)

-- the first `n` words are equal to this one
abbrev pub Fronts : List SweepWord → ℕ → SweepWord → Type 0
Fronts ws n w = (i : ℕ) → i < n → is_word w (get_or ws i Before) ≡ true

-- one more word
pub fronts_more : (ws : List SweepWord) (n : ℕ) (w : SweepWord) → Fronts ws n w → is_word w (get_or ws n Before) ≡ true → Fronts ws (n + 1) w
fronts_more ws n w all here i lt = grind (arith, cases_lt)

-- the first word is the same as itself
pub fronts_one : (ws : List SweepWord) → Fronts ws 1 (get_or ws 0 Before)
fronts_one ws zero lt = word_itself (get_or ws 0 Before)
fronts_one ws (suc i) lt = absurd (omega arith)

first_run : (k : ℕ) (w : SweepWord) (ws : List SweepWord) → RunEnds (w ∷ ws) 1 w → runs k (w ∷ ws) ≡ record { first = k; last = k; word = w } ∷ runs (k + 1) ws
first_run k w [] h = refl
first_run k w (v ∷ vs) (inl short) = absurd (omega arith)
first_run k w (v ∷ vs) (inr other) = before_other (k + 1) k w v (runs (k + 1 + 1) vs) other

later : (vs : List SweepWord) (n : ℕ) (w v : SweepWord) → RunEnds (v ∷ vs) (suc (suc n)) w → RunEnds vs (suc n) w
later vs n w v (inl short) = inl (omega arith)
later vs n w v (inr other) = inr other

-- the first `n` words are equal, and the next one is not
pub runs_front : (n k : ℕ) (w : SweepWord) (ws : List SweepWord) → suc n ≤ length ws → Fronts ws (suc n) w → RunEnds ws (suc n) w
    → runs k ws ≡ record { first = k; last = k + n; word = w } ∷ runs (k + suc n) (drop (suc n) ws)
runs_front n k w [] in_list same ends = absurd (omega arith)
runs_front zero k w (v ∷ vs) in_list same ends =
    let e : w ≡ v = one_word w v (same 0 (omega arith)) in
    subst (λ (x : SweepWord). runs k (x ∷ vs) ≡ record { first = k; last = k + 0; word = w } ∷ runs (k + 1) vs) e
    (first_run k w vs (subst (λ (x : SweepWord). RunEnds (x ∷ vs) 1 w) (sym e) ends) ∙ ap (λ (i : ℕ). record { first = k; last = i; word = w } ∷ runs (k + 1) vs) (let f : k ≡ k + 0 = omega arith in f))
runs_front (suc n) k w (v ∷ vs) in_list same ends =
    let e : w ≡ v = one_word w v (same 0 (omega arith)) in
    ap (λ (rs : List Run). with_write k v rs) (runs_front n (k + 1) w vs (omega arith) (λ i h. same (suc i) (omega arith)) (later vs n w v ends))
    ∙ with_same k (k + 1 + n) v w (runs (k + 1 + suc n) (drop (suc n) vs)) (sym e)
    ∙ ap (λ (i : ℕ). record { first = k; last = i; word = w } ∷ runs (k + 1 + suc n) (drop (suc n) vs)) (let f : k + 1 + n ≡ k + suc n = omega arith in f)
    ∙ ap (λ (i : ℕ). record { first = k; last = k + suc n; word = w } ∷ runs i (drop (suc n) vs)) (let f : k + 1 + suc n ≡ k + suc (suc n) = omega arith in f)

-- the first run, by its length
pub runs_len : (n k : ℕ) (ws : List SweepWord) → 1 ≤ n → n ≤ length ws → Fronts ws n (get_or ws 0 Before) → RunEnds ws n (get_or ws 0 Before)
    → runs k ws ≡ record { first = k; last = k + n - 1; word = get_or ws 0 Before } ∷ runs (k + n) (drop n ws)
runs_len zero k ws low high same ends = absurd (omega arith)
runs_len (suc n) k ws low high same ends =
    runs_front n k (get_or ws 0 Before) ws high same ends
    ∙ ap (λ (i : ℕ). record { first = k; last = i; word = get_or ws 0 Before } ∷ runs (k + suc n) (drop (suc n) ws)) (let f : k + n ≡ k + suc n - 1 = omega arith in f)

-- ---- the rest of the runs

drop_all : (ws : List SweepWord) (n : ℕ) → length ws ≤ n → drop n ws ≡ []
drop_all [] zero h = refl
drop_all [] (suc n) h = refl
drop_all (w ∷ ws) zero h = absurd (omega arith)
drop_all (w ∷ ws) (suc n) h = drop_all ws n (omega arith)

drop_twice : (n m : ℕ) (ws : List SweepWord) → drop m (drop n ws) ≡ drop (n + m) ws
drop_twice zero m ws = ap (λ (i : ℕ). drop i ws) (let e : m ≡ 0 + m = omega arith in e)
drop_twice (suc n) m [] = drop_all [] m (omega arith) ∙ sym (drop_all [] (suc n + m) (omega arith))
drop_twice (suc n) m (w ∷ ws) = drop_twice n m ws ∙ ap (λ (i : ℕ). drop i (w ∷ ws)) (let e : suc (n + m) ≡ suc n + m = omega arith in e)

first_left : (n : ℕ) (ws : List SweepWord) → get_or (drop n ws) 0 Before ≡ get_or ws n Before
first_left zero ws = refl
first_left (suc n) [] = refl
first_left (suc n) (w ∷ ws) = first_left n ws

take_whole : (l : List SweepWord) → take (length l) l ≡ l
take_whole [] = refl
take_whole (x ∷ xs) = ap (λ (l : List SweepWord). x ∷ l) (take_whole xs)

rest_is : (ws : List SweepWord) (n : ℕ) → take (length ws - n) (drop n ws) ≡ drop n ws
rest_is ws n = subst (λ (m : ℕ). take m (drop n ws) ≡ drop n ws) (length-drop n ws) (take_whole (drop n ws))

-- the text of the rest begins with that of its first run
pub rest_text : (n m : ℕ) (ws : List SweepWord) → 1 ≤ m
    → runs (1 + n) (take (length ws - n) (drop n ws)) ≡ record { first = 1 + n; last = 1 + n + m - 1; word = get_or (take (length ws - n) (drop n ws)) 0 Before } ∷ runs (1 + n + m) (drop m (take (length ws - n) (drop n ws)))
    → runs_text (runs (1 + n) (drop n ws)) ≡ run_text (record { first = n + 1; last = n + m; word = get_or ws n Before }) ++ runs_text (runs (1 + (n + m)) (drop (n + m) ws))
rest_text n m ws low h = grind (arith, rest_is, first_left, drop_twice)

-- no runs are left
pub no_text : (n k : ℕ) (ws : List SweepWord) → length ws ≤ n → [] ≡ runs_text (runs k (drop n ws))
no_text n k ws h = ap (λ (l : List SweepWord). runs_text (runs k l)) (sym (drop_all ws n h))
