-- The laws of sweeps, from the words of each write.
use Rattle.std.specs.Prelude.{◌≡◌, ◌≢◌, ℕ, suc, ◌+◌, ◌-◌, ◌≤◌, Bool, true, false, List, [], ◌∷◌, ◌++◌, map, refl}
use Rattle.std.specs.List.{AllByRecursion}
use Rattle.std.proofs.Common.{arith, ap, sym, subst, inl, inr, ◌∙◌}
use Rattle.std.proofs.lemmas.Bool.{cases_lt}
use Rattle.law_explore.specs.model_play.specs.DeckGrammar.{DeckLine}
use Rattle.mc_lab.specs.Sweeps.{state_after_power, word_by, count_from, runs, writes_behind, Tried, cut_write, Swept, line_sweep, is_swept, sweeps_with, sweep_behind, sweep, names_from}
use Rattle.mc_lab.specs.declared.sweep_word.SweepWord.{SweepWord}
use Rattle.mc_lab.specs.declared.sweep_word.SweepWord.TheVariants.{Same, Between, Torn}
use Rattle.mc_lab.specs.SweepLaws.{changing_behind, opening_behind, all_of, split_at, NotTorn, BetweenChanges, SplitsAtGate, StaysSame, EachSwept, NeverTorn, OfEach}
use Rattle.mc_lab.proofs.SweepRuns.{words, all_runs, all_counted, runs_all, runs_split}
use Rattle.mc_lab.proofs.SweepReported.{SweptAt, swept_at, word_reported, word_none, splits_line}

never_torn_word : (a b : Bool) → word_by a b ≢ Torn
never_torn_word a b h = grind arith

module _ (names : List (List ℕ)) (front : List (ℕ × DeckLine)) (l : ℕ × DeckLine) where
  abbrev write : ℕ → Tried
  write k = cut_write names front l (state_after_power names front) (state_after_power names (front ++ l ∷ [])) k

  -- a property of each word is one of each run
  each_run : (P : SweepWord → Type 0) → ((k : ℕ) → 1 ≤ k → k ≤ writes_behind front l → P (write k).word) → AllByRecursion (λ r. P r.word) (runs 1 (line_sweep names front l).words)
  unfolding line_sweep
  each_run P h = all_runs P 1 (map write (count_from 1 (writes_behind front l))) (all_counted (λ t. P t.word) write 1 (writes_behind front l) (λ k low high. h k low (omega arith)))

  not_torn : SweptAt front l → NotTorn (line_sweep names front l)
  not_torn at = each_run (λ w. w ≢ Torn) (λ k low high e. never_torn_word _ _ (sym (word_reported names front l at k low high) ∙ e))

  stays_same : SweptAt front l → StaysSame names front l
  unfolding line_sweep
  stays_same at none =
      let n = writes_behind front l - 1 in
      let some = at.some in
      let e : writes_behind front l ≡ suc n = omega arith in
      subst (λ (m : ℕ). runs 1 (words (map write (count_from 1 m))) ≡ all_of Same m) (sym e)
      (runs_all write Same n 1 (λ k low high. word_none names front l at k low (omega (arith, e)) none) ∙ ap (λ (m : ℕ). all_of Same m) (let s : 1 + n ≡ suc n = omega arith in s))

  splits_at_gate : SweptAt front l → SplitsAtGate names front l
  unfolding line_sweep
  splits_at_gate at one =
      let n = writes_behind front l - 1 in
      let some = at.some in
      let e : writes_behind front l ≡ suc n = omega arith in
      let s = splits_line names front l at one in
      let first = s.low in
      let last = s.high in
      subst (λ (m : ℕ). runs 1 (words (map write (count_from 1 m))) ≡ split_at (opening_behind names front l) m) (sym e)
      (runs_split write n 1 (opening_behind names front l) first (omega (arith, last, e)) s.before (λ k low high. s.after k low (omega (arith, e)))
      ∙ ap (λ (m : ℕ). split_at (opening_behind names front l) m) (let t : 1 + n ≡ suc n = omega arith in t))

  one_between : SweptAt front l → changing_behind names front l ≡ 1 → (k : ℕ) → 1 ≤ k → k ≤ writes_behind front l → (write k).word ≢ Between
  one_between at one k low high e = grind (arith, splits_line names front l at one)

  none_between : SweptAt front l → changing_behind names front l ≡ 0 → (k : ℕ) → 1 ≤ k → k ≤ writes_behind front l → (write k).word ≢ Between
  none_between at none k low high e = absurd (cc (sym (word_none names front l at k low high none) ∙ e))

  between_changes : SweptAt front l → BetweenChanges names front l
  between_changes at few = elim (cases_lt 0 (changing_behind names front l)) [
    | inl some ↦ each_run (λ w. w ≢ Between) (one_between at (omega arith))
    | inr none ↦ each_run (λ w. w ≢ Between) (none_between at (omega arith))
  ]

-- ---- each swept line of a deck

each_swept : (P : List (ℕ × DeckLine) → ℕ × DeckLine → Type 0) → ((front : List (ℕ × DeckLine)) (l : ℕ × DeckLine) → SweptAt front l → P front l)
    → (front ls : List (ℕ × DeckLine)) → EachSwept P front ls
each_swept P h front [] = tt
each_swept P h front (l ∷ ls) = ((λ is. h front l (swept_at front l is)), each_swept P h (front ++ l ∷ []) ls)

-- each swept line with at most one item that changes the observed state has no run `between`
pub each_between : OfEach BetweenChanges
each_between ls = each_swept (BetweenChanges (names_from [] ls)) (between_changes (names_from [] ls)) [] ls

-- each swept line with exactly one such item is split at the write that opens its gate
pub each_splits : OfEach SplitsAtGate
each_splits ls = each_swept (SplitsAtGate (names_from [] ls)) (splits_at_gate (names_from [] ls)) [] ls

-- in each swept line without such an item every cut leaves the same state
pub each_stays : OfEach StaysSame
each_stays ls = each_swept (StaysSame (names_from [] ls)) (stays_same (names_from [] ls)) [] ls

with_swept : (P : Swept → Type 0) (b : Bool) (s : Swept) (rest : List Swept) → (b ≡ true → P s) → AllByRecursion P rest → AllByRecursion P (sweeps_with b s rest)
with_swept P true s rest here all = (here refl, all)
with_swept P false s rest here all = all

behind_not_torn : (names : List (List ℕ)) (front ls : List (ℕ × DeckLine)) → AllByRecursion NotTorn (sweep_behind names front ls)
unfolding sweep_behind
behind_not_torn names front [] = tt
behind_not_torn names front (l ∷ ls) =
    with_swept NotTorn (is_swept front l) (line_sweep names front l) (sweep_behind names (front ++ l ∷ []) ls) (λ is. not_torn names front l (swept_at front l is)) (behind_not_torn names (front ++ l ∷ []) ls)

-- no line of a sweep has a run `torn`
pub never_torn : NeverTorn
unfolding sweep
never_torn ls = behind_not_torn (names_from [] ls) [] ls
