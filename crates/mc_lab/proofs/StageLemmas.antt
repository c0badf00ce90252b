-- A play that is compared: line by line, on a steady bench.
use Rattle.std.proofs.Common.{◌≡◌, ◌+◌, ◌≤◌, refl, sym, ◌∙◌, ap, subst, ℕ, zero, suc, List, [], ◌∷◌, drop, true, cond, Option, Some, arith, add-one}
use Rattle.std.specs.Prelude.{nat_lt, slice_get, option_map}
use Rattle.law_explore.specs.model_device.specs.Device.{DeviceState, BenchState}
use Rattle.law_explore.specs.model_machine.specs.Chain.{Turn}
use Rattle.law_explore.specs.model_play.specs.DeckGrammar.{DeckLine}
use Rattle.law_explore.specs.model_play.specs.Play.{State, Step, FailedWrite, armed_stop_in, moves_of, plays, start, steady_at, steady_failures, step}
use Rattle.mc_script.specs.declared.answer.Answer.{Answer}
use Rattle.mc_script.specs.declared.player.Player.{Player}
use Rattle.mc_script.specs.Players.{answer_value, device_of, IsPlayerAt, IsPlaying}
use Rattle.mc_script.specs.Lines.{LineDone}
use Rattle.law_explore.specs.model_play.proofs.PlayLemmas.{step_is}
use Rattle.mc_lab.specs.Rising.{Rising, count_below, last_of}
use Rattle.mc_lab.specs.Expectations.{line_number, result_above, result_text, steady_from, steady_steps, step_text}
use Rattle.mc_lab.specs.Stages.{Staged}
use Rattle.mc_lab.proofs.BelowLemmas.{drop_at, last_is}

-- ---- steps

-- the failed write of a line on a steady bench, if it has one
abbrev failure_of : State → ℕ × DeckLine → Option FailedWrite
failure_of s l = steady_at (armed_stop_in s) l.1 (moves_of s l)

-- the step of the first line, and the steps of the lines after it
steady_on : (s : State) (l : ℕ × DeckLine) (ls : List (ℕ × DeckLine)) → steady_from s (l ∷ ls) ≡ step s l (failure_of s l) ∷ steady_from (step s l (failure_of s l)).after ls
unfolding steady_from plays steady_failures
steady_on s l ls = refl

steady_none : (s : State) → steady_from s [] ≡ []
unfolding steady_from plays
steady_none s = refl

-- the number of a step
abbrev pub number_in : Step → ℕ
number_in t = t.number

-- the numbers of steps ascend as those of their lines do
steps_rise : (s : State) (m : ℕ) (ls : List (ℕ × DeckLine)) → Rising line_number m ls → Rising number_in m (steady_from s ls)
steps_rise s m [] h = subst (λ (ts : List Step). Rising number_in m ts) (sym (steady_none s)) tt
steps_rise s m (l ∷ ls) h =
    let t = step s l (failure_of s l) in
    let number : t.number ≡ l.0 = (step_is s l (failure_of s l)).number in
    let rest : Rising number_in (suc l.0) (steady_from t.after ls) = steps_rise t.after (suc l.0) ls h.1 in
    let all : Rising number_in m (t ∷ steady_from t.after ls) = (subst (λ (n : ℕ). m ≤ n) (sym number) h.0, subst (λ (n : ℕ). Rising number_in (suc n) (steady_from t.after ls)) (sym number) rest) in
    subst (λ (ts : List Step). Rising number_in m ts) (sym (steady_on s l ls)) all

count_steps : (s : State) (n : ℕ) (ls : List (ℕ × DeckLine)) → count_below number_in n (steady_from s ls) ≡ count_below line_number n ls
count_steps s n [] = ap (count_below number_in n) (steady_none s)
count_steps s n (l ∷ ls) =
    let t = step s l (failure_of s l) in
    let number : t.number ≡ l.0 = (step_is s l (failure_of s l)).number in
    ap (count_below number_in n) (steady_on s l ls)
    ∙ ap (λ k. cond (nat_lt k n) (suc (count_below number_in n (steady_from t.after ls))) 0) number
    ∙ ap (λ k. cond (nat_lt l.0 n) (suc k) 0) (count_steps t.after n ls)

-- the result above a line is that of the last of the lines counted above it
pub above_is : (s : State) (n : ℕ) (ls : List (ℕ × DeckLine)) → Rising line_number 1 ls → result_above (steady_from s ls) n ≡ step_text (last_of (count_below line_number n ls) (steady_from s ls))
above_is s n ls h =
    ap step_text (last_is number_in 1 n (steady_from s ls) (steps_rise s 1 ls h))
    ∙ ap (λ k. step_text (last_of k (steady_from s ls))) (count_steps s n ls)

-- ---- lists

-- the first of the rest of a list, and the list after it
record Next {A : Type 0} (xs : List A) (i : ℕ) (x : A) (r : List A) : Type 0 where
  pub first : slice_get xs i ≡ Some x
  pub behind : drop (i + 1) xs ≡ r

next_of : {A : Type 0} (xs : List A) (i : ℕ) (x : A) (r : List A) → drop i xs ≡ x ∷ r → Next xs i x r
next_of [] zero x r e = absurd (cc e)
next_of [] (suc i) x r e = absurd (cc e)
next_of (y ∷ xs) zero x r e = record { first = ap Some (cc e); behind = (cc e) }
next_of (y ∷ xs) (suc i) x r e = grind (arith, next_of xs i x r e)

-- ---- a player

module _ {N : Type 0} (state : N → DeviceState) (bench : N → BenchState) where
  -- no line was played
  pub staged_start : (ls : List (ℕ × DeckLine)) (d : N) (p : Player N) (text : List ℕ) → IsPlayerAt state bench p (start (state d).words) → device_of p ≡ d → (bench d).steady ≡ true → text ≡ [] → Staged state bench (steady_steps (state d).words ls) ls p 0 text
  staged_start ls d p text at device steady none =
      record { here = start (state d).words; at = at; steady = ap (λ (d : N). (bench d).steady) device ∙ steady; rest = refl; last = none }

  -- one more line was played
  pub staged_on : {R : Type 0} (reported : R → List Turn → R → Type 0) (whole : List Step) (ls : List (ℕ × DeckLine)) (p q : Player N) (i n : ℕ) (l : DeckLine) (text now : List ℕ) (before after : R) (answer : Option Answer)
      → slice_get ls i ≡ Some (n, l) → LineDone state bench reported p l before after answer q → now ≡ result_text (option_map (answer_value state q) answer) → Staged state bench whole ls p i text → Staged state bench whole ls q (i + 1) now
  staged_on reported whole ls p q i n l text now before after answer e done is h =
      let d = done h.here n h.at in
      let stepped = d.1.stepped in
      let worn = stepped.played.steady h.steady in
      let t = step h.here (n, l) d.0 in
      let left : drop i whole ≡ t ∷ steady_from t.after (drop (i + 1) ls) =
      h.rest ∙ ap (steady_from h.here) (drop_at ls i (n, l) e) ∙ steady_on h.here (n, l) (drop (i + 1) ls)
      ∙ ap (λ w. step h.here (n, l) w ∷ steady_from (step h.here (n, l) w).after (drop (i + 1) ls)) (sym worn) in
      let next = next_of whole i t (steady_from t.after (drop (i + 1) ls)) left in
      let text_is : result_text (option_map (answer_value state q) answer) ≡ step_text (last_of (i + 1) whole) =
      ap result_text stepped.answers ∙ sym (ap step_text (ap (λ k. last_of k whole) (add-one i) ∙ next.first)) in
      record { here = t.after; at = stepped.at; steady = stepped.played.counts.counts.steady ∙ h.steady; rest = next.behind; last = is ∙ text_is }

  -- a player that was playing continues
  pub playing_on : {R : Type 0} (reported : R → List Turn → R → Type 0) (p q : Player N) (n : ℕ) (l : DeckLine) (before after : R) (answer : Option Answer) → LineDone state bench reported p l before after answer q → IsPlaying state bench p → IsPlaying state bench q
  playing_on reported p q n l before after answer done h = grind (arith, done h.0 n h.1)
