-- The summary of a play: its counts, and its dump lines.
use Rattle.std.proofs.Common.{◌≡◌, ℕ, suc, ◌+◌, ◌≤◌, Bool, true, false, cond, List, [], ◌∷◌, ◌++◌, length, drop, Option, Some, None, refl, arith, sym, ap, subst, ◌∙◌, append_assoc, length-append, codes}
use Rattle.std.specs.Prelude.{option_map, filter, flat_map}
use Rattle.std.specs.List.{AllByRecursion}
use Rattle.std.proofs.lemmas.List.{append-nil}
use Rattle.model_play.specs.model_device.specs.Device.{DeviceState, BenchState}
use Rattle.model_play.specs.model_machine.specs.Chain.{Turn}
use Rattle.model_play.specs.DeckGrammar.{DeckLine}
use Rattle.model_play.specs.DeckGrammar as line
use Rattle.model_play.specs.Play.{State, BeforePower, AfterPower, FailedWrite, LineResult, Step, plays, step, first_failure, last_state}
use Rattle.model_play.specs.Transcript.{text_of_result}
use Rattle.model_play.specs.Generator.{is_dump, results, count, dump_lines, count_line, summary, is_reply, is_abend, is_cut, is_off, is_ready}
use Rattle.model_play.proofs.PlayLemmas.{step_is}
use Rattle.mc_script.specs.declared.answer.Answer.{Answer}
use Rattle.mc_script.specs.declared.player.Player.{Player}
use Rattle.mc_script.specs.declared.summary.Counts.{Counts}
use Rattle.mc_script.specs.Players.{answer_value, IsPlayerAt}
use Rattle.mc_script.specs.Lines.{bench_of, LineDone}
use Rattle.mc_script.specs.Plays.{Bench, Played}
use Rattle.mc_script.specs.StepCounts.{CountsLine, PlaySteps}
use Rattle.mc_script.specs.Sums.{Counted, result_list, DumpsLast, result_line, dump_text, dumps_text, Tallied}
use Rattle.mc_script.proofs.PlayLemmas.{plays_on, plays_none, played_on, played_none}
use Rattle.mc_script.proofs.LinedLemmas.{at_stands}
use Rattle.mc_script.proofs.StepPlayLemmas.{step_counts, steps_none, steps_then, steps_as}

-- ---- counts

-- one more result passes a test, or it does not
count_by : (test : LineResult → Bool) (rs : List LineResult) (r : LineResult) → count test (rs ++ r ∷ []) ≡ count test rs + cond (test r) 1 0
count_by test [] r = last (test r)
  where
    last : (b : Bool) → length (cond b (r ∷ []) []) ≡ 0 + cond b 1 0
    last true = refl
    last false = refl
count_by test (q ∷ rs) r = more (test q) (count_by test rs r)
  where
    more : (b : Bool) → count test (rs ++ r ∷ []) ≡ count test rs + cond (test r) 1 0 → length (cond b (q ∷ filter test (rs ++ r ∷ [])) (filter test (rs ++ r ∷ []))) ≡ length (cond b (q ∷ filter test rs) (filter test rs)) + cond (test r) 1 0
    more true h = omega (arith, h)
    more false h = h

-- the counts of one more result
pub counted_on : (c d : Counts) (rs : List LineResult) (r : LineResult) → Counted c rs → d.lines ≡ c.lines + 1 → d.replies ≡ c.replies + cond (is_reply r) 1 0 → d.abends ≡ c.abends + cond (is_abend r) 1 0
    → d.cuts ≡ c.cuts + cond (is_cut r) 1 0 → d.offs ≡ c.offs + cond (is_off r) 1 0 → d.readies ≡ c.readies + cond (is_ready r) 1 0 → Counted d (rs ++ r ∷ [])
counted_on c d rs r are lines replies abends cuts offs readies =
    record {
      lines = lines ∙ ap (λ (k : ℕ). k + 1) are.lines ∙ sym (length-append rs (r ∷ []));
      replies = replies ∙ ap (λ (k : ℕ). k + cond (is_reply r) 1 0) are.replies ∙ sym (count_by is_reply rs r);
      abends = abends ∙ ap (λ (k : ℕ). k + cond (is_abend r) 1 0) are.abends ∙ sym (count_by is_abend rs r);
      cuts = cuts ∙ ap (λ (k : ℕ). k + cond (is_cut r) 1 0) are.cuts ∙ sym (count_by is_cut rs r);
      offs = offs ∙ ap (λ (k : ℕ). k + cond (is_off r) 1 0) are.offs ∙ sym (count_by is_off rs r);
      readies = readies ∙ ap (λ (k : ℕ). k + cond (is_ready r) 1 0) are.readies ∙ sym (count_by is_ready rs r);
    }

-- no more results pass a test than there are
pub count_most : (test : LineResult → Bool) (rs : List LineResult) → count test rs ≤ length rs
count_most test [] = omega arith
count_most test (q ∷ rs) = more (test q) (count_most test rs)
  where
    more : (b : Bool) → count test rs ≤ length rs → length (cond b (q ∷ filter test rs) (filter test rs)) ≤ suc (length rs)
    more true h = omega (arith, h)
    more false h = omega (arith, h)

-- ---- the results of a play

results_by : (t : Step) (ts : List Step) (o : Option LineResult) → t.result ≡ o → results (t ∷ ts) ≡ result_list o ++ results ts
results_by t ts None e = rw e refl
results_by t ts (Some r) e = rw e refl

pub results_cons : (t : Step) (ts : List Step) → results (t ∷ ts) ≡ result_list t.result ++ results ts
results_cons t ts = results_by t ts t.result refl

-- ---- dump lines

-- a result on its own line, before those of others
lines_by : (o : Option LineResult) (rs : List LineResult) → flat_map (λ r. text_of_result r ++ codes "\n") (result_list o ++ rs) ≡ result_line o ++ flat_map (λ r. text_of_result r ++ codes "\n") rs
lines_by None rs = refl
lines_by (Some r) rs = refl

dump_by : (t : Step) (ts : List Step) (b : Bool) → is_dump t.line ≡ b → dump_lines (t ∷ ts) ≡ cond b (result_line t.result) [] ++ dump_lines ts
dump_by t ts b e = grind (arith, results_cons, lines_by)

-- a dump line changes nothing, and its result is that of any dump line with this name
dump_after : (s : State) (n : ℕ) (a : List ℕ) (w : Option FailedWrite) → (step s (n, line.Dump a) w).after ≡ s
unfolding step
dump_after (BeforePower m b x) n a w = refl
dump_after (AfterPower s) n a w = refl

dump_result : (s : State) (n : ℕ) (a : List ℕ) (w : Option FailedWrite) → (step s (n, line.Dump a) w).result ≡ (step s (0, line.Dump a) None).result
unfolding step
dump_result (BeforePower m b x) n a w = refl
dump_result (AfterPower s) n a w = refl

-- a line that is a dump line, and one that is none
as_dump : (l : DeckLine) → is_dump l ≡ true → (a : List ℕ) × (l ≡ line.Dump a)
as_dump (line.Dump x) e = (x, refl)
as_dump _ e = absurd (cc e)

no_dump : (s : State) (l : DeckLine) → is_dump l ≡ false → dump_text s l ≡ []
no_dump s (line.Dump x) e = absurd (cc e)
no_dump s _ e = refl

after_dump : (s : State) (l : ℕ × DeckLine) (w : Option FailedWrite) → is_dump l.1 ≡ true → (step s l w).after ≡ s
after_dump s (n, l) w e = let d = as_dump l e in ap (λ (k : DeckLine). (step s (n, k) w).after) d.1 ∙ dump_after s n d.0 w

-- dump lines change nothing
plays_first : (s : State) (l : ℕ × DeckLine) (ls : List (ℕ × DeckLine)) (ws : List (Option FailedWrite)) → plays s (l ∷ ls) ws ≡ step s l (first_failure ws) ∷ plays (step s l (first_failure ws)).after ls (drop 1 ws)
unfolding plays
plays_first s l ls ws = refl

plays_nothing : (s : State) (ws : List (Option FailedWrite)) → plays s [] ws ≡ []
unfolding plays
plays_nothing s ws = refl

dumps_keep : (s : State) (ls : List (ℕ × DeckLine)) (ws : List (Option FailedWrite)) → AllByRecursion (λ k. is_dump k.1 ≡ true) ls → last_state s (plays s ls ws) ≡ s
dumps_keep s [] ws all = ap (λ (ts : List Step). last_state s ts) (plays_nothing s ws)
dumps_keep s (l ∷ ls) ws all =
    let same = after_dump s l (first_failure ws) all.0 in
    ap (λ (ts : List Step). last_state s ts) (plays_first s l ls ws)
    ∙ ap (λ (u : State). last_state u (plays u ls (drop 1 ws))) same
    ∙ dumps_keep s ls (drop 1 ws) all.1

-- the result of a line, if it is a dump line, in the last state
first_dump : (s : State) (l : ℕ × DeckLine) (ls : List (ℕ × DeckLine)) (ws : List (Option FailedWrite)) (b : Bool) → is_dump l.1 ≡ b → (is_dump l.1 ≡ true → AllByRecursion (λ k. is_dump k.1 ≡ true) ls)
    → cond b (result_line (step s l (first_failure ws)).result) [] ≡ dump_text (last_state (step s l (first_failure ws)).after (plays (step s l (first_failure ws)).after ls (drop 1 ws))) l.1
first_dump s l ls ws b e last = grind (arith, no_dump, as_dump, after_dump, dumps_keep, dump_result)

-- the dump lines of a play, by the state that it reaches
pub dumps_are : (s : State) (ls : List (ℕ × DeckLine)) (ws : List (Option FailedWrite)) → DumpsLast ls → dump_lines (plays s ls ws) ≡ dumps_text (last_state s (plays s ls ws)) ls
dumps_are s [] ws last = ap dump_lines (plays_nothing s ws)
dumps_are s (l ∷ ls) ws last =
    let t = step s l (first_failure ws) in
    let ts = plays t.after ls (drop 1 ws) in
    let first : plays s (l ∷ ls) ws ≡ t ∷ ts = plays_first s l ls ws in
    let is : is_dump t.line ≡ is_dump l.1 = ap is_dump (step_is s l (first_failure ws)).line in
    let end : last_state s (plays s (l ∷ ls) ws) ≡ last_state t.after ts = ap (λ (us : List Step). last_state s us) first in
    ap dump_lines first
    ∙ dump_by t ts (is_dump l.1) is
    ∙ ap (λ (x : List ℕ). x ++ dump_lines ts) (first_dump s l ls ws (is_dump l.1) refl last.0)
    ∙ ap (λ (x : List ℕ). dump_text (last_state t.after ts) l.1 ++ x) (dumps_are t.after ls (drop 1 ws) last.1)
    ∙ ap (λ (u : State). dump_text u l.1 ++ dumps_text u ls) (sym end)

-- the summary of a play, by the state that it reaches
pub summary_is : (s : State) (ls : List (ℕ × DeckLine)) (ws : List (Option FailedWrite)) → DumpsLast ls → count_line (results (plays s ls ws)) ++ dumps_text (last_state s (plays s ls ws)) ls ≡ summary (plays s ls ws)
unfolding summary
summary_is s ls ws last = ap (λ (x : List ℕ). count_line (results (plays s ls ws)) ++ x) (sym (dumps_are s ls ws last))

-- ---- the loop that counts

module _ {N : Type 0} (state : N → DeviceState) (bench : N → BenchState) where
  -- a player at a state of a play, with the given lines left, and the counts so far: a play of these from here makes
  -- the play of all lines from the start
  pub record Counting (s : State) (ls : List (ℕ × DeckLine)) (a : Bench) (old : ℕ) (left : List (ℕ × DeckLine)) (p : Player N) (c : Counts) (i now : ℕ) : Type 0 where
    pub here : State
    pub at : IsPlayerAt state bench p here
    pub done : List LineResult
    pub counted : Counted c done
    pub few : length done ≤ i
    pub rest : (ws : List (Option FailedWrite)) (b : Bench) (new : ℕ) → Played here left ws (bench_of state bench p) b → PlaySteps (plays here left ws) now new
        → (vs : List (Option FailedWrite)) × Played s ls vs a b × PlaySteps (plays s ls vs) old new × (results (plays s ls vs) ≡ done ++ results (plays here left ws)) × (last_state s (plays s ls vs) ≡ last_state here (plays here left ws))

  pub counting_start : (s : State) (ls : List (ℕ × DeckLine)) (p : Player N) (c : Counts) (old : ℕ) → IsPlayerAt state bench p s → Counted c [] → Counting s ls (bench_of state bench p) old ls p c 0 old
  counting_start s ls p c old at counted = record { here = s; at = at; done = []; counted = counted; few = omega arith; rest = λ ws b new h k. (ws, h, k, refl, refl) }

  pub counting_end : (s : State) (ls : List (ℕ × DeckLine)) (a : Bench) (p : Player N) (c : Counts) (i old now : ℕ) → Counting s ls a old [] p c i now → Tallied state bench s ls a p c old now
  counting_end s ls a p c i old now h =
      let none = plays_none h.here in
      let all = h.rest [] (bench_of state bench p) now (played_none h.here (bench_of state bench p) (at_stands state bench p h.here h.at) h.at.unfused) (steps_as [] (plays h.here [] []) now now (sym none) (steps_none now)) in
      let are : results (plays s ls all.0) ≡ h.done = all.3 ∙ ap (λ (ts : List Step). h.done ++ results ts) none ∙ append-nil h.done in
      let end : last_state s (plays s ls all.0) ≡ h.here = all.4 ∙ ap (λ (ts : List Step). last_state h.here ts) none in
      record {
        worn = all.0;
        played = all.1;
        at = subst (λ (u : State). IsPlayerAt state bench p u) (sym end) h.at;
        counted = subst (λ (rs : List LineResult). Counted c rs) (sym are) h.counted;
        steps = all.2;
      }

  few_on : (o : Option LineResult) (rs : List LineResult) (i : ℕ) → length rs ≤ i → length (rs ++ result_list o) ≤ i + 1
  few_on None rs i h = let e : length (rs ++ []) ≡ length rs = ap length (append-nil rs) in omega (arith, h, e)
  few_on (Some r) rs i h = let e : length (rs ++ r ∷ []) ≡ length rs + 1 = length-append rs (r ∷ []) in omega (arith, h, e)

  pub counting_on : {R : Type 0} (reported : R → List Turn → R → Type 0) (s : State) (ls : List (ℕ × DeckLine)) (a : Bench) (left : List (ℕ × DeckLine)) (n : ℕ) (l : DeckLine) (p q : Player N) (c d : Counts) (i : ℕ) (before after : R) (answer : Option Answer) (old now new : ℕ)
      → (h : Counting s ls a old ((n, l) ∷ left) p c i now) → LineDone state bench reported p l before after answer q → CountsLine state bench p l answer now new → Counted d (h.done ++ result_list (option_map (answer_value state q) answer))
      → Counting s ls a old left q d (i + 1) new
  counting_on reported s ls a left n l p q c d i before after answer old now new h done counts counted =
      let line = done h.here n h.at in
      let w = line.0 in
      let t = step h.here (n, l) w in
      let end = line.1.stepped in
      let steps = step_counts state q h.here (n, l) w answer now new end.answers (counts h.here h.at) in
      record {
        here = t.after;
        at = end.at;
        done = h.done ++ result_list t.result;
        counted = subst (λ (o : Option LineResult). Counted d (h.done ++ result_list o)) end.answers counted;
        few = few_on t.result h.done i h.few;
        rest = λ ws b last played rest.
            let one = plays_on h.here (n, l) w left ws in
            let both = steps_as (t ∷ plays t.after left ws) (plays h.here ((n, l) ∷ left) (w ∷ ws)) now last (sym one) (steps_then (t ∷ []) (plays t.after left ws) now new last steps rest) in
            let all = h.rest (w ∷ ws) b last (played_on h.here (n, l) w left ws (bench_of state bench p) (bench_of state bench q) b end.played played) both in (
              all.0,
              all.1,
              all.2,
              all.3 ∙ ap (λ (ts : List Step). h.done ++ results ts) one ∙ ap (λ (x : List LineResult). h.done ++ x) (results_cons t (plays t.after left ws)) ∙ sym (append_assoc h.done (result_list t.result) (results (plays t.after left ws))),
              all.4 ∙ ap (λ (ts : List Step). last_state h.here ts) one,
            );
      }
