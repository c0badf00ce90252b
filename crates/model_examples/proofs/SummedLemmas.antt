-- How the summary of a play is that of its parts.
use Rattle.std.specs.Prelude.{◌≡◌, ℕ, ◌+◌, Bool, List, [], ◌∷◌, ◌++◌, length, take, drop, filter, codes, refl, None}
use Rattle.std.proofs.Common.{ap, sym, ◌∙◌, length-append}
use Rattle.std.proofs.lemmas.List.{take-append-drop}
use Rattle.std.proofs.lemmas.List.Concat.{flat_map-append}
use Rattle.std.proofs.lemmas.List.Elements.{filter_map-append, filter-append}
use Rattle.model_play.specs.Transcript.{text_of_result}
use Rattle.model_play.specs.Play.{State, Step, LineResult, step, plays, last_state}
use Rattle.model_play.specs.DeckGrammar.{DeckLine}
use Rattle.model_play.specs.Generator.{summary, results, count, is_reply, is_abend, is_cut, is_off, is_ready, is_dump, dump_lines}
use Rattle.model_examples.specs.Summed.{Summed, counts_of_play, summed_text, sum_of_counts, part}

-- ---- counts

results_append : (a b : List Step) → results (a ++ b) ≡ results a ++ results b
results_append a b = filter_map-append (λ (t : Step). t.result) a b

count_append : (test : LineResult → Bool) (a b : List LineResult) → count test (a ++ b) ≡ count test a + count test b
count_append test a b = ap length (filter-append test a b) ∙ length-append (filter test a) (filter test b)

dumps_append : (a b : List Step) → dump_lines (a ++ b) ≡ dump_lines a ++ dump_lines b
dumps_append a b =
    let dumps : Step → Bool = λ t. is_dump t.line in
    let text : LineResult → List ℕ = λ r. text_of_result r ++ codes "\n" in
    rw (filter-append dumps a b, results_append (filter dumps a) (filter dumps b)) (flat_map-append {X = LineResult} text (results (filter dumps a)) (results (filter dumps b)))

summed_append : (a b : List Step) → counts_of_play (a ++ b) ≡ sum_of_counts (counts_of_play a) (counts_of_play b)
summed_append a b =
    rw (
      dumps_append a b,
      results_append a b,
      length-append (results a) (results b),
      count_append is_reply (results a) (results b),
      count_append is_abend (results a) (results b),
      count_append is_cut (results a) (results b),
      count_append is_off (results a) (results b),
      count_append is_ready (results a) (results b),
    ) refl

-- ---- plays

plays_append : (s : State) (a b : List (ℕ × DeckLine)) → plays s (a ++ b) [] ≡ plays s a [] ++ plays (last_state s (plays s a [])) b []
unfolding plays
plays_append s [] b = refl
plays_append s (l ∷ ls) b = ap (λ r. step s l None ∷ r) (plays_append (step s l None).after ls b)

-- a part, and the lines behind it from the state that it leaves
pub leads : (s t : State) (k : ℕ) (ls : List (ℕ × DeckLine)) (a b : Summed) → part s (take k ls) ≡ (a, t) → counts_of_play (plays t (drop k ls) []) ≡ b → counts_of_play (plays s ls []) ≡ sum_of_counts a b
unfolding part
leads s t k ls a b first rest =
    ap (λ (l : List (ℕ × DeckLine)). counts_of_play (plays s l [])) (sym (take-append-drop k ls))
    ∙ (ap counts_of_play (plays_append s (take k ls) (drop k ls))
    ∙ (summed_append (plays s (take k ls) []) (plays (last_state s (plays s (take k ls) [])) (drop k ls) [])
    ∙ (ap (λ (x : Summed). sum_of_counts x (counts_of_play (plays (last_state s (plays s (take k ls) [])) (drop k ls) []))) (ap (λ (p : Summed × State). p.0) first)
    ∙ (ap (λ (u : State). sum_of_counts a (counts_of_play (plays u (drop k ls) []))) (ap (λ (p : Summed × State). p.1) first)
    ∙ ap (sum_of_counts a) rest))))

-- the last part
pub ends : (s : State) (ls : List (ℕ × DeckLine)) (a : Summed) → (part s ls).0 ≡ a → counts_of_play (plays s ls []) ≡ a
unfolding part
ends s ls a h = h

pub summary_of : (s : State) (ls : List (ℕ × DeckLine)) (a : Summed) → counts_of_play (plays s ls []) ≡ a → summary (plays s ls []) ≡ summed_text a
unfolding summary
summary_of s ls a h = ap summed_text h
