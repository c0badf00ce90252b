-- The loop that plays a deck before a counter.
use Rattle.std.proofs.Common.{◌≡◌, ℕ, List, [], ◌∷◌, ◌++◌, Option, refl, sym, ap, subst, ◌∙◌, append_assoc}
use Rattle.std.specs.Prelude.{flat_map}
use Rattle.std.proofs.lemmas.List.{append-nil}
use Rattle.mc_words.specs.model_device.specs.Device.{DeviceState, BenchState}
use Rattle.mc_deck.specs.model_play.specs.DeckGrammar.{DeckLine}
use Rattle.mc_deck.specs.model_play.specs.Play.{FailedWrite, State, Step, plays, step}
use Rattle.desk_draft.specs.FullTurns.{FullTurn, turns_of_step}
use Rattle.mc_script.specs.declared.answer.Answer.{Answer}
use Rattle.mc_script.specs.declared.player.Player.{Player}
use Rattle.mc_script.specs.Players.{IsPlayerAt}
use Rattle.mc_script.specs.Lines.{LineDone, bench_of}
use Rattle.mc_script.specs.Plays.{Bench, Played}
use Rattle.mc_script.specs.Runs.{sent_by}
use Rattle.mc_script.specs.Watching.{Watches}
use Rattle.mc_script.proofs.LinedLemmas.{at_stands}
use Rattle.mc_script.proofs.PlayLemmas.{played_none, played_on, plays_none, plays_on}
use Rattle.desk_cover.specs.declared.covering.Counter.{Counter}
use Rattle.desk_cover.specs.Counting.{Counted, counted_none, counted_on}
use Rattle.desk_cover.specs.Plays.{CountsPlay}
use Rattle.desk_cover.specs.Watching.{full_turn_of}
use Rattle.desk_cover.proofs.SentLemmas.{sent_shown}

module _ {N : Type 0} (state : N → DeviceState) (bench : N → BenchState) where
  -- a player at a state of a play, with the given lines left, and what its counter counted: a play of these from here
  -- makes the play of all lines from the start
  pub record Counting (s : State) (ls : List (ℕ × DeckLine)) (a : Bench) (q : Counter) (left : List (ℕ × DeckLine)) (p : Player N) (r : Counter) : Type 0 where
    pub here : State
    pub at : IsPlayerAt state bench p here
    pub done : List FullTurn
    pub counted : Counted q done r
    pub rest : (ws : List (Option FailedWrite)) (b : Bench) → Played here left ws (bench_of state bench p) b
        → (vs : List (Option FailedWrite)) × Played s ls vs a b × (flat_map turns_of_step (plays s ls vs) ≡ done ++ flat_map turns_of_step (plays here left ws))

  -- before the first line all lines are left, with what the counter has
  pub counting_start : (s : State) (ls : List (ℕ × DeckLine)) (p : Player N) (q : Counter) → IsPlayerAt state bench p s → Counting s ls (bench_of state bench p) q ls p q
  counting_start s ls p q at = record { here = s; at = at; done = []; counted = counted_none q; rest = λ ws b h. (ws, h, refl) }

  -- if no line is left, the counter has the whole play
  pub counting_end : (s : State) (ls : List (ℕ × DeckLine)) (a : Bench) (q : Counter) (p : Player N) (r : Counter) → Counting s ls a q [] p r → CountsPlay s ls a (bench_of state bench p) q r
  counting_end s ls a q p r h =
      let none = plays_none h.here in
      let all = h.rest [] (bench_of state bench p) (played_none h.here (bench_of state bench p) (at_stands state bench p h.here h.at) h.at.unfused) in
      let are : flat_map turns_of_step (plays s ls all.0) ≡ h.done = all.2 ∙ ap (λ (ts : List Step). h.done ++ flat_map turns_of_step ts) none ∙ append-nil h.done in
      record { worn = all.0; played = all.1; counted = subst (λ (ts : List FullTurn). Counted q ts r) (sym are) h.counted }

  -- a line that was counted leaves those after it
  pub counting_on : (s : State) (ls : List (ℕ × DeckLine)) (a : Bench) (q : Counter) (left : List (ℕ × DeckLine)) (n : ℕ) (l : DeckLine) (p v : Player N) (before after : Counter) (answer : Option Answer) → Counting s ls a q ((n, l) ∷ left) p before
      → LineDone state bench (Watches full_turn_of Counted (sent_by state p l)) p l before after answer v → Counting s ls a q left v after
  counting_on s ls a q left n l p v before after answer h done =
      let line = done h.here n h.at in
      let w = line.0 in
      let t = step h.here (n, l) w in
      let end = line.1.stepped in
      let more : Counted before (turns_of_step t) after = subst (λ (ts : List FullTurn). Counted before ts after) (sent_shown state bench p h.here (n, l) w h.at) line.1.reports in
      record {
        here = t.after;
        at = end.at;
        done = h.done ++ turns_of_step t;
        counted = counted_on q before after h.done (turns_of_step t) h.counted more;
        rest = λ ws b played.
            let one = plays_on h.here (n, l) w left ws in
            let all = h.rest (w ∷ ws) b (played_on h.here (n, l) w left ws (bench_of state bench p) (bench_of state bench v) b end.played played) in (
              all.0,
              all.1,
              all.2 ∙ ap (λ (ts : List Step). h.done ++ flat_map turns_of_step ts) one ∙ sym (append_assoc h.done (turns_of_step t) (flat_map turns_of_step (plays t.after left ws))),
            );
      }
