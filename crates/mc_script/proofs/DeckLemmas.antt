-- The loop over the lines of a deck.
use Rattle.std.proofs.Common.{◌≡◌, ℕ, zero, suc, ◌+◌, ◌≤◌, true, false, arith, List, [], ◌∷◌, ◌++◌, length, drop, Option, Some, None, Result, Ok, Err, refl, sym, ap, subst, ◌∙◌}
use Rattle.std.specs.Prelude.{option_map, slice_get, is_err}
use Rattle.std.proofs.Math.ListN.{drop_of_length-le}
use Rattle.model_play.specs.model_device.specs.Device.{DeviceState, BenchState}
use Rattle.model_play.specs.model_machine.specs.Chain.{Turn}
use Rattle.model_play.specs.DeckGrammar.{DeckLine}
use Rattle.model_play.specs.Play.{State, FailedWrite, Step, step}
use Rattle.model_play.specs.Transcript.{line_text}
use Rattle.model_play.specs.TraceText.{shown_turns}
use Rattle.mc_streams.specs.declared.refusals.WriteFault.{WriteFault}
use Rattle.mc_text.specs.Texts.{Sunk, Puts}
use Rattle.mc_script.specs.declared.answer.Answer.{Answer}
use Rattle.mc_script.specs.declared.player.Player.{Player}
use Rattle.mc_script.specs.Players.{answer_value, IsPlayerAt}
use Rattle.mc_script.specs.Lines.{bench_of, Lined, Stepped}
use Rattle.mc_script.specs.Writers.{write_result, text_by}
use Rattle.mc_script.specs.Plays.{Bench}
use Rattle.mc_script.specs.StepCounts.{CountsLine, CountsFrom}
use Rattle.model_play.proofs.PlayLemmas.{step_is}
use Rattle.mc_script.proofs.PlayLemmas.{from_on, from_cut, from_none}
use Rattle.mc_script.proofs.LinedLemmas.{at_stands}
use Rattle.mc_script.proofs.StepPlayLemmas.{step_counts}

module _ {N : Type 0} (state : N → DeviceState) (bench : N → BenchState) where
  -- a player at a state of a play, with the given lines left: a play of these from here makes the play of all lines
  -- from the start
  pub record PlayReached (f : Step → List ℕ) (s : State) (ls : List (ℕ × DeckLine)) (a : Bench) (x : Sunk) (old : ℕ) (left : List (ℕ × DeckLine)) (p : Player N) (y : Sunk) (now : ℕ) : Type 0 where
    pub here : State
    pub at : IsPlayerAt state bench p here
    pub rest : (r : Result (Unit {0}) WriteFault) (c : Bench) (z : Sunk) (new : ℕ) → CountsFrom f here left (bench_of state bench p) y r c z now new → CountsFrom f s ls a x r c z old new

  -- no line was played
  pub reached_start : (f : Step → List ℕ) (s : State) (ls : List (ℕ × DeckLine)) (p : Player N) (x : Sunk) (old : ℕ) → IsPlayerAt state bench p s → PlayReached f s ls (bench_of state bench p) x old ls p x old
  reached_start f s ls p x old at = record { here = s; at = at; rest = λ r c z new h. h }

  -- all lines were played
  pub reached_end : (f : Step → List ℕ) (s : State) (ls : List (ℕ × DeckLine)) (a : Bench) (x y : Sunk) (p : Player N) (old now : ℕ) → PlayReached f s ls a x old [] p y now → CountsFrom f s ls a x (Ok tt) (bench_of state bench p) y old now
  reached_end f s ls a x y p old now h = h.rest (Ok tt) (bench_of state bench p) y now (from_none f h.here (bench_of state bench p) y now (at_stands state bench p h.here h.at) h.at.unfused)

  -- the text of the result of a line
  pub result_text : (p q : Player N) (s : State) (l : ℕ × DeckLine) (w : Option FailedWrite) (answer : Option Answer) → Stepped state bench p s l w (step s l w) answer q → (let t = step s l w in line_text l.0 (option_map (answer_value state q) answer) ≡ line_text t.number t.result)
  result_text p q s l w answer stepped = let t = step s l w in ap (λ o. line_text l.0 o) stepped.answers ∙ ap (λ n. line_text n t.result) (sym ((step_is s l w).number))

  -- the text of a line is that of its step, if it is written of the result after whatever turns were recorded
  pub line_puts : {R : Type 0} (reported : R → List Turn → R → Type 0) (text : List Turn → List ℕ) (p q : Player N) (s : State) (l : ℕ × DeckLine) (w : Option FailedWrite) (before after : R) (answer : Option Answer) (y z : Sunk) (r : Result (Unit {0}) WriteFault)
      → Lined state bench reported p s l w before after answer q → ((ts : List Turn) → reported before ts after → Puts y (text ts ++ line_text l.0 (option_map (answer_value state q) answer)) r z) → Puts y (text_by text (step s l w)) r z
  line_puts reported text p q s l w before after answer y z r lined reports =
      let t = step s l w in
      subst (λ (bs : List ℕ). Puts y (text (shown_turns t.turns t.stop) ++ bs) r z) (result_text p q s l w answer lined.stepped) (reports (shown_turns t.turns t.stop) lined.reports)

  module _ (f : Step → List ℕ) (s : State) (ls : List (ℕ × DeckLine)) (a : Bench) (x : Sunk) (old : ℕ) (left : List (ℕ × DeckLine)) (n : ℕ) (l : DeckLine) (p q : Player N) (y z : Sunk) (answer : Option Answer) (now new : ℕ)
      (h : PlayReached f s ls a x old ((n, l) ∷ left) p y now) (w : Option FailedWrite) (stepped : Stepped state bench p h.here (n, l) w (step h.here (n, l) w) answer q) (counts : CountsLine state bench p l answer now new) where
    -- a line whose text was written, by the result of its reporter
    pub reached_written : (r : Result (Unit {0}) WriteFault) → is_err r ≡ false → Puts y (f (step h.here (n, l) w)) r z → PlayReached f s ls a x old left q z new
    reached_written (Err e) good puts = absurd (cc good)
    reached_written (Ok u) good puts =
        let steps = step_counts state q h.here (n, l) w answer now new stepped.answers (counts h.here h.at) in
        record {
          here = (step h.here (n, l) w).after;
          at = stepped.at;
          rest = λ r c u last rest. h.rest r c u last (from_on f h.here (n, l) w left (bench_of state bench p) (bench_of state bench q) c y z u r now new last stepped.played steps puts rest);
        }

    -- a line whose text was not wholly written
    pub reached_failed : (r : Result (Unit {0}) WriteFault) → is_err r ≡ true → Puts y (f (step h.here (n, l) w)) r z → CountsFrom f s ls a x r (bench_of state bench q) z old new
    reached_failed (Ok u) bad puts = absurd (cc bad)
    reached_failed (Err e) bad puts =
        let steps = step_counts state q h.here (n, l) w answer now new stepped.answers (counts h.here h.at) in
        h.rest (Err e) (bench_of state bench q) z new
        (from_cut f h.here (n, l) w left (bench_of state bench p) (bench_of state bench q) y z e now new stepped.played steps (at_stands state bench q (step h.here (n, l) w).after stepped.at) stepped.at.unfused puts)

-- ---- places of a deck

-- the line at a place, and those after it
pub next_line : (ls : List (ℕ × DeckLine)) (i n : ℕ) (l : DeckLine) → slice_get ls i ≡ Some (n, l) → drop i ls ≡ (n, l) ∷ drop (i + 1) ls
next_line [] i n l e = absurd (cc e)
next_line (k ∷ ls) zero n l e = let same : k ≡ (n, l) = cc e in ap (λ (k : ℕ × DeckLine). k ∷ ls) same
next_line (k ∷ ls) (suc i) n l e = grind (arith, next_line ls i n l e)

-- after the last line there is none
pub no_line : (ls : List (ℕ × DeckLine)) (i : ℕ) → length ls ≤ i → drop i ls ≡ []
no_line ls i h = drop_of_length-le ls h

-- a writer that ended without an error had no fault
pub no_fault : (f : Option WriteFault) → is_err (write_result f) ≡ false → f ≡ None
no_fault None h = refl
no_fault (Some f) h = absurd (cc h)
