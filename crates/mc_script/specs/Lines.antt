-- The effect of one line of a deck on a player and its device, and the effect of a whole deck.
use Rattle.std.specs.Prelude.{◌≡◌, ℕ, cond, nat_lt, List, [], length, slice_set, Option, option_map}
use Rattle.model_play.specs.model_device.specs.Device.{DeviceState, BenchState, bench_after_pokes}
use Rattle.model_play.specs.model_machine.specs.Chain.{Turn}
use Rattle.model_play.specs.DeckGrammar.{DeckLine}
use Rattle.model_play.specs.Play.{State, FailedWrite, Step, step, formatted_image}
use Rattle.model_play.specs.TraceText.{shown_turns}
use Rattle.mc_script.specs.declared.answer.Answer.{Answer}
use Rattle.mc_script.specs.declared.player.Player.{Player}
use Rattle.mc_script.specs.Players.{answer_value, device_of, IsPlayerAt}
use Rattle.mc_script.specs.Plays.{Bench, PlayedLine, LeadsTo}

-- the bench of a player
abbrev pub bench_of : {N : Type 0} → (N → DeviceState) → (N → BenchState) → Player N → Bench
bench_of state bench p = record { device = state (device_of p); bench = bench (device_of p) }

module _ {N : Type 0} (state : N → DeviceState) (bench : N → BenchState) where
  -- A line was played as this step, and the player is at the state after it; nothing is claimed of its recorded turns.
  pub record Stepped (p : Player N) (s : State) (l : ℕ × DeckLine) (w : Option FailedWrite) (t : Step) (answer : Option Answer) (q : Player N) : Type 0 where
    pub played : PlayedLine s l w t (bench_of state bench p) (bench_of state bench q)
    pub at : IsPlayerAt state bench q t.after
    pub answers : option_map (answer_value state q) answer ≡ t.result

  -- a line without turns that was played
  pub record SilentLine (p : Player N) (s : State) (l : ℕ × DeckLine) (w : Option FailedWrite) (answer : Option Answer) (q : Player N) : Type 0 where
    pub stepped : Stepped p s l w (step s l w) answer q
    pub silent : shown_turns (step s l w).turns (step s l w).stop ≡ []

  -- a line without turns of a player at a state of a play, whatever its number
  abbrev pub SilentDone : Player N → DeckLine → Option Answer → Player N → Type 0
  SilentDone p l answer q = (s : State) (n : ℕ) → IsPlayerAt state bench p s → (w : Option FailedWrite) × SilentLine p s (n, l) w answer q

  -- a device before the first power line that was formatted
  pub record IsFormatted (d e : N) : Type 0 where
    pub device : state e ≡ record (state d) { words = formatted_image (state d).words }
    pub calls : bench e ≡ bench_after_pokes 5 (bench d)

  -- a device before the first power line with one word set, if it has the place
  pub record IsPoked (d : N) (at : ℕ) (fill : List ℕ) (e : N) : Type 0 where
    pub device : state e ≡ record (state d) { words = slice_set (state d).words at fill }
    pub calls : bench e ≡ bench_after_pokes (cond (nat_lt at (length (state d).words)) 1 0) (bench d)

module _ {N R : Type 0} (state : N → DeviceState) (bench : N → BenchState) (reported : R → List Turn → R → Type 0) where
  -- a line that was played with the given failed write, if it had one, and whose turns were recorded
  pub record Lined (p : Player N) (s : State) (l : ℕ × DeckLine) (w : Option FailedWrite) (before after : R) (answer : Option Answer) (q : Player N) : Type 0 where
    pub stepped : Stepped state bench p s l w (step s l w) answer q
    pub reports : reported before (shown_turns (step s l w).turns (step s l w).stop) after

  -- a line of a player at a state of a play, whatever its number
  abbrev pub LineDone : Player N → DeckLine → R → R → Option Answer → Player N → Type 0
  LineDone p l before after answer q = (s : State) (n : ℕ) → IsPlayerAt state bench p s → (w : Option FailedWrite) × Lined p s (n, l) w before after answer q

-- ---- whole decks

-- All lines were played from a state, with the given failed writes, up to a state that the player is at.
pub record DeckPlayed {N : Type 0} (state : N → DeviceState) (bench : N → BenchState) (p : Player N) (s : State) (ls : List (ℕ × DeckLine)) (q : Player N) : Type 0 where
  pub worn : List (Option FailedWrite)
  pub here : State
  pub at : IsPlayerAt state bench q here
  pub leads : LeadsTo s ls worn (bench_of state bench p) here (bench_of state bench q)
