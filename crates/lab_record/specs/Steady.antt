-- Lines on a device that refuses just the writes of `fail` lines: their steps, the state after them, and the stop that
-- they armed last.
use Rattle.std.specs.Prelude.{◌≡◌, ℕ, true, List, [], ◌∷◌, Option, Some}
use Rattle.mc_words.specs.model_device.specs.Device.{BenchState, DeviceState}
use Rattle.law_events.specs.law_promise.specs.model_play.specs.DeckGrammar.{DeckLine}
use Rattle.law_events.specs.law_promise.specs.model_play.specs.DeckGrammar as line
use Rattle.law_events.specs.law_promise.specs.model_play.specs.Play.{State, Step, armed_stop_in, moves_of, steady_at, step}
use Rattle.mc_script.specs.declared.player.Player.{Player}
use Rattle.mc_script.specs.Players.{device_of, IsPlayerAt}

-- the step of a line
abbrev pub steady_step : State → ℕ × DeckLine → Step
steady_step s l = step s l (steady_at (armed_stop_in s) l.1 (moves_of s l))

-- the state after lines
unfoldable pub state_after : State → List (ℕ × DeckLine) → State
state_after s [] = s
state_after s (l ∷ ls) = state_after (steady_step s l).after ls

-- a player of such a device is at a state of a play
pub record IsSteadyAt {N : Type 0} (state : N → DeviceState) (bench : N → BenchState) (p : Player N) (s : State) : Type 0 where
  pub at : IsPlayerAt state bench p s
  pub steady : (bench (device_of p)).steady ≡ true

-- the device write of the last stop that was armed, by that before a line
abbrev pub armed_by : Option ℕ → DeckLine → Option ℕ
armed_by a (line.Cut k fill) = Some k
armed_by a (line.Fail k) = Some k
armed_by a l = a

-- that of lines
unfoldable pub armed_in : Option ℕ → List (ℕ × DeckLine) → Option ℕ
armed_in a [] = a
armed_in a (l ∷ ls) = armed_in (armed_by a l.1) ls
