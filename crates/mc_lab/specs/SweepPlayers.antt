-- The states of the model that a player represents in the plays of a sweep.
use Rattle.std.specs.Prelude.{◌≡◌, ℕ, true, Bool, List, option_map, Option, Some, None}
use Rattle.mc_blocks.specs.declared.image.Unusable.{Unusable}
use Rattle.law_explore.specs.model_device.specs.Device.{DeviceState, BenchState}
use Rattle.law_explore.specs.model_device.specs.Card.{Card}
use Rattle.law_explore.specs.model_device.specs.PowerUp.{OnCard}
use Rattle.law_explore.specs.model_play.specs.Family.{is_running}
use Rattle.law_explore.specs.model_play.specs.Play.{State, AfterPower, Warm, Unarmed}
use Rattle.law_explore.specs.model_play.specs.DeckGrammar.{DeckLine}
use Rattle.mc_script.specs.declared.answer.Answer.{Answer}
use Rattle.mc_script.specs.declared.answer.Answer.TheVariants as answer
use Rattle.mc_script.specs.declared.player.Player.{Player}
use Rattle.mc_script.specs.Cuts.{is_off}
use Rattle.mc_script.specs.Players.{answer_value, device_of, IsPlayerAt}
use Rattle.mc_lab.specs.Sweeps.{steady_step, state_on_blank, cut_statement}
use Rattle.mc_lab.specs.declared.sweep_trial.TrialLines.{TrialLines}
use Rattle.mc_lab.specs.SweepBodies.{next, trial_lines, hits}

-- why a power line found no card
abbrev pub fault_in : Option Answer → Option Unusable
fault_in (Some (answer.Unusable u)) = Some u
fault_in r = None

-- a number of device writes that a power line did not exceed, by its result: the exact number if it found a card
abbrev pub most_in : Option Answer → ℕ
most_in (Some (answer.Ready n)) = n
most_in r = 65535

module _ {N : Type 0} (state : N → DeviceState) (bench : N → BenchState) where
  -- a player represents a state, and its bench refuses no write by itself
  pub record IsSteadyAt (p : Player N) (s : State) : Type 0 where
    pub at : IsPlayerAt state bench p s
    pub steady : (bench (device_of p)).steady ≡ true

  -- a card of these words runs after a power line that made no write, with this budget
  pub record IsPoweredUp (p : Player N) (m : List (List ℕ)) (b : ℕ) (c : Card) : Type 0 where
    pub warm : Warm
    pub at : IsSteadyAt p (AfterPower warm)
    pub words : (state (device_of p)).words ≡ m
    pub base : warm.base ≡ OnCard c
    pub owed : warm.owed ≡ 0
    pub runs : is_running warm.live ≡ true
    pub budget : warm.budget ≡ b
    pub unarmed : warm.armed ≡ Unarmed

  -- a line was played from a state, with its result
  pub record LineOn (s : State) (l : ℕ × DeckLine) (answer : Option Answer) (q : Player N) : Type 0 where
    pub at : IsSteadyAt q (next s l)
    pub answers : option_map (answer_value state q) answer ≡ (steady_step s l).result

  -- a line was played from a state with its write `k` cut, if it makes that write
  pub record CutOn (s : State) (l : ℕ × DeckLine) (n k : ℕ) (fill : List ℕ) (hit : Bool) (q : Player N) : Type 0 where
    pub at : IsSteadyAt q (next (next s (cut_statement n k fill)) l)
    pub says : hit ≡ is_off (steady_step (next s (cut_statement n k fill)) l).result

  -- the lines of a trial from its line on were played
  pub record TrialOn (front : List (ℕ × DeckLine)) (l : ℕ × DeckLine) (b : TrialLines) (hit : Bool) (q : Player N) : Type 0 where
    pub at : IsSteadyAt q (state_on_blank (trial_lines front l b))
    pub says : hit ≡ hits front l b
