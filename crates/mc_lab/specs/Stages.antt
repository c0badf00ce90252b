-- A play of a deck up to some of its lines.
use Rattle.std.specs.Prelude.{◌≡◌, ℕ, true, List, drop}
use Rattle.law_explore.specs.model_device.specs.Device.{DeviceState, BenchState}
use Rattle.law_explore.specs.model_play.specs.DeckGrammar.{DeckLine}
use Rattle.law_explore.specs.model_play.specs.Play.{State, Step}
use Rattle.mc_script.specs.declared.player.Player.{Player}
use Rattle.mc_script.specs.Players.{device_of, IsPlayerAt}
use Rattle.mc_lab.specs.Rising.{last_of}
use Rattle.mc_lab.specs.Expectations.{steady_from, step_text}

module _ {N : Type 0} (state : N → DeviceState) (bench : N → BenchState) where
  -- the first lines were played on a steady bench, as steps of the whole play; the text is the result of the last of
  -- them
  pub record Staged (whole : List Step) (ls : List (ℕ × DeckLine)) (p : Player N) (count : ℕ) (text : List ℕ) : Type 0 where
    pub here : State
    pub at : IsPlayerAt state bench p here
    pub steady : (bench (device_of p)).steady ≡ true
    pub rest : drop count whole ≡ steady_from here (drop count ls)
    pub last : text ≡ step_text (last_of count whole)
