-- What runs on a player's device, saved and put back.
use Rattle.std.specs.Prelude.{◌≡◌, ℕ, List, ⊤}
use Rattle.model_play.specs.Play as play
use Rattle.model_play.specs.Play.{Running, Unpowered, Muted}
use Rattle.mc_card.specs.Saved.{SavedState, FitsWords, session_state_on}
use Rattle.mc_script.specs.declared.player.Power.{Power}
use Rattle.mc_script.specs.declared.player.Power.TheVariants as power
use Rattle.mc_script.specs.declared.live.Live.{Live}
use Rattle.mc_script.specs.declared.live.Live.TheVariants as live

-- a card that runs with this session state, which fits the words
pub record ShowsSession (m : List (List ℕ)) (s : SavedState) (l : play.Live) : Type 0 where
  pub fits : FitsWords m s
  pub runs : l ≡ Running (session_state_on m s)

-- what was saved is what runs in some words
abbrev pub LiveShows : List (List ℕ) → Live → play.Live → Type 0
LiveShows m live.Unpowered l = l ≡ Unpowered
LiveShows m live.Muted l = l ≡ Muted
LiveShows m (live.Running s) l = ShowsSession m s l

-- what was saved fits words
abbrev pub FitsLive : List (List ℕ) → Live → Type 0
FitsLive m live.Unpowered = ⊤
FitsLive m live.Muted = ⊤
FitsLive m (live.Running s) = FitsWords m s

-- power without a card
abbrev pub IsStopped : Power → Type 0
IsStopped power.Off = ⊤
IsStopped power.Mute = ⊤
IsStopped power.BeforePower = ⊥
IsStopped power.On = ⊥

-- the play of that power
abbrev pub live_at : Power → play.Live
live_at power.Mute = Muted
live_at power.Off = Unpowered
live_at power.BeforePower = Unpowered
live_at power.On = Unpowered
