-- What the key of a card shows: applications, and what runs.
use Rattle.std.specs.Prelude.{◌≡◌, ℕ, ⊤, List, [], slice_get, Some}
use Rattle.law_explore.specs.model_device.specs.Card.{App, card_of}
use Rattle.law_explore.specs.model_play.specs.Play as play
use Rattle.law_explore.specs.model_play.specs.Play.{Running, Unpowered, Muted}
use Rattle.lab_branch.specs.declared.roster.Roster.{Roster}
use Rattle.lab_branch.specs.Rosters.{roster_value, roster_of, statics_of}
use Rattle.mc_script.specs.declared.live.Live.{Live}
use Rattle.mc_script.specs.declared.live.Live.TheVariants as live
use Rattle.lab_key.specs.declared.key.LiveKey.{LiveKey}
use Rattle.lab_key.specs.declared.key.LiveKey.TheVariants as key
use Rattle.lab_key.specs.declared.key.CardKey.{CardKey}
use Rattle.mc_card.specs.Saved.{FitsWords, session_state_on}
use Rattle.lab_key.specs.Sessions.{IsCard, session_value}

-- what was saved can be read from words: if a card runs, they hold it, and its session state fits them
abbrev pub IsReadable : List (List ℕ) → Live → Type 0
IsReadable m live.Unpowered = ⊤
IsReadable m live.Muted = ⊤
IsReadable m (live.Running s) = IsCard m × FitsWords m s

-- the applications in words if a card runs, and none if no card does
abbrev pub apps_on : List (List ℕ) → Live → List (List ℕ × App)
apps_on m live.Unpowered = []
apps_on m live.Muted = []
apps_on m (live.Running s) = (card_of m).apps

-- what runs in words, as it was saved
abbrev pub live_on : List (List ℕ) → Live → play.Live
live_on m live.Unpowered = Unpowered
live_on m live.Muted = Muted
live_on m (live.Running s) = Running (session_state_on m s)

-- what runs, of a key
abbrev pub live_value : LiveKey → play.Live
live_value key.Unpowered = Unpowered
live_value key.Muted = Muted
live_value (key.Running s) = Running (session_value s)

-- a key shows applications and what runs; `rosters` are the rosters by their numbers
pub record KeyShows (rosters : List Roster) (k : CardKey) (apps : List (List ℕ × App)) (l : play.Live) : Type 0 where
  pub roster : Roster
  pub found : slice_get rosters k.roster ≡ Some roster
  pub value : roster_value roster ≡ roster_of apps
  pub statics : k.statics.items ≡ statics_of apps
  pub live : live_value k.live ≡ l
