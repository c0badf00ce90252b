-- A card, or a fault, in words without writes that recovery still has to make, and what runs on it.
use Rattle.std.specs.Prelude.{◌≡◌, ℕ, List, ⊤}
use Rattle.law_explore.specs.model_device.specs.Image.{Two}
use Rattle.law_explore.specs.model_device.specs.PowerUp.{Base, OnCard, AtFault}
use Rattle.law_explore.specs.model_play.specs.Play as play
use Rattle.law_explore.specs.model_play.specs.Play.{Running, Unpowered, Muted}
use Rattle.mc_store.specs.Power.{HoldsBase}
use Rattle.mc_script.specs.declared.live.Live.{Live}
use Rattle.mc_script.specs.Lives.{LiveShows}

-- the base of a state that is kept: a card of layout 2 if it runs, and else a fault
abbrev pub IsKeptBase : play.Live → Base → Type 0
IsKeptBase (Running session_state) (OnCard c) = c.layout ≡ 2
IsKeptBase (Running session_state) (AtFault cause place) = ⊥
IsKeptBase Unpowered (OnCard c) = ⊥
IsKeptBase Unpowered (AtFault cause place) = ⊤
IsKeptBase Muted (OnCard c) = ⊥
IsKeptBase Muted (AtFault cause place) = ⊤

-- Words show a base and what runs on it: they hold the base without writes that recovery still has to make, and what
-- was saved is what runs.
pub record IsShown (m : List (List ℕ)) (saved : Live) (b : Base) (l : play.Live) : Type 0 where
  pub holds : HoldsBase b 0 Two m
  pub live : LiveShows m saved l
  pub base : IsKeptBase l b

-- they show some base
abbrev pub ShowsSome : List (List ℕ) → Live → Type 0
ShowsSome m saved = (b : Base) × (l : play.Live) × IsShown m saved b l
