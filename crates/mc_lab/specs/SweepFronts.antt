-- The lines of a deck that were played once for all trials of the next one, and what is kept of their play.
use Rattle.std.specs.Prelude.{◌≡◌, ℕ, ◌≤◌, Bool, true, false, List, length, take, Option, Some, None}
use Rattle.law_explore.specs.model_device.specs.Card.{Card}
use Rattle.law_explore.specs.model_device.specs.Image.{Two}
use Rattle.law_explore.specs.model_device.specs.PowerUp.{OnCard}
use Rattle.law_explore.specs.model_play.specs.DeckGrammar.{DeckLine}
use Rattle.law_explore.specs.model_play.specs.Family.{is_running}
use Rattle.law_explore.specs.model_play.specs.Play.{Unarmed, State, AfterPower, Warm, start}
use Rattle.mc_store.specs.Power.{HoldsBase}
use Rattle.mc_script.specs.declared.live.Live.{Live}
use Rattle.mc_script.specs.declared.live.Live.TheVariants as live
use Rattle.mc_script.specs.Lives.{LiveShows}
use Rattle.mc_lab.specs.Sweeps.{state_on_blank}
use Rattle.mc_lab.specs.declared.sweep_front.Kept.{Kept}
use Rattle.mc_lab.specs.declared.sweep_play.Laboratory.{Laboratory}

-- whether what was saved is a card that runs
abbrev pub is_card : Live → Bool
is_card (live.Running s) = true
is_card live.Unpowered = false
is_card live.Muted = false

-- What was kept shows a state of a play on these words: they hold its card, which has layout 2 and on which recovery has
-- no write to make; the card runs with the session state that was saved; the budget is that of the state, and no stop is
-- armed.
pub record ShowsPlay (m : List (List ℕ)) (k : Kept) (w : Warm) : Type 0 where
  pub card : Card
  pub base : w.base ≡ OnCard card
  pub layout : card.layout ≡ 2
  pub owed : w.owed ≡ 0
  pub holds : HoldsBase (OnCard card) 0 Two m
  pub live : LiveShows m k.live w.live
  pub runs : is_running w.live ≡ true
  pub budget : k.budget ≡ w.budget
  pub some : 1 ≤ k.budget
  pub most : k.budget ≤ 65536
  pub unarmed : w.armed ≡ Unarmed

-- what was kept of a play on these words, if anything was, is that of a state; else the play is before its first line
abbrev pub IsKeptAt : List (List ℕ) → Option Kept → State → Type 0
IsKeptAt m None s = s ≡ start m
IsKeptAt m (Some k) s = (w : Warm) × (s ≡ AfterPower w) × ShowsPlay m k w

-- these lines were played: what is kept, with the root as the words, is the state after the first of them
pub record HasPlayed (l : Laboratory) (ls : List (ℕ × DeckLine)) : Type 0 where
  pub within : l.played ≤ length ls
  pub kept : IsKeptAt l.device.root l.kept (state_on_blank (take l.played ls))
