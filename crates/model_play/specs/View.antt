-- What a family observes and holds, in a play and on a card of its own, and the law that both are equal.
use Rattle.std.specs.Prelude.{◌≡◌, ℕ, Bool, true, false, ◌&&◌, List, [], ◌∷◌, ◌++◌, map, Option, Some, None}
use Rattle.model_card.specs.model_device.specs.Bytes.{has_name, lookup}
use Rattle.model_card.specs.model_device.specs.Card.{App}
use Rattle.model_card.specs.Items.{Item, StopAt}
use Rattle.model_play.specs.Play.{State, LineResult, Step, static_of, last_state}
use Rattle.model_play.specs.Family.{live_in, is_running, is_own}
use Rattle.model_play.specs.Given.{Given, apps_in, given_of_play}
use Rattle.model_play.specs.Solo.{solo}
use Rattle.model_play.specs.DeckGrammar.{DeckLine}
use Rattle.model_play.specs.DeckGrammar as line

-- the view of a family: the results of its commands and dumps in order, and its static bytes at the end
pub record View : Type 0 where
  pub answers : List LineResult
  pub rest : List LineResult

-- whether a line's result is the family's: its commands, and the dumps of its names while a card runs
abbrev pub is_seen : List (List ℕ) → Step → DeckLine → Bool
is_seen K t (line.Dump n) = has_name n K && is_running (live_in t.before)
is_seen K t _ = is_own K t

-- a result, if it is the family's
abbrev pub results_if : Bool → Option LineResult → List LineResult
results_if true (Some r) = r ∷ []
results_if true None = []
results_if false r = []

-- the results of a play that are the family's
unfoldable pub answers : List (List ℕ) → List Step → List LineResult
answers K [] = []
answers K (t ∷ ts) = results_if (is_seen K t t.line) t.result ++ answers K ts

-- the static bytes of each name, or that it is absent
abbrev pub rest_of : List (List ℕ) → List (List ℕ × App) → List LineResult
rest_of K apps = map (λ n. static_of (lookup apps n)) K

-- the view of a play that began in a state
abbrev pub view : List (List ℕ) → State → List Step → View
view K s steps = record { answers = answers K steps; rest = rest_of K (apps_in (last_state s steps)) }

-- the view on the card of its own
abbrev pub solo_view : List (List ℕ) → Given → View
solo_view K g = record { answers = (solo g).answer; rest = rest_of K (solo g).after.map }

-- ---- equal items, equal stops

-- a line's items and stop, if it is a command of the family
abbrev pub work_if : Bool → Step → List (List Item × Option StopAt)
work_if true t = (t.items, t.stop) ∷ []
work_if false t = []

-- the items of each command of the family, and the stop that hit it
unfoldable pub work : List (List ℕ) → List Step → List (List Item × Option StopAt)
work K [] = []
work K (t ∷ ts) = work_if (is_own K t) t ++ work K ts

-- the law of isolation for one play and one family
pub record IsIsolated (K : List (List ℕ)) (s : State) (steps : List Step) : Type 0 where
  pub view : view K s steps ≡ solo_view K (given_of_play K steps)
  pub same_stop : work K steps ≡ (solo (given_of_play K steps)).work
