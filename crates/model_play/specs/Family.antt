-- Families of applications that call no other, and which commands of a play are a family's.
use Rattle.std.specs.Prelude.{◌≡◌, ℕ, Bool, true, false, List, [], ◌∷◌, Option, Some, None, ⊤}
use Rattle.model_card.specs.model_device.specs.Bytes.{has_name}
use Rattle.model_card.specs.Manager.{Selected, SessionState, Route, WrongLength, WrongClass, ToSelect, ToManager, ToApplication, route}
use Rattle.model_play.specs.Play.{Live, Running, Unpowered, Muted, State, BeforePower, AfterPower, Step, select_bytes}
use Rattle.model_play.specs.DeckGrammar.{DeckLine}
use Rattle.model_play.specs.DeckGrammar as line

-- a delegation stays inside the family or outside it
abbrev pub ClosedPairs : List (List ℕ) → List (List ℕ × List ℕ) → Type 0
ClosedPairs K [] = ⊤
ClosedPairs K (p ∷ ps) = (has_name p.0 K ≡ has_name p.1 K) × ClosedPairs K ps

-- each delegation of a play stays inside the family or outside it; those of stopped commands count as if no stop had
-- come
abbrev pub Closed : List (List ℕ) → List Step → Type 0
Closed K [] = ⊤
Closed K (t ∷ ts) = ClosedPairs K t.pairs × Closed K ts

-- ---- commands of a family

-- the command of a select or apdu line
abbrev pub command_of : DeckLine → Option (List ℕ)
command_of (line.Sent (line.Select n)) = Some (select_bytes n)
command_of (line.Sent (line.Apdu b)) = Some b
command_of _ = None

-- whether the selected application is of the family
abbrev pub selects_in : List (List ℕ) → Option Selected → Bool
selects_in K None = false
selects_in K (Some s) = has_name s.name K

-- whether a command is the family's: a SELECT whose data are a name of the family, or a command for a selected
-- application of it
abbrev pub routes_in : List (List ℕ) → SessionState → Route → Bool
routes_in K session_state WrongLength = false
routes_in K session_state WrongClass = false
routes_in K session_state (ToSelect a) = has_name a.body K
routes_in K session_state (ToManager a) = false
routes_in K session_state (ToApplication a) = selects_in K session_state.selected

-- whether a card runs in a state
abbrev pub live_in : State → Live
live_in (BeforePower m b a) = Unpowered
live_in (AfterPower s) = s.live

-- whether a card runs
abbrev pub is_running : Live → Bool
is_running (Running session_state) = true
is_running Unpowered = false
is_running Muted = false

-- whether a line's command is one of the family, on a running card
abbrev pub is_own_command : List (List ℕ) → Live → Option (List ℕ) → Bool
is_own_command K (Running session_state) (Some bytes) = routes_in K session_state (route bytes)
is_own_command K (Running session_state) None = false
is_own_command K Unpowered bytes = false
is_own_command K Muted bytes = false

-- whether a line is a command of the family, on a running card
abbrev pub is_own : List (List ℕ) → Step → Bool
is_own K t = is_own_command K (live_in t.before) (command_of t.line)
