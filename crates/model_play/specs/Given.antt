-- What a card that holds one family alone is given of a play: its applications at the start, and an event for each line
-- that concerns it.
use Rattle.std.specs.Prelude.{ℕ, Bool, true, false, cond, not, ◌&&◌, ◌||◌, ◌==◌, List, [], ◌∷◌, ◌++◌, is_some, unwrap_or, Option, Some, None}
use Rattle.model_card.specs.model_device.specs.declared.device.Stop.{Stop}
use Rattle.model_card.specs.model_device.specs.declared.device.Stop.TheVariants as stop
use Rattle.model_card.specs.model_device.specs.Bytes.{has_name}
use Rattle.model_card.specs.model_device.specs.Card.{App, app_at_place}
use Rattle.model_card.specs.model_machine.specs.Chain.{Outcome, Reply, Abended}
use Rattle.model_card.specs.Items.{Change, Fixed, Created, Deleted, Item, Plain, Atomic, StopAt}
use Rattle.model_card.specs.Manager.{Route, WrongLength, WrongClass, ToSelect, ToManager, ToApplication, route}
use Rattle.model_play.specs.Play.{Armed, Unarmed, ArmedCut, ArmedFail, Live, Running, Unpowered, Muted, State, BeforePower, AfterPower, LineResult, Answered, Step, armed_stop_in}
use Rattle.model_card.specs.model_device.specs.PowerUp.{Base, OnCard, AtFault}
use Rattle.model_play.specs.Family.{command_of, live_in, is_running, is_own}
use Rattle.model_play.specs.DeckGrammar.{DeckLine}
use Rattle.model_play.specs.DeckGrammar as line

-- an event: a creation or deletion that is durable, a command with its budget and its stop, a dump, or the loss of the
-- selection
pub data Event : Type 0 where
  Arrives : (name : List ℕ) (app : App) → Event
  Departs : (name : List ℕ) → Event
  Commands : (bytes : List ℕ) (budget : ℕ) (stop : Option StopAt) → Event
  Dumps : (name : List ℕ) → Event
  Leaves : Event

-- what is given of a play: the family's applications on the first card, without places, and the events in order
pub record Given : Type 0 where
  pub start : List (List ℕ × App)
  pub events : List Event

-- ---- the first card

-- the family's applications, without places
abbrev pub own_apps : List (List ℕ) → List (List ℕ × App) → List (List ℕ × App)
own_apps K [] = []
own_apps K (e ∷ es) = cond (has_name e.0 K) ((e.0, app_at_place 0 e.1) ∷ own_apps K es) (own_apps K es)

-- the applications of a base
abbrev pub apps_on : Base → List (List ℕ × App)
apps_on (OnCard c) = c.apps
apps_on (AtFault cause p) = []

-- the applications of a state
abbrev pub apps_in : State → List (List ℕ × App)
apps_in (BeforePower m b a) = []
apps_in (AfterPower s) = apps_on s.base

-- whether a line is a power line
abbrev pub is_power : DeckLine → Bool
is_power line.Power = true
is_power _ = false

-- the applications of the card that the first power line finds
abbrev pub first_apps : List Step → List (List ℕ × App)
first_apps [] = []
first_apps (t ∷ ts) = cond (is_power t.line) (apps_in t.after) (first_apps ts)

-- ---- events

-- the event of an item that is durable, if it is a creation or deletion, with its name
abbrev pub event_of : Item → Option (List ℕ × Event)
event_of Plain = None
event_of (Atomic w (Fixed n ps)) = None
event_of (Atomic w (Created n a)) = Some (n, Arrives n (app_at_place 0 a))
event_of (Atomic w (Deleted n)) = Some (n, Departs n)

-- an event, if its name is of the family
abbrev pub reported_event : List (List ℕ) → Option (List ℕ × Event) → List Event
reported_event K None = []
reported_event K (Some e) = cond (has_name e.0 K) (e.1 ∷ []) []

-- the events of the family's creations and deletions among whole items
abbrev pub events_of_items : List (List ℕ) → List Item → List Event
events_of_items K [] = []
events_of_items K (i ∷ is) = reported_event K (event_of i) ++ events_of_items K is

-- the stop of a cut that is armed, if one is
abbrev pub armed_stop : Armed → Option StopAt
armed_stop (ArmedCut k x) = Some (record { kind = stop.Off; at = k; left = x })
armed_stop Unarmed = None
armed_stop (ArmedFail k) = None

-- a failed write, else the cut that is armed
abbrev pub stop_by_kind : Stop → Armed → StopAt → Option StopAt
stop_by_kind stop.Worn armed t = Some t
stop_by_kind stop.Off armed t = armed_stop armed

-- the stop that a command is given: the failed write that hit it, else the cut that was armed, whether it hit or not
abbrev pub given_stop : Armed → Option StopAt → Option StopAt
given_stop armed None = armed_stop armed
given_stop armed (Some t) = stop_by_kind t.kind armed t

-- whether a result is a reply with the status 9000
abbrev pub is_done_reply : Option LineResult → Bool
is_done_reply (Some (Answered (Reply body sw))) = sw == 0x9000
is_done_reply _ = false

-- whether a command is a SELECT of a name outside the family
abbrev pub selects_foreign : List (List ℕ) → Route → Bool
selects_foreign K (ToSelect a) = not (has_name a.body K)
selects_foreign K _ = false

-- whether a line's command is such a SELECT
abbrev pub is_foreign_select : List (List ℕ) → Option (List ℕ) → Bool
is_foreign_select K None = false
is_foreign_select K (Some bytes) = selects_foreign K (route bytes)

-- whether the selection of the family is lost: by a stop, or by a SELECT of a name outside it that was answered with
-- 9000
abbrev pub is_left : List (List ℕ) → Step → Bool
is_left K t = is_some t.stop || (is_running (live_in t.before) && is_foreign_select K (command_of t.line) && is_done_reply t.result)

-- the event of a lost selection, if it is lost
abbrev pub leave_event_if : Bool → List Event
leave_event_if true = Leaves ∷ []
leave_event_if false = []

-- the budget in a state
abbrev pub budget_in : State → ℕ
budget_in (BeforePower m b a) = b
budget_in (AfterPower s) = s.budget

-- the event of a command of the family
abbrev pub command_event : Step → Option (List ℕ) → List Event
command_event t None = []
command_event t (Some bytes) = Commands bytes (budget_in t.before) (given_stop (armed_stop_in t.before) t.stop) ∷ []

-- the events of a line that is neither power nor dump: a command of the family, or else what is durable, and whether
-- the selection was lost
abbrev pub line_events : Bool → List (List ℕ) → Step → List Event
line_events true K t = command_event t (command_of t.line)
line_events false K t = events_of_items K t.whole ++ leave_event_if (is_left K t)

-- the event of a dump
abbrev pub dump_events : Bool → List ℕ → List Event
dump_events true n = Dumps n ∷ []
dump_events false n = []

-- the events of a line
abbrev pub events_of : List (List ℕ) → Step → DeckLine → List Event
events_of K t line.Power = Leaves ∷ []
events_of K t (line.Dump n) = dump_events (has_name n K && is_running (live_in t.before)) n
events_of K t _ = line_events (is_own K t) K t

-- the events of a play
unfoldable pub events : List (List ℕ) → List Step → List Event
events K [] = []
events K (t ∷ ts) = events_of K t t.line ++ events K ts

-- what is given of a play
abbrev pub given_of_play : List (List ℕ) → List Step → Given
given_of_play K steps = record { start = own_apps K (first_apps steps); events = events K steps }
