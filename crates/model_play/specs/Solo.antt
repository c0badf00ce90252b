-- A card that holds one family alone: a map and a selection, without places, gaps, journals, others or limits of room.
use Rattle.std.specs.Prelude.{ℕ, cond, nat_le, List, [], ◌∷◌, ◌++◌, Option, Some, None}
use Rattle.model_card.specs.model_device.specs.Bytes.{lookup, insert, remove}
use Rattle.model_card.specs.model_machine.specs.Apdu.{ApduParts}
use Rattle.model_card.specs.model_device.specs.Card.{App}
use Rattle.model_card.specs.model_machine.specs.Chain.{Outcome, Reply, Ran, run}
use Rattle.model_card.specs.Items.{Item, moves, apps_after_items, StopAt, Stopped, at_stop, write_items}
use Rattle.model_card.specs.Manager.{Selected, SessionState, Route, WrongLength, WrongClass, ToSelect, ToManager, ToApplication, route, Managed, Declines, Accepts, select}
use Rattle.model_play.specs.Play.{LineResult, Answered, static_of, result_of_stop}
use Rattle.model_play.specs.Given.{Event, Arrives, Departs, Commands, Dumps, Leaves, Given}

-- a card that holds one family: its applications and its selection
pub record Solo : Type 0 where
  pub map : List (List ℕ × App)
  pub selected : Option Selected

-- a command on such a card: its items, its outcome, and the selection after it
pub record SoloCommand : Type 0 where
  pub items : List Item
  pub outcome : Outcome
  pub selected : Option Selected

-- a command that changes nothing
abbrev pub solo_refused : Solo → ℕ → SoloCommand
solo_refused t sw = record { items = []; outcome = Reply [] sw; selected = t.selected }

-- a SELECT on such a card
abbrev pub solo_selected : Solo → Managed → SoloCommand
solo_selected t (Declines sw) = solo_refused t sw
solo_selected t (Accepts a) = record { items = []; outcome = Reply a.body 0x9000; selected = a.session_state.selected }

-- a run on such a card
abbrev pub solo_ran : List ℕ → Ran → SoloCommand
solo_ran n r = record { items = write_items r.writes; outcome = r.outcome; selected = Some (record { name = n; session = r.session }) }

-- a command for the selected application
abbrev pub solo_passed : Solo → Option Selected → ApduParts → ℕ → SoloCommand
solo_passed t None a budget = solo_refused t 0x6985
solo_passed t (Some s) a budget = solo_ran s.name (run t.map s.name s.session a budget)

-- SELECT acts by its row; all else is passed to the selected application. Other commands are not given
abbrev pub solo_routed : Solo → ℕ → Route → SoloCommand
solo_routed t budget (ToSelect a) = solo_selected t (select t.map (record { selected = t.selected; load = None }) a)
solo_routed t budget (ToApplication a) = solo_passed t t.selected a budget
solo_routed t budget WrongLength = solo_refused t 0x6700
solo_routed t budget WrongClass = solo_refused t 0x6E00
solo_routed t budget (ToManager a) = solo_refused t 0x6D00

-- one command on such a card
unfoldable pub solo_command : Solo → List ℕ → ℕ → SoloCommand
solo_command t bytes budget = solo_routed t budget (route bytes)

-- the stop, if it hits a command of m device writes
abbrev pub hits : ℕ → Option StopAt → Option StopAt
hits m None = None
hits m (Some s) = cond (nat_le s.at m) (Some s) None

-- an event's part of the fold: the card after it, its result if it has one, and its items and stop if it is a command
pub record Heard : Type 0 where
  pub after : Solo
  pub answer : List LineResult
  pub work : List (List Item × Option StopAt)

-- a command with the stop that hits it, if one does: its whole items are done and the selection is lost; the writes
-- that recovery still has to make are dropped
abbrev pub solo_hit : Solo → SoloCommand → Option StopAt → Heard
solo_hit t r None =
    record { after = record { map = apps_after_items t.map r.items; selected = r.selected }; answer = Answered r.outcome ∷ []; work = (r.items, None) ∷ [] }
solo_hit t r (Some s) =
    record {
      after = record { map = apps_after_items t.map (at_stop r.items s.at s.left).whole; selected = None };
      answer = result_of_stop s s.kind ∷ [];
      work = (r.items, Some s) ∷ [];
    }

-- a command with the stop that it is given
abbrev pub heard_command : Solo → SoloCommand → Option StopAt → Heard
heard_command t r s = solo_hit t r (hits (moves r.items) s)

-- an event without a result
abbrev pub silent : Solo → Heard
silent t = record { after = t; answer = []; work = [] }

-- one event on such a card
unfoldable pub hears : Solo → Event → Heard
hears t (Arrives n a) = silent (record t { map = insert t.map n a })
hears t (Departs n) = silent (record t { map = remove t.map n })
hears t Leaves = silent (record t { selected = None })
hears t (Dumps n) = record { after = t; answer = static_of (lookup t.map n) ∷ []; work = [] }
hears t (Commands b budget s) = heard_command t (solo_command t b budget) s

-- what was heard of one event, and of those after it
abbrev pub heard_before : Heard → Heard → Heard
heard_before h r = record { after = r.after; answer = h.answer ++ r.answer; work = h.work ++ r.work }

-- events in order
unfoldable pub hears_all : Solo → List Event → Heard
hears_all t [] = silent t
hears_all t (e ∷ es) =
    let h = hears t e in
    heard_before h (hears_all h.after es)

-- all that is given, from the start
abbrev pub solo : Given → Heard
solo g = hears_all (record { map = g.start; selected = None }) g.events
