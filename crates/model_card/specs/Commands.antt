-- One command of the terminal on a running card: its items, its outcome, and the session state after it.
use Rattle.std.specs.Prelude.{ℕ, List, [], ◌∷◌, length, map, Option, Some, None}
use Rattle.model_machine.specs.Apdu.{ApduParts}
use Rattle.model_machine.specs.model_device.specs.Card.{Card}
use Rattle.model_machine.specs.model_device.specs.Layout.{step_of}
use Rattle.model_machine.specs.Chain.{Outcome, Reply, Turn, Ran, run}
use Rattle.model_card.specs.Items.{Change, Item, Plain, Atomic, apps_after_change, BankItem, Piece, Blank, Note, Commit, Enter, Remove, write_items}
use Rattle.model_card.specs.Manager.{Selected, SessionState, Route, WrongLength, WrongClass, ToSelect, ToManager, ToApplication, route, Managed, Declines, Accepts, select, manage, room_on}

-- what a command does if nothing stops it: its items, its outcome, the session state after it, the pairs of its
-- delegations, and its turns
pub record Command : Type 0 where
  pub items : List Item
  pub outcome : Outcome
  pub session_state : SessionState
  pub pairs : List (List ℕ × List ℕ)
  pub turns : List Turn

-- a reply that is a status alone
abbrev pub status : ℕ → Outcome
status sw = Reply [] sw

-- a command that is refused with a status, and changes nothing
abbrev pub refusal : SessionState → ℕ → Command
refusal session_state sw = record { items = []; outcome = status sw; session_state = session_state; pairs = []; turns = [] }

-- an item of the bank without its contents; `whole` is the creation or the deletion
abbrev pub item_of : Item → BankItem → Item
item_of whole (Enter s n) = whole
item_of whole (Remove n) = whole
item_of whole (Piece s p at b) = Plain
item_of whole (Blank s at n) = Plain
item_of whole (Note s n i) = Plain
item_of whole (Commit n ws) = Plain

-- a creation or deletion, as the atomic write of the header words that it changes
abbrev pub atomic_of : Card → Option Change → Item
atomic_of c None = Plain
atomic_of c (Some ch) = Atomic (length (step_of c (record c { apps = apps_after_change ch c.apps }))) ch

-- the manager's answer as a command
abbrev pub manager_command : Card → SessionState → Managed → Command
manager_command c session_state (Declines sw) = refusal session_state sw
manager_command c session_state (Accepts a) =
    record { items = map (item_of (atomic_of c a.change)) a.items; outcome = Reply a.body 0x9000; session_state = a.session_state; pairs = []; turns = [] }

-- a run as a command: its session bytes stay with the selection
abbrev pub ran_command : SessionState → List ℕ → Ran → Command
ran_command session_state n r =
    record {
      items = write_items r.writes;
      outcome = r.outcome;
      session_state = record session_state { selected = Some (record { name = n; session = r.session }) };
      pairs = r.pairs;
      turns = r.turns;
    }

-- a command for the selected application: 6985 if none is selected
abbrev pub application_command : Card → SessionState → Option Selected → ApduParts → ℕ → Command
application_command c session_state None a budget = refusal session_state 0x6985
application_command c session_state (Some s) a budget = ran_command session_state s.name (run c.apps s.name s.session a budget)

-- a command by its route
abbrev pub by_route : Card → SessionState → ℕ → Route → Command
by_route c session_state budget WrongLength = refusal session_state 0x6700
by_route c session_state budget WrongClass = refusal session_state 0x6E00
by_route c session_state budget (ToSelect a) = manager_command c session_state (select c.apps session_state a)
by_route c session_state budget (ToManager a) = manager_command c session_state (manage (room_on c) c.apps session_state a)
by_route c session_state budget (ToApplication a) = application_command c session_state session_state.selected a budget

-- one command on a running card
unfoldable pub command : Card → SessionState → List ℕ → ℕ → Command
command c session_state bytes budget = by_route c session_state budget (route bytes)
