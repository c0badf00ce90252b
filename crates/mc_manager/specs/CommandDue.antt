-- The verdict on a command by the routing and the manager's table, and its reply. Status words are those of ISO/IEC
-- 7816-4.
use Rattle.std.specs.Prelude.{◌≡◌, ◌⊎◌, ℕ, Bool, cond, ◌&&◌, ◌==◌, List, [], option_map, Option, Some, None}
use Rattle.model_card.specs.model_machine.specs.Apdu.{ApduParts}
use Rattle.model_card.specs.model_device.specs.Bytes.{zeros, lookup}
use Rattle.model_card.specs.model_device.specs.Card.{App}
use Rattle.model_card.specs.Items.{Change, apps_after_change, BankItem}
use Rattle.model_card.specs.Manager.{Selected, SessionState, Route, WrongLength, WrongClass, ToSelect, ToManager, ToApplication, route_of_parts, Managed, Declines, Accepts, Accepted, Open, fresh, select, manage}
use Rattle.mc_apdu.specs.declared.reply.Reply.{Reply}
use Rattle.mc_bank.specs.Bank.{app_of}
use Rattle.mc_manager.specs.declared.selection.Selection.{Selection}
use Rattle.mc_manager.specs.declared.routed.Routed.{Routed}
use Rattle.mc_manager.specs.declared.routed.Routed.TheVariants.{Answer, Fresh, Pass}
use Rattle.mc_manager.specs.ManagerState.{BankView, ManagerState, session_state_of}

-- the verdict on a command: it is refused with a status word, selects an application, is done, or is passed to the
-- selected application
pub data CommandDue : Type 0 where
  Refuses : (sw : ℕ) → CommandDue
  Selects : (done : Accepted) → CommandDue
  Does : (done : Accepted) → CommandDue
  Passes : CommandDue

-- the verdict on a SELECT
abbrev pub due_select : Managed → CommandDue
due_select (Declines sw) = Refuses sw
due_select (Accepts d) = Selects d

-- the verdict on a command of class BE
abbrev pub due_manager : Managed → CommandDue
due_manager (Declines sw) = Refuses sw
due_manager (Accepts d) = Does d

-- the verdict on a command for the selected application
abbrev pub due_application : Option Selected → CommandDue
due_application None = Refuses 0x6985
due_application (Some s) = Passes

-- the verdict on a command by its route
abbrev pub due_on : BankView → SessionState → Route → CommandDue
due_on v session_state WrongLength = Refuses 0x6700
due_on v session_state WrongClass = Refuses 0x6E00
due_on v session_state (ToSelect a) = due_select (select v.state.apps session_state a)
due_on v session_state (ToManager a) = due_manager (manage v.room v.state.apps session_state a)
due_on v session_state (ToApplication a) = due_application session_state.selected

-- the verdict on a command, by a manager over a bank and the session bytes of the selection
abbrev pub due : BankView → List ℕ → ManagerState → ApduParts → CommandDue
due v session m a = due_on v (session_state_of v.site_bytes session m) (route_of_parts (Some a))

-- ---- the bank

-- the items that a command makes on the bank, in order
abbrev pub items_of : CommandDue → List BankItem
items_of (Refuses sw) = []
items_of (Selects d) = d.items
items_of (Does d) = d.items
items_of Passes = []

-- the applications after a creation or deletion
abbrev pub with_change : Option Change → List (List ℕ × App) → List (List ℕ × App)
with_change None apps = apps
with_change (Some c) apps = apps_after_change c apps

-- the applications after a command
abbrev pub apps_after : CommandDue → List (List ℕ × App) → List (List ℕ × App)
apps_after (Refuses sw) apps = apps
apps_after (Selects d) apps = with_change d.change apps
apps_after (Does d) apps = with_change d.change apps
apps_after Passes apps = apps

-- ---- the reply

-- a reply with these data and this status word
pub record RepliesWith (bytes : List ℕ) (status : ℕ) (r : Reply) : Type 0 where
  pub body : r.body.items ≡ bytes
  pub sw : r.sw ≡ status

-- a command that is refused: a status word without data, and nothing changed
pub record CommandRefused (sw : ℕ) (m : ManagerState) (r : Reply) (m' : ManagerState) : Type 0 where
  pub reply : RepliesWith [] sw r
  pub unchanged : m' ≡ m

-- a selection that a SELECT made, with its slot: its session bytes are zeros, and the open load is unchanged
pub record Chosen (d : Accepted) (v : BankView) (m : ManagerState) (k : ℕ) (r : Reply) (m' : ManagerState) : Type 0 where
  pub selected : Selection
  pub reply : RepliesWith d.body 0x9000 r
  pub now : m'.selected ≡ Some selected
  pub slot : selected.slot ≡ k
  pub load : m'.load ≡ m.load
  pub session_state : session_state_of v.site_bytes (zeros (app_of v.state.apps (Some selected.aid)).session) m' ≡ d.session_state

-- a command of class BE that is done; the selection and its session bytes are unchanged
pub record CommandDone (d : Accepted) (session : List ℕ) (m : ManagerState) (r : Reply) (v' : BankView) (m' : ManagerState) : Type 0 where
  pub reply : RepliesWith d.body 0x9000 r
  pub selected : m'.selected ≡ m.selected
  pub session_state : session_state_of v'.site_bytes session m' ≡ d.session_state

-- a command that is passed to the application in this slot
pub record CommandPassed (m : ManagerState) (k : ℕ) (m' : ManagerState) : Type 0 where
  pub slot : option_map (λ s. s.slot) m.selected ≡ Some k
  pub unchanged : m' ≡ m

-- the reply to a command that did not stop, and the manager after it
abbrev pub CommandLeaves : CommandDue → List ℕ → BankView → ManagerState → Routed → BankView → ManagerState → Type 0
CommandLeaves (Refuses sw) session v m (Answer r) v' m' = CommandRefused sw m r m'
CommandLeaves (Selects d) session v m (Fresh slot r) v' m' = Chosen d v m slot r m'
CommandLeaves (Does d) session v m (Answer r) v' m' = CommandDone d session m r v' m'
CommandLeaves Passes session v m (Pass slot) v' m' = CommandPassed m slot m'
CommandLeaves _ session v m _ v' m' = ⊥

-- ---- ticks

-- OPEN: class BE, INS 12
abbrev pub is_open : ApduParts → Bool
is_open a = a.cla == 0xBE && a.ins == 0x12

-- the maximum number of steps of a command
abbrev pub most_ticks : ApduParts → ℕ → ℕ
most_ticks a ticks = cond (is_open a) ticks 0

-- ---- stale bytes

-- every application after a command was there before it, or is that of the open load: its code, DIR and FCI as they
-- were sent, its data as they were sent and filled with zeros, its sizes and access list those of the OPEN
abbrev pub NoneStale : Option Open → List (List ℕ × App) → List (List ℕ × App) → Type 0
NoneStale load before after = (n : List ℕ) → (a : App) → lookup after n ≡ Some a → (lookup before n ≡ Some a) ⊎ ((o : Open) × (load ≡ Some o) × (a ≡ fresh o))
