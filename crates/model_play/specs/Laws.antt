-- The laws of plays: isolation of closed families, every line whole or stopped, no stale byte in a new application, and
-- no chain of cuts that makes a card unusable.
use Rattle.std.specs.Prelude.{◌≡◌, ℕ, ◌-◌, Bool, true, false, cond, ◌==◌, List, [], ◌∷◌, ◌++◌, length, take, Option, Some, None, Result, Ok, Err, ⊤}
use Rattle.model_card.specs.declared.unit.AidFault.{AidFault}
use Rattle.model_card.specs.declared.card.Part.{Part}
use Rattle.model_card.specs.declared.card.Part.TheVariants as part
use Rattle.model_card.specs.declared.card.Sizes.{Sizes}
use Rattle.model_card.specs.model_device.specs.Bytes.{zeros, lookup}
use Rattle.model_card.specs.model_machine.specs.Apdu.{ApduParts}
use Rattle.model_card.specs.Units.{name_of}
use Rattle.model_card.specs.model_device.specs.Card.{App, Card, app_at_place}
use Rattle.model_card.specs.Items.{Change, Fixed, Created, Deleted, Item, Plain, Atomic, apps_after_items, StopAt, Stopped, at_stop}
use Rattle.model_card.specs.Manager.{SessionState, Route, WrongLength, WrongClass, ToSelect, ToManager, ToApplication, route, Got, got_of, with_got, sizes_in}
use Rattle.model_play.specs.Play.{Live, Running, Unpowered, Muted, Warm, State, BeforePower, AfterPower, Step, is_done, load_commands, plays, start, Possible, FailedWrite, select_bytes, delete_bytes}
use Rattle.model_card.specs.model_device.specs.PowerUp.{Base, OnCard, AtFault}
use Rattle.model_card.specs.Commands.{Command, command}
use Rattle.model_card.specs.Items as items
use Rattle.model_play.specs.Family.{Closed}
use Rattle.model_play.specs.Given.{apps_on, apps_in, is_power}
use Rattle.model_play.specs.View.{IsIsolated}
use Rattle.model_play.specs.ReadyAgain.{AllFitJournal, AreLines, ReadyAgain}
use Rattle.model_card.specs.model_device.specs.Device.{IsImage}
use Rattle.model_play.specs.DeckGrammar.{DeckLine}
use Rattle.model_play.specs.DeckGrammar as line

-- ---- every line leaves the card before it with its whole items

-- all items if no stop hit, else those that are whole after it
abbrev pub whole_of : List Item → Option StopAt → List Item
whole_of is None = is
whole_of is (Some s) = (at_stop is s.at s.left).whole

-- the applications after a line are those before it with these items; before the first power line there is no card
abbrev pub IsDoneFrom : State → List Item → State → Type 0
IsDoneFrom (BeforePower m b a) is after = is ≡ []
IsDoneFrom (AfterPower s) is after = apps_in after ≡ apps_after_items (apps_on s.base) is

-- a line has the whole items of its stop, and leaves the card with them
pub record KeepsLine (t : Step) : Type 0 where
  pub whole : t.whole ≡ whole_of t.items t.stop
  pub apps : IsDoneFrom t.before t.whole t.after

-- each line has the whole items of its stop, and leaves the card with them
abbrev pub KeepsLines : List Step → Type 0
KeepsLines [] = ⊤
KeepsLines (t ∷ ts) = KeepsLine t × KeepsLines ts

-- ---- no stale byte

-- what the commands of a load have sent since its OPEN
pub record Sent : Type 0 where
  pub sizes : Sizes
  pub got : Got

-- the application that they make: static bytes are the data that were sent, and zeros
abbrev pub sent_app : Sent → App
sent_app s =
    record {
      code = s.got.code;
      fixed = s.got.init ++ zeros (s.sizes.fixed - length s.got.init);
      session = s.sizes.session;
      deny = s.sizes.deny;
      dir = s.got.dir;
      fci = s.got.fci;
      place = 0;
    }

-- what was sent, with these bytes more of a section
abbrev pub with_sent : Part → List ℕ → Option Sent → Option Sent
with_sent p b None = None
with_sent p b (Some s) = Some (record s { got = with_got p b s.got })

-- what is sent after a command of class BE that was done
abbrev pub sections_after_parts : Option Sent → ApduParts → Option Sent
sections_after_parts s a =
    cond (a.ins == 0x12) (Some (record { sizes = sizes_in a; got = record { code = []; init = []; dir = []; fci = [] } })) (
    cond (a.ins == 0x24) (with_sent part.Code a.body s) (
    cond (a.ins == 0x26) (with_sent part.Data a.body s) (
    cond (a.ins == 0x20) (with_sent part.Dir a.body s) (cond (a.ins == 0x22) (with_sent part.Fci a.body s) None)
    )
    )
    )

-- what is sent after a command that was done
abbrev pub sections_after_command : Option Sent → Route → Option Sent
sections_after_command s (ToManager a) = sections_after_parts s a
sections_after_command s WrongLength = s
sections_after_command s WrongClass = s
sections_after_command s (ToSelect a) = s
sections_after_command s (ToApplication a) = s

-- the name and the application of a CREATE that was done
abbrev pub named_app : Result (List ℕ) AidFault → Sent → List (List ℕ × App)
named_app (Ok n) s = (n, sent_app s) ∷ []
named_app (Err e) s = []

-- the application of a load that was sent
abbrev pub made_of : Option Sent → List (List ℕ × App)
made_of None = []
made_of (Some s) = named_app (name_of s.got.dir) s

-- the application of a command that is a CREATE
abbrev pub creation_of_command : Option Sent → Route → List (List ℕ × App)
creation_of_command s (ToManager a) = cond (a.ins == 0x16) (made_of s) []
creation_of_command s WrongLength = []
creation_of_command s WrongClass = []
creation_of_command s (ToSelect a) = []
creation_of_command s (ToApplication a) = []

-- what is sent after commands that were done, in order
abbrev pub sections_after_commands : Option Sent → List (List ℕ) → Option Sent
sections_after_commands s [] = s
sections_after_commands s (b ∷ bs) = sections_after_commands (sections_after_command s (route b)) bs

-- the applications of commands that were done
abbrev pub creations_of_commands : Option Sent → List (List ℕ) → List (List ℕ × App)
creations_of_commands s [] = []
creations_of_commands s (b ∷ bs) = creation_of_command s (route b) ++ creations_of_commands (sections_after_command s (route b)) bs

-- a command, if it was taken, and those that were taken after it
abbrev pub commands_with : Bool → List ℕ → List (List ℕ) → List (List ℕ)
commands_with true b rest = b ∷ rest
commands_with false b rest = []

-- the commands in turn that are answered by 9000 alone, up to the first that is not
unfoldable pub accepted_commands : Card → SessionState → ℕ → List (List ℕ) → List (List ℕ)
accepted_commands c session_state budget [] = []
accepted_commands c session_state budget (b ∷ bs) =
    let r = command c session_state b budget in
    let rest = accepted_commands (items.card_done c r.items) r.session_state budget bs in
    commands_with (is_done r.outcome) b rest

-- the commands of a line
abbrev pub bytes_of : DeckLine → List (List ℕ)
bytes_of (line.Sent (line.Select n)) = select_bytes n ∷ []
bytes_of (line.Sent (line.Delete n)) = delete_bytes n ∷ []
bytes_of (line.Sent (line.Apdu b)) = b ∷ []
bytes_of (line.Sent (line.Load u fixed session)) = load_commands u fixed session
bytes_of _ = []

-- the commands of a line that a running card takes
abbrev pub accepted_commands_on : Live → Base → ℕ → DeckLine → List (List ℕ)
accepted_commands_on (Running session_state) (OnCard c) budget l = accepted_commands c session_state budget (bytes_of l)
accepted_commands_on live base budget l = []

-- the commands of a line that are taken in a state
abbrev pub accepted_commands_in : State → DeckLine → List (List ℕ)
accepted_commands_in (BeforePower m b a) l = []
accepted_commands_in (AfterPower s) l = accepted_commands_on s.live s.base s.budget l

-- what of the commands sent so far counts after a line: the load is lost with power, and by any stop
abbrev pub kept_sent : Bool → Option StopAt → Option Sent → Option Sent
kept_sent true t s = None
kept_sent false (Some t) s = None
kept_sent false None s = s

-- the creation that an item is
abbrev pub creation_of_item : Item → List (List ℕ × App)
creation_of_item Plain = []
creation_of_item (Atomic w (Fixed n ps)) = []
creation_of_item (Atomic w (Created n a)) = (n, a) ∷ []
creation_of_item (Atomic w (Deleted n)) = []

-- the creations among items
abbrev pub creations_among : List Item → List (List ℕ × App)
creations_among [] = []
creations_among (i ∷ is) = creation_of_item i ++ creations_among is

-- applications without their places
abbrev pub without_places : List (List ℕ × App) → List (List ℕ × App)
without_places [] = []
without_places (e ∷ es) = (e.0, app_at_place 0 e.1) ∷ without_places es

-- each of these is what the map has under its name
abbrev pub AllAreIn : List (List ℕ × App) → List (List ℕ × App) → Type 0
AllAreIn map [] = ⊤
AllAreIn map (e ∷ es) = (lookup map e.0 ≡ Some e.1) × AllAreIn map es

-- a new application has what its own load sent, and nothing else
pub record KeepsFresh (sent : Option Sent) (t : Step) : Type 0 where
  -- what a line creates is what its load's own commands sent
  pub made : without_places (creations_among t.items) ≡ creations_of_commands sent (accepted_commands_in t.before t.line)
  -- and if the creation is durable, the map has it
  pub stands : AllAreIn (apps_in t.after) (creations_among t.whole)

-- each new application of a play has what its own load sent, and nothing else
abbrev pub NoStaleByte : Option Sent → List Step → Type 0
NoStaleByte sent [] = ⊤
NoStaleByte sent (t ∷ ts) =
    KeepsFresh sent t × NoStaleByte (kept_sent (is_power t.line) t.stop (sections_after_commands sent (accepted_commands_in t.before t.line))) ts

-- ---- the law

-- the law for one front of a play
pub record HoldsOf (m : List (List ℕ)) (steps : List Step) : Type 0 where
  pub family : (K : List (List ℕ)) → Closed K steps → IsIsolated K (start m) steps
  pub each_line : KeepsLines steps
  pub fresh : NoStaleByte None steps
  pub few : IsImage m → AreLines steps → AllFitJournal steps
  pub ready : IsImage m → AreLines steps → ReadyAgain false steps

-- The law of isolation. For every deck, every image and every possible list of failed writes, and for every front of
-- the play: what a closed family observes and holds is what it observes and holds on a card of its own; each line
-- leaves the card with its whole items; no new application has a stale byte; and if the deck's lines are bytes, each
-- item fits a journal, and a card that was found or formatted is found by every later power line that no stop hits.
abbrev pub IsolationLaw : Type 0
IsolationLaw =
    (ls : List (ℕ × DeckLine)) (m : List (List ℕ)) (ws : List (Option FailedWrite)) → Possible (start m) ls ws
    → (n : ℕ) → HoldsOf m (take n (plays (start m) ls ws))
