-- What holds of one application along a play: after each line, and after each device write at which the line could be
-- stopped.
use Rattle.std.specs.Prelude.{◌≡◌, ℕ, ◌≤◌, Bool, true, false, List, [], ◌∷◌, length, bytes_eq, Option, Some, None, ⊤}
use Rattle.model_events.specs.model_device.specs.Bytes.{lookup}
use Rattle.model_events.specs.model_device.specs.Card.{App}
use Rattle.model_events.specs.model_device.specs.PowerUp.{Base, OnCard, AtFault}
use Rattle.model_events.specs.model_machine.specs.Apdu.{ApduParts}
use Rattle.model_events.specs.model_machine.specs.Chain.{Reply}
use Rattle.law_bytes.specs.model_card.specs.Items.{Fixed, Created, Deleted, Item, Plain, Atomic}
use Rattle.law_bytes.specs.model_card.specs.Manager.{Selected, Route, WrongLength, WrongClass, ToSelect, ToManager, ToApplication, route}
use Rattle.law_bytes.specs.model_play.specs.DeckGrammar.{DeckLine}
use Rattle.law_bytes.specs.model_play.specs.DeckGrammar as line
use Rattle.law_bytes.specs.model_play.specs.Play.{Armed, Live, Running, Unpowered, Muted, State, BeforePower, AfterPower, LineResult, Answered, FailedWrite, Step, formatted_image, step}
use Rattle.law_bytes.specs.model_play.specs.Given.{apps_in}
use Rattle.model_events.specs.Deeds.{Watch}
use Rattle.law_promise.specs.History.{after_step}

-- ---- the premise: each application that is created under the name is this one

-- code, static bytes, session bytes and access list are those of the application; its records and its place are free
pub record IsApp (app a : App) : Type 0 where
  pub code : a.code ≡ app.code
  pub fixed : a.fixed ≡ app.fixed
  pub session : a.session ≡ app.session
  pub deny : a.deny ≡ app.deny

-- what is created under the name is the application
abbrev pub IsAppIf : Bool → App → App → Type 0
IsAppIf true app a = IsApp app a
IsAppIf false app a = ⊤

-- among these items whatever is created under the name is the application
abbrev pub CreatesOnly : List ℕ → App → List Item → Type 0
CreatesOnly n app [] = ⊤
CreatesOnly n app (Plain ∷ is) = CreatesOnly n app is
CreatesOnly n app (Atomic w (Fixed m ps) ∷ is) = CreatesOnly n app is
CreatesOnly n app (Atomic w (Created m a) ∷ is) = IsAppIf (bytes_eq m n) app a × CreatesOnly n app is
CreatesOnly n app (Atomic w (Deleted m) ∷ is) = CreatesOnly n app is

-- the card that the first power line finds has none of the name
abbrev pub FindsNone : List ℕ → State → DeckLine → State → Type 0
FindsNone n (BeforePower m b a) line.Power after = lookup (apps_in after) n ≡ None
FindsNone n (BeforePower m b a) _ after = ⊤
FindsNone n (AfterPower s) l after = ⊤

-- a line brings no other application under the name onto the card
pub record BringsOnly (n : List ℕ) (app : App) (t : Step) : Type 0 where
  pub creates : CreatesOnly n app t.whole
  pub finds : FindsNone n t.before t.line t.after

-- a card that was formatted just before the first power line has none of any name
abbrev pub FormattedLaw : Type 0
FormattedLaw =
    (m : List (List ℕ)) (budget number : ℕ) (armed : Armed) (w : Option FailedWrite) (n : List ℕ) → 256 ≤ length m → length m ≤ 16384
    → let t = step (BeforePower (formatted_image m) budget armed) (number, line.Power) w in FindsNone n t.before t.line t.after

-- ---- along a play

-- what a line could have been: stopped at this device write, which left that word
abbrev pub stopped_step : Step → FailedWrite → Step
stopped_step t w = step t.before (t.number, t.line) (Some w)

-- After each line of a play, and after each device write at which it could be stopped, as long as no other application
-- came under the name: `says` holds of the history before the line, of the line, and of the history after it.
abbrev pub Along : {E : Type 0} → Watch E → App → (List E → Step → List E → Type 0) → List E → List Step → Type 0
Along w app says h [] = ⊤
Along w app says h (t ∷ ts) =
    (BringsOnly w.name app t → says h t (after_step w t h) × Along w app says (after_step w t h) ts)
    × ((c : FailedWrite) → BringsOnly w.name app (stopped_step t c) → says h (stopped_step t c) (after_step w (stopped_step t c) h))

-- ---- what a line shows of the application

-- what holds of static bytes, where the application is there
abbrev pub OnApp : (List ℕ → Type 0) → Option App → Type 0
OnApp holds None = ⊤
OnApp holds (Some a) = holds a.fixed

-- what holds of its static bytes in a state
abbrev pub OnFixed : List ℕ → (List ℕ → Type 0) → State → Type 0
OnFixed n holds z = OnApp holds (lookup (apps_in z) n)

-- a command for the selected application, where it is this one
abbrev pub own_parts : Bool → ApduParts → Option ApduParts
own_parts true a = Some a
own_parts false a = None

-- a command for the application, where it is selected
abbrev pub parts_for : List ℕ → Option Selected → Route → Option ApduParts
parts_for n None r = None
parts_for n (Some s) (ToApplication a) = own_parts (bytes_eq s.name n) a
parts_for n (Some s) WrongLength = None
parts_for n (Some s) WrongClass = None
parts_for n (Some s) (ToSelect a) = None
parts_for n (Some s) (ToManager a) = None

-- a command on a running card
abbrev pub live_parts : List ℕ → Live → Base → List ℕ → Option ApduParts
live_parts n (Running session_state) (OnCard c) b = parts_for n session_state.selected (route b)
live_parts n (Running session_state) (AtFault cause p) b = None
live_parts n Unpowered base b = None
live_parts n Muted base b = None

-- the command of a line that reaches the application as the selected one, if it does
abbrev pub command_for : List ℕ → State → DeckLine → Option ApduParts
command_for n (AfterPower s) (line.Sent (line.Apdu b)) = live_parts n s.live s.base b
command_for n z l = None

-- what holds of a command and of the status that it was answered with, where a line is one and was answered with one
abbrev pub OnAnswer : (ApduParts → ℕ → Type 0) → Option ApduParts → Option LineResult → Type 0
OnAnswer holds (Some a) (Some (Answered (Reply body sw))) = holds a sw
OnAnswer holds a r = ⊤
