-- Every application of a play is limited, and each run begins with as many session bytes as its application has.
use Rattle.std.specs.Prelude.{◌≡◌, ℕ, Bool, true, false, List, [], ◌∷◌, length, Option, Some, None, ⊤}
use Rattle.law_machine.specs.Limited.{AreLimited, session_in}
use Rattle.model_play.specs.model_device.specs.Bytes.{lookup}
use Rattle.model_play.specs.model_machine.specs.Apdu.{ApduParts}
use Rattle.model_play.specs.model_device.specs.Card.{App, Card}
use Rattle.model_play.specs.model_machine.specs.Chain.{Chain, start as begun}
use Rattle.model_play.specs.model_card.specs.Items.{card_done}
use Rattle.model_play.specs.model_card.specs.Manager.{Selected, SessionState, Route, WrongLength, WrongClass, ToSelect, ToManager, ToApplication, route}
use Rattle.model_play.specs.DeckGrammar.{DeckLine}
use Rattle.model_play.specs.Play.{FailedWrite, Live, Running, Unpowered, Muted, State, BeforePower, AfterPower, Step, is_done, plays, start}
use Rattle.model_play.specs.model_device.specs.PowerUp.{Base, OnCard, AtFault}
use Rattle.model_play.specs.model_card.specs.Commands.{command}
use Rattle.model_play.specs.Laws.{bytes_of}

-- a run of the selected application begins on limited applications, with the session bytes of its own
pub record BeginsWell (map : List (List ℕ × App)) (s : Selected) : Type 0 where
  pub limited : AreLimited map
  pub session : length s.session ≡ session_in (lookup map s.name)

-- a command that is passed to the selected application, if there is one, begins so
abbrev pub PassedWell : List (List ℕ × App) → Option Selected → Type 0
PassedWell map None = ⊤
PassedWell map (Some s) = BeginsWell map s

-- a command by its route begins so, if it is passed to the selected application
abbrev pub RoutedWell : List (List ℕ × App) → SessionState → Route → Type 0
RoutedWell map session_state (ToApplication a) = PassedWell map session_state.selected
RoutedWell map session_state WrongLength = ⊤
RoutedWell map session_state WrongClass = ⊤
RoutedWell map session_state (ToSelect a) = ⊤
RoutedWell map session_state (ToManager a) = ⊤

-- what holds of the commands after one that was answered by 9000 alone
abbrev pub BehindDone : Bool → Type 0 → Type 0
BehindDone true later = later
BehindDone false later = ⊤

-- each of the commands of a line in turn begins so, up to the first that is not answered by 9000 alone
abbrev pub SentWell : Card → SessionState → ℕ → List (List ℕ) → Type 0
SentWell c session_state budget [] = ⊤
SentWell c session_state budget (b ∷ bs) =
    let r = command c session_state b budget in
    RoutedWell c.apps session_state (route b) × BehindDone (is_done r.outcome) (SentWell (card_done c r.items) r.session_state budget bs)

-- each command that a running card takes begins so
abbrev pub TakenWell : Live → Base → ℕ → List (List ℕ) → Type 0
TakenWell (Running session_state) (OnCard c) budget bs = SentWell c session_state budget bs
TakenWell (Running session_state) (AtFault cause p) budget bs = ⊤
TakenWell Unpowered base budget bs = ⊤
TakenWell Muted base budget bs = ⊤

-- each command of a line that was played begins so
abbrev pub LineWell : State → List (List ℕ) → Type 0
LineWell (BeforePower m b a) bs = ⊤
LineWell (AfterPower s) bs = TakenWell s.live s.base s.budget bs

-- each run of a play begins so
abbrev pub BeginWell : List Step → Type 0
BeginWell [] = ⊤
BeginWell (t ∷ ts) = LineWell t.before (bytes_of t.line) × BeginWell ts

-- each run of every play begins so, for every deck, image and list of failed writes, possible or not
abbrev pub BeginsLaw : Type 0
BeginsLaw = (ls : List (ℕ × DeckLine)) (m : List (List ℕ)) (ws : List (Option FailedWrite)) → BeginWell (plays (start m) ls ws)

-- ---- what holds of each run

-- what holds of the run of a command that is passed to an application: its budget and its first chain
abbrev pub OnPassed : (ℕ → Chain → Type 0) → List (List ℕ × App) → ℕ → Option Selected → ApduParts → Type 0
OnPassed holds map budget None a = ⊤
OnPassed holds map budget (Some s) a = holds budget (begun map s.name s.session a)

-- what holds of the run of a command by its route
abbrev pub OnRouted : (ℕ → Chain → Type 0) → List (List ℕ × App) → SessionState → ℕ → Route → Type 0
OnRouted holds map session_state budget (ToApplication a) = OnPassed holds map budget session_state.selected a
OnRouted holds map session_state budget WrongLength = ⊤
OnRouted holds map session_state budget WrongClass = ⊤
OnRouted holds map session_state budget (ToSelect a) = ⊤
OnRouted holds map session_state budget (ToManager a) = ⊤

-- what holds of the runs of the commands of a line in turn, up to the first that is not answered by 9000 alone
abbrev pub OnSent : (ℕ → Chain → Type 0) → Card → SessionState → ℕ → List (List ℕ) → Type 0
OnSent holds c session_state budget [] = ⊤
OnSent holds c session_state budget (b ∷ bs) =
    let r = command c session_state b budget in
    OnRouted holds c.apps session_state budget (route b) × BehindDone (is_done r.outcome) (OnSent holds (card_done c r.items) r.session_state budget bs)

-- what holds of the runs of the commands that a running card takes
abbrev pub OnTaken : (ℕ → Chain → Type 0) → Live → Base → ℕ → List (List ℕ) → Type 0
OnTaken holds (Running session_state) (OnCard c) budget bs = OnSent holds c session_state budget bs
OnTaken holds (Running session_state) (AtFault cause p) budget bs = ⊤
OnTaken holds Unpowered base budget bs = ⊤
OnTaken holds Muted base budget bs = ⊤

-- what holds of the runs of a line that was played
abbrev pub OnLine : (ℕ → Chain → Type 0) → State → List (List ℕ) → Type 0
OnLine holds (BeforePower m b a) bs = ⊤
OnLine holds (AfterPower s) bs = OnTaken holds s.live s.base s.budget bs

-- what holds of every run of a play
abbrev pub OnEachRun : (ℕ → Chain → Type 0) → List Step → Type 0
OnEachRun holds [] = ⊤
OnEachRun holds (t ∷ ts) = OnLine holds t.before (bytes_of t.line) × OnEachRun holds ts

-- what holds of every run that begins on limited applications with the session bytes of its own
abbrev pub HoldsWherever : (ℕ → Chain → Type 0) → Type 0
HoldsWherever holds =
    (map : List (List ℕ × App)) (first body : List ℕ) (apdu : ApduParts) (budget : ℕ)
    → AreLimited map → length body ≡ session_in (lookup map first) → holds budget (begun map first body apdu)
