-- The ends of the calls of a card: a power-up, a command that is answered or passed to the application, and a turn.
use Rattle.std.specs.Prelude.{◌≡◌, ℕ, ◌+◌, ◌-◌, ◌≤◌, Bool, true, false, List, length, Option, Some, None, Result, Ok, Err, IfOk, OnOk}
use Rattle.mc_words.specs.model_device.specs.declared.device.Stop.{Stop}
use Rattle.mc_words.specs.model_device.specs.Orders.{Answer, answer_of}
use Rattle.mc_words.specs.model_device.specs.Device.{DeviceState}
use Rattle.mc_apdu.specs.model_machine.specs.Apdu.{ApduParts}
use Rattle.mc_words.specs.model_device.specs.Card as model
use Rattle.mc_words.specs.model_device.specs.Layout.{gaps}
use Rattle.mc_apdu.specs.model_machine.specs.Chain.{Chain, Acted, Follows, Continues, Ends, Ran, start, run, chain_session}
use Rattle.mc_bank.specs.model_card.specs.Manager.{Selected, Route, WrongLength, WrongClass, ToSelect, ToManager, ToApplication, route}
use Rattle.mc_bank.specs.model_card.specs.Commands.{Command}
use Rattle.mc_bank.specs.model_card.specs.Items.{write_items}
use Rattle.mc_machine.specs.declared.outcome.Outcome.{Outcome}
use Rattle.mc_machine.specs.declared.outcome.Turn.{Turn}
use Rattle.mc_machine.specs.Turns.{outcome_value, turn_value}
use Rattle.mc_manager.specs.CommandDue.{most_ticks}
use Rattle.mc_store.specs.declared.power.Up.{Up}
use Rattle.mc_store.specs.Power.{Powered, Runs as Runs_with, failure_end, count_of}
use Rattle.mc_card.specs.declared.card.Card.{Card}
use Rattle.mc_card.specs.Parts.{device_in, card_in, session_state_in, due, with_session, IsReadyCard, RunsChain}
use Rattle.mc_card.specs.ItemWrites.{ItemsMade}

-- ---- steps

-- the steps of a run: one for each decoded instruction, and at most as many if it stopped
abbrev pub RunSteps : Ran → Answer → ℕ → ℕ → Type 0
RunSteps r (Ok u) old new = new ≡ old + r.count
RunSteps r (Err s) old new = new ≤ old + r.count

-- the steps of a command for the selected application, if there is one
abbrev pub PassedSteps : model.Card → Option Selected → ApduParts → ℕ → Answer → ℕ → ℕ → Type 0
PassedSteps c None a budget answer old new = new ≡ old
PassedSteps c (Some s) a budget answer old new = RunSteps (run c.apps s.name s.session a budget) answer old new

-- the steps of a command by its route: an OPEN makes at most two more than there are gaps, and no other command of the
-- manager makes any
abbrev pub RouteSteps : model.Card → Option Selected → ℕ → Route → Answer → ℕ → ℕ → Type 0
RouteSteps c selected budget WrongLength answer old new = new ≡ old
RouteSteps c selected budget WrongClass answer old new = new ≡ old
RouteSteps c selected budget (ToSelect a) answer old new = new ≡ old
RouteSteps c selected budget (ToManager a) answer old new = (old ≤ new) × (new ≤ old + most_ticks a (2 + length (gaps c)))
RouteSteps c selected budget (ToApplication a) answer old new = PassedSteps c selected a budget answer old new

-- the steps of the beginning of a command: those of a command that is answered, and none if it is passed to the
-- application
abbrev pub BeginSteps : model.Card → Route → ℕ → ℕ → Type 0
BeginSteps c WrongLength old new = new ≡ old
BeginSteps c WrongClass old new = new ≡ old
BeginSteps c (ToSelect a) old new = new ≡ old
BeginSteps c (ToManager a) old new = (old ≤ new) × (new ≤ old + most_ticks a (2 + length (gaps c)))
BeginSteps c (ToApplication a) old new = new ≡ old

-- The most device writes of one item of a command: 147 of an application's, which touches at most 64 words, and 84 of
-- the manager's, which touches at most 36. A card that runs has layout 2.
abbrev pub most_weight : Route → ℕ
most_weight (ToApplication a) = 147
most_weight _ = 84

-- ---- a power-up

-- the end of a power-up
abbrev pub power_up_end : {N : Type 0} → Result (Card N × ℕ) (N × Up) → Powered
power_up_end (Ok p) = Runs_with p.1 (count_of (p.0).store)
power_up_end (Err p) = failure_end p.1

-- the end of a restart of a card, by the card after it
abbrev pub restart_end : {N : Type 0} → Card N → Result ℕ Up → Powered
restart_end c (Ok n) = Runs_with n (count_of c.store)
restart_end c (Err u) = failure_end u

-- the device after a power-up
abbrev pub device_after : {N : Type 0} → Result (Card N × ℕ) (N × Up) → N
device_after (Ok p) = device_in p.0
device_after (Err p) = p.0

-- the result of a command whose outcome was written to a place
abbrev pub outcome_or_stop : Result (Unit {0}) Stop → Outcome → Result Outcome Stop
outcome_or_stop (Ok u) o = Ok o
outcome_or_stop (Err s) o = Err s

-- whether a command is passed to the selected application
abbrev pub is_passed : Route → Option Selected → Bool
is_passed (ToApplication a) (Some s) = true
is_passed _ selected = false

module _ {N : Type 0} (state : N → DeviceState) (wrote : N → ℕ → List ℕ → Answer → N → Type 0) where
  -- ---- a command

  -- the end of a command: its items, and without a stop its outcome and the session state after it
  pub record Commanded (c : Card N) (r : Command) (result : Result Outcome Stop) (d : Card N) : Type 0 where
    pub made : ItemsMade state wrote (card_in state c) r.items (device_in c) (answer_of result) (device_in d)
    pub outcome : IfOk result (λ o. outcome_value o ≡ r.outcome)
    pub session_state : OnOk result (session_state_in state d ≡ r.session_state)
    pub ready : OnOk result (IsReadyCard state d)

  -- a command that is passed to the selected application: its chain is ready to run, and nothing else has changed
  pub record PassedToChain (c : Card N) (bytes : List ℕ) (budget : ℕ) (d : Card N) : Type 0 where
    pub apdu : ApduParts
    pub routed : route bytes ≡ ToApplication apdu
    pub selected : Selected
    pub is : (session_state_in state c).selected ≡ Some selected
    pub device : device_in d ≡ device_in c
    pub session_state : session_state_in state d ≡ session_state_in state c
    pub runs : RunsChain state d (start (card_in state c).apps selected.name selected.session apdu) budget

  -- a command that is not passed to the application
  pub record Answered (c : Card N) (bytes : List ℕ) (budget : ℕ) (result : Result Outcome Stop) (d : Card N) : Type 0 where
    pub stays : is_passed (route bytes) (session_state_in state c).selected ≡ false
    pub commanded : Commanded c (due state c bytes budget) result d

  -- the beginning of a command, by its result
  abbrev pub Begun : Card N → List ℕ → ℕ → Result (Option Outcome) Stop → Card N → Type 0
  Begun c bytes budget (Ok (Some o)) d = Answered c bytes budget (Ok o) d
  Begun c bytes budget (Ok None) d = PassedToChain c bytes budget d
  Begun c bytes budget (Err s) d = Answered c bytes budget (Err s) d

  -- ---- a turn

  -- what follows a turn: the chain continues with the rest of the budget, or it has ended and its session bytes are
  -- those of the selection
  abbrev pub TurnGoesOn : Card N → Chain → ℕ → Follows → Card N → Type 0
  TurnGoesOn c ch left (Continues next) d = RunsChain state d next left × (session_state_in state d ≡ session_state_in state c)
  TurnGoesOn c ch left (Ends o) d = IsReadyCard state d × (session_state_in state d ≡ with_session (chain_session ch) (session_state_in state c))

  -- a turn of a chain: its items, what it reports, and without a stop what follows
  pub record ChainTurned (c : Card N) (ch : Chain) (left : ℕ) (t : Acted) (result : Result Turn Stop) (d : Card N) : Type 0 where
    pub made : ItemsMade state wrote (card_in state c) (write_items t.writes) (device_in c) (answer_of result) (device_in d)
    pub turn : IfOk result (λ reported. t.turn ≡ turn_value reported t.turn.wrote)
    pub follows : OnOk result (TurnGoesOn c ch (left - t.count) t.follows d)
