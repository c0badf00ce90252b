-- The parts of a card and what it shows: the card in its device's words, its selection and open load, and the chain
-- that runs on it.
use Rattle.std.specs.Prelude.{◌≡◌, ℕ, true, List, length, option_map, Some, None}
use Rattle.std.specs.Option.{ForSome}
use Rattle.mc_words.specs.model_device.specs.Device.{DeviceState}
use Rattle.mc_words.specs.model_device.specs.Card.{means}
use Rattle.mc_words.specs.model_device.specs.Card as model
use Rattle.mc_apdu.specs.model_machine.specs.Chain.{Chain, first_frame}
use Rattle.mc_bank.specs.model_card.specs.Manager.{Selected, SessionState}
use Rattle.mc_bank.specs.model_card.specs.Commands.{Command, command}
use Rattle.mc_bank.specs.Bank.{app_of}
use Rattle.mc_store.specs.Store.{is_going, store_state, store_named, store_room, store_site_bytes}
use Rattle.mc_store.specs.Power.{device_of, count_of, over}
use Rattle.mc_manager.specs.ManagerState.{BankView, ManagerFits, session_state_of}
use Rattle.mc_machine.specs.Chains.{Chained, RunsAs}
use Rattle.mc_card.specs.declared.card.Card.{Card}
use Rattle.mc_machine.specs.Sound.{IsSoundChain}

-- the device of a card
abbrev pub device_in : {N : Type 0} → Card N → N
device_in c = device_of c.store

-- the card over another device
abbrev pub with_device : {N : Type 0} → Card N → N → Card N
with_device c d = record c { store = over c.store d }

-- the session state with these session bytes of its selection
abbrev pub with_session : List ℕ → SessionState → SessionState
with_session session session_state = record session_state { selected = option_map {T = Selected} (λ s. record s { session = session }) session_state.selected }

module _ {N : Type 0} (state : N → DeviceState) where
  -- the words of the device
  abbrev pub words_in : Card N → List (List ℕ)
  words_in c = (state (device_in c)).words

  -- the applications and the free words that the words of the device mean
  abbrev pub card_in : Card N → model.Card
  card_in c = means (words_in c)

  -- the bank that the manager and the applications see
  abbrev pub view_in : Card N → BankView
  view_in c =
      let d = state (device_in c) in
      record { state = store_state d (count_of c.store); named = store_named d; room = store_room d; site_bytes = store_site_bytes d }

  -- the session state: the selection with its session bytes, and the open load
  abbrev pub session_state_in : Card N → SessionState
  session_state_in c = session_state_of (store_site_bytes (state (device_in c))) c.session c.manager

  -- the effect and the outcome of a command on this card, by the definition
  abbrev pub due : Card N → List ℕ → ℕ → Command
  due c bytes budget = command (card_in c) (session_state_in c) bytes budget

  -- A card that runs: its device has power and holds a card of layout 2 without writes that recovery still has to make,
  -- the manager fits it, and there are as many session bytes as the selected application has.
  pub record IsUp (c : Card N) : Type 0 where
    pub going : is_going (state (device_in c)) (count_of c.store) ≡ true
    pub fits : ManagerFits (view_in c) c.manager
    pub session : ForSome c.manager.selected (λ s. length c.session ≡ (app_of (card_in c).apps (Some s.aid)).session)

  -- a card that runs, on which no command runs
  pub record IsReadyCard (c : Card N) : Type 0 where
    pub up : IsUp c
    pub idle : c.chain ≡ None

  -- the selected application runs a command on a card: the chain of the definition, with `n` instructions of the budget
  -- left
  pub record RunsChain (c : Card N) (ch : Chain) (n : ℕ) : Type 0 where
    pub up : IsUp c
    pub chained : Chained
    pub is : c.chain ≡ Some chained
    pub runs : RunsAs (view_in c).state (view_in c).named chained ch
    pub left : chained.left ≡ n
    pub own : option_map (λ s. s.aid) c.manager.selected ≡ Some (first_frame ch.frame ch.below).name
    pub sound : IsSoundChain ch

  -- a chain runs on this card
  abbrev pub IsRunning : Card N → Type 0
  IsRunning c = (ch : Chain) × (left : ℕ) × RunsChain c ch left
