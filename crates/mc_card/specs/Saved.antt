-- The session state of a card that was saved, and the words that it fits.
use Rattle.std.specs.Prelude.{◌≡◌, ℕ, true, List, length, Some, None}
use Rattle.std.specs.Option.{ForSome}
use Rattle.mc_words.specs.model_device.specs.Card.{means}
use Rattle.mc_words.specs.model_device.specs.Device.{DeviceState}
use Rattle.mc_bank.specs.model_card.specs.Manager.{SessionState}
use Rattle.mc_bank.specs.Bank.{app_of}
use Rattle.mc_store.specs.Store.{store_state, store_named, store_room, store_site_bytes}
use Rattle.mc_manager.specs.ManagerState.{BankView, ManagerState, ManagerFits, session_state_of}
use Rattle.mc_card.specs.declared.card.Card.{Card}

-- a session state that was saved: the state of the manager, and the session bytes
pub record SavedState : Type 0 where
  pub manager : ManagerState
  pub session : List ℕ

-- that of a card
abbrev pub saved_of : {N : Type 0} → Card N → SavedState
saved_of c = record { manager = c.manager; session = c.session }

-- a device with these words
abbrev pub device_with : List (List ℕ) → DeviceState
device_with m = record { words = m; on = true; cuts = 0; faults = 0; tape = None }

-- the bank in some words
abbrev pub view_of_words : List (List ℕ) → BankView
view_of_words m =
    let d = device_with m in
    record { state = store_state d 0; named = store_named d; room = store_room d; site_bytes = store_site_bytes d }

-- A saved session state fits words: its manager fits the bank in them, and it has as many session bytes as the selected
-- application has.
pub record FitsWords (m : List (List ℕ)) (s : SavedState) : Type 0 where
  pub manager : ManagerFits (view_of_words m) s.manager
  pub session : ForSome s.manager.selected (λ t. length s.session ≡ (app_of (means m).apps (Some t.aid)).session)

-- the session state that was saved, on a card in some words
abbrev pub session_state_on : List (List ℕ) → SavedState → SessionState
session_state_on m s = session_state_of (store_site_bytes (device_with m)) s.session s.manager
