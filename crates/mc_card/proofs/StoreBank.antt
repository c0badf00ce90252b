-- A store as a bank: the record of the trait, by the store's definitions.
use Rattle.std.specs.Prelude.{ℕ, List}
use Rattle.mc_words.specs.model_device.specs.Orders.{Answer}
use Rattle.mc_words.specs.model_device.specs.Device.{DeviceState}
use Rattle.mc_bank.specs.declared.bank.Bank.{Ghosts}
use Rattle.mc_store.specs.declared.store.Store.{Store}
use Rattle.mc_bank.specs.Slots.{slot_place}
use Rattle.mc_bank.specs.SlotLaws.{slot_sized}
use Rattle.mc_store.specs.Store.{apps_in, place_named, store_state, store_named, store_room, store_site_bytes, StoreDid}

-- the store over a device, by the device's state and its relation of writes
abbrev pub store_bank : {N : Type 0} → (N → DeviceState) → (N → ℕ → List ℕ → Answer → N → Type 0) → Ghosts (Store N)
store_bank state wrote =
    record {
      state = λ s. store_state (state s.device) s.count;
      named = λ s k. store_named (state s.device) k;
      sized = λ s k there. slot_sized (apps_in (state s.device).words) k (place_named (state s.device) (slot_place k)) there;
      room = λ s. store_room (state s.device);
      site_bytes = λ s. store_site_bytes (state s.device);
      did = λ s i a e. StoreDid state wrote s.device s.count i a e.device e.count;
    }
