-- The device that a store returns holds the card of the store.
use Rattle.std.proofs.Common.{◌≡◌, ℕ, true, sym, subst}
use Rattle.std.specs.Prelude.{IsSome}
use Rattle.model_device.specs.Device.{DeviceState, IsImage, sized}
use Rattle.mc_bank.specs.Slots.{slot_place}
use Rattle.mc_store.specs.Store.{is_going, store_named}
use Rattle.mc_store.proofs.ChangeLemmas.{DeleteIs, delete_at}

-- a card and a used block, from the store that had it and the slot of that block
pub given_back : (d e : DeviceState) (c k p : ℕ) → e ≡ d → p ≡ slot_place k → IsImage e.words → is_going d c ≡ true → IsSome (store_named d k) → DeleteIs e c p
given_back d e c k p same place image going there =
    delete_at e c k p place (sized image)
    (subst (λ (x : DeviceState). is_going x c ≡ true) (sym same) going)
    (subst (λ (x : DeviceState). IsSome (store_named x k)) (sym same) there)
