-- A card that runs has power, and its words are the card.
use Rattle.std.proofs.Common.{◌≡◌, true}
use Rattle.model_play.specs.model_device.specs.Device.{DeviceState}
use Rattle.model_play.specs.model_device.specs.Image.{Two}
use Rattle.model_play.specs.model_device.specs.PowerUp.{OnCard}
use Rattle.mc_store.specs.GoingLaws.{going_is}
use Rattle.mc_store.specs.Power.{HoldsBase, count_of}
use Rattle.mc_card.specs.declared.card.Card.{Card}
use Rattle.mc_card.specs.Parts.{device_in, card_in, IsUp}
use Rattle.mc_card.proofs.ManagerLemmas.{going_base}

pub up_on : {N : Type 0} (state : N → DeviceState) (c : Card N) → IsUp state c → (state (device_in c)).on ≡ true
up_on state c up = (going_is (state (device_in c)) (count_of c.store) up.going).on

pub up_base : {N : Type 0} (state : N → DeviceState) (c : Card N) → IsUp state c → HoldsBase (OnCard (card_in state c)) 0 Two (state (device_in c)).words
up_base state c up = going_base (state (device_in c)) (count_of c.store) up.going
