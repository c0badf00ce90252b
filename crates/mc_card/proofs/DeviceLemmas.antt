-- The device after a command: it is the same one, with its power and its numbers of stops.
use Rattle.std.proofs.Common.{◌≡◌, ℕ, true, List, Some, Result, Ok, Err, refl, sym, subst}
use Rattle.mc_words.specs.model_device.specs.declared.device.Stop.{Stop}
use Rattle.mc_words.specs.model_device.specs.Orders.{Answer, answer_of}
use Rattle.mc_apdu.specs.model_machine.specs.Apdu.{ApduParts}
use Rattle.mc_bank.specs.model_card.specs.Manager.{route_of_parts}
use Rattle.mc_bank.specs.model_card.specs.Commands.{Command, by_route}
use Rattle.mc_words.specs.model_device.specs.Device.{DeviceState, Wrote, Ended}
use Rattle.mc_words.specs.model_device.specs.Card.{Card}
use Rattle.mc_bank.specs.model_card.specs.Items.{Item}
use Rattle.mc_words.specs.model_device.proofs.DeviceLemmas.{DoneAll, makes_done, makes_stopped}
use Rattle.mc_words.specs.model_device.proofs.LoopLemmas.{makes_same}
use Rattle.mc_machine.specs.declared.outcome.Outcome.{Outcome}
use Rattle.mc_store.specs.GoingLaws.{going_is}
use Rattle.mc_card.specs.declared.card.Card.{Card as CardOf}
use Rattle.mc_card.specs.ItemWrites.{ItemsMade}
use Rattle.mc_card.specs.Parts.{device_in, card_in, session_state_in, IsUp, IsReadyCard}
use Rattle.mc_card.specs.Ends.{Commanded}
use Rattle.mc_card.specs.Managing.{IsAnswered}

module _ {D : Type 0} (state : D → DeviceState) (wrote : D → ℕ → List ℕ → Answer → D → Type 0) (same : D → D → Type 0)
    (keeps : (d : D) (at : ℕ) (w : List ℕ) (a : Answer) (e : D) → wrote d at w a e → same d e) (itself : (d : D) → same d d) (onward : (d e f : D) → same d e → same e f → same d f) where
  pub made_same : (c : Card) (is : List Item) (d e : D) (a : Answer) → ItemsMade state wrote c is d a e → same d e
  made_same c is d e a m = makes_same wrote same keeps itself onward m.writes d e a m.makes

  pub commanded_same : (r : Command) (c d : CardOf D) (result : Result Outcome Stop) → Commanded state wrote c r result d → same (device_in c) (device_in d)
  commanded_same r c d result h = made_same (card_in state c) r.items (device_in c) (device_in d) (answer_of result) h.made

  pub answered_same : (a : ApduParts) (c d : CardOf D) (result : Result Outcome Stop) → IsAnswered state wrote c a result d → same (device_in c) (device_in d)
  answered_same a c d result h = commanded_same (by_route (card_in state c) (session_state_in state c) 1 (route_of_parts (Some a))) c d result (h.commanded 1)

module _ {D : Type 0} (state : D → DeviceState) (wrote : D → ℕ → List ℕ → Answer → D → Type 0)
    (obeys : (d : D) (at : ℕ) (w : List ℕ) (a : Answer) (e : D) → (state d).on ≡ true → wrote d at w a e → Wrote (state d) at w a (state e)) where
  -- items that were done leave power and the numbers of stops, and a stop has raised its number
  pub made_ended : (c : Card) (is : List Item) (d e : D) (a : Answer) → (state d).on ≡ true → ItemsMade state wrote c is d a e → Ended a (state d) (state e)
  made_ended c is d e (Ok tt) on m =
      let all : DoneAll (state d) m.writes (state e) = makes_done state wrote obeys m.writes d e on m.makes in
      (all.power, all.cuts, all.faults)
  made_ended c is d e (Err s) on m = (makes_stopped state wrote obeys m.writes d e s on m.makes).ended

  pub commanded_ended : (r : Command) (c d : CardOf D) (result : Result Outcome Stop) → IsReadyCard state c → Commanded state wrote c r result d → Ended (answer_of result) (state (device_in c)) (state (device_in d))
  commanded_ended r c d result ready h =
      made_ended (card_in state c) r.items (device_in c) (device_in d) (answer_of result) (going_is (state c.store.device) c.store.count ready.up.going).on h.made

  -- a command without writes
  pub none_ended : (c d : CardOf D) → IsUp state c → device_in d ≡ device_in c → Ended (Ok tt) (state (device_in c)) (state (device_in d))
  none_ended c d up same =
      subst (λ (x : D). Ended (Ok tt) (state (device_in c)) (state x)) (sym same) ((going_is (state c.store.device) c.store.count up.going).on, refl, refl)
