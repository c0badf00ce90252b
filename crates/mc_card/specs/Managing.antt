-- How the manager of a card handles a command.
use Rattle.std.specs.Prelude.{◌≡◌, ℕ, false, List, Option, Some, None, Result, Ok, Err}
use Rattle.mc_words.specs.model_device.specs.declared.device.Stop.{Stop}
use Rattle.mc_words.specs.model_device.specs.Orders.{Answer}
use Rattle.mc_words.specs.model_device.specs.Device.{DeviceState}
use Rattle.mc_apdu.specs.model_machine.specs.Apdu.{ApduParts}
use Rattle.mc_bank.specs.model_card.specs.Manager.{ToApplication, route_of_parts}
use Rattle.mc_bank.specs.model_card.specs.Commands.{by_route}
use Rattle.mc_apdu.specs.declared.reply.Reply.{Reply}
use Rattle.mc_machine.specs.declared.outcome.Outcome.{Outcome}
use Rattle.mc_machine.specs.declared.outcome.Outcome.TheVariants as outcome
use Rattle.mc_manager.specs.declared.selection.Selection.{Selection}
use Rattle.mc_card.specs.declared.card.Card.{Card}
use Rattle.mc_card.specs.Parts.{card_in, session_state_in}
use Rattle.mc_card.specs.Ends.{is_passed, Commanded}

module _ {N : Type 0} (state : N → DeviceState) (wrote : N → ℕ → List ℕ → Answer → N → Type 0) where
  -- a command that the manager answers
  pub record IsAnswered (c : Card N) (a : ApduParts) (result : Result Outcome Stop) (d : Card N) : Type 0 where
    pub stays : is_passed (route_of_parts (Some a)) (session_state_in state c).selected ≡ false
    pub commanded : (budget : ℕ) → Commanded state wrote c (by_route (card_in state c) (session_state_in state c) budget (route_of_parts (Some a))) result d

  -- a command that the application in this slot is to run; nothing has changed
  pub record IsPassed (c : Card N) (a : ApduParts) (slot : ℕ) (d : Card N) : Type 0 where
    pub route : route_of_parts (Some a) ≡ ToApplication a
    pub selected : Selection
    pub is : c.manager.selected ≡ Some selected
    pub slot_is : selected.slot ≡ slot
    pub unchanged : d ≡ c

  -- the end of a command that the manager answered with a reply, or that the application in a slot is to run
  abbrev pub Directs : Card N → ApduParts → Result (Option ℕ) Stop → Reply → Card N → Type 0
  Directs c a (Ok None) r d = IsAnswered c a (Ok (outcome.Reply r)) d
  Directs c a (Ok (Some slot)) r d = IsPassed c a slot d
  Directs c a (Err s) r d = IsAnswered c a (Err s) d
