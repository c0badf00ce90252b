-- The laws of the card manager by the name of a command.
use Rattle.std.specs.Prelude.{◌≡◌, ℕ, List, Option}
use Rattle.model_card.specs.declared.card.Sizes.{Sizes}
use Rattle.model_card.specs.model_machine.specs.Apdu.{ApduParts}
use Rattle.model_card.specs.model_device.specs.Card.{App, Card}
use Rattle.model_card.specs.Manager.{SessionState, select, manage, room_on}
use Rattle.model_card.specs.Commands.{manager_command}
use Rattle.law_manager.specs.Orders.{Order, order_of, HasIns, managed}
use Rattle.law_manager.specs.Answers.{IsAnswer}
use Rattle.law_manager.specs.OnCard.{IsCommand, IsSelect}

-- a command of class BE is answered as the one that its INS names
pub record ByOrder (room : Sizes → Option ℕ) (map : List (List ℕ × App)) (session_state : SessionState) (a : ApduParts) : Type 0 where
  pub is : manage room map session_state a ≡ managed (order_of a.ins) room map session_state a
  pub ins : HasIns (order_of a.ins) a.ins

-- every command of class BE is, on every map, in every session state, and wherever there is room
abbrev pub OrderLaw : Type 0
OrderLaw = (room : Sizes → Option ℕ) (map : List (List ℕ × App)) (session_state : SessionState) (a : ApduParts) → ByOrder room map session_state a

-- every answer to a command is one of `IsAnswer`
abbrev pub AnswersLaw : Type 0
AnswersLaw = (o : Order) (room : Sizes → Option ℕ) (map : List (List ℕ × App)) (session_state : SessionState) (a : ApduParts) → IsAnswer room map session_state a o (managed o room map session_state a)

-- every command makes of a card what `IsCommand` states
abbrev pub CommandsLaw : Type 0
CommandsLaw = (o : Order) (c : Card) (session_state : SessionState) (a : ApduParts) → IsCommand c session_state a o (manager_command c session_state (managed o (room_on c) c.apps session_state a))

-- every SELECT makes of a card what `IsSelect` states
abbrev pub SelectsLaw : Type 0
SelectsLaw = (c : Card) (session_state : SessionState) (a : ApduParts) → IsSelect c session_state a (manager_command c session_state (select c.apps session_state a))
