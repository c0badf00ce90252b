-- What each command of the card manager, and a SELECT, makes of a card.
use Rattle.std.specs.Prelude.{◌≡◌, ℕ, zero, suc, ◌-◌, false, ◌==◌, List, [], ◌∷◌, length, Option, Some, None}
use Rattle.model_card.specs.declared.card.Part.{Part}
use Rattle.model_card.specs.model_device.specs.Bytes.{zeros, lookup}
use Rattle.model_card.specs.model_machine.specs.Apdu.{ApduParts}
use Rattle.model_card.specs.model_machine.specs.Chain.{Reply}
use Rattle.model_card.specs.model_device.specs.Card.{App, Card}
use Rattle.model_card.specs.Items.{Created, Deleted, Item, Plain, Site}
use Rattle.model_card.specs.Manager.{Open, select_body, SessionState, p1p2, with_got, word_parts, fresh, room_on}
use Rattle.model_card.specs.Commands.{Command, atomic_of, refusal}
use Rattle.law_manager.specs.Orders.{Order, Loads, Creates, Deletes}
use Rattle.law_manager.specs.Answers.{IsPiece, IsCreation, IsDeletion, IsQuiet}

-- this number of plain items before others
abbrev pub plains : ℕ → List Item → List Item
plains zero is = is
plains (suc n) is = Plain ∷ plains n is

-- a command that is done, with its data, the session state after it, and its items
abbrev pub done : List ℕ → SessionState → List Item → Command
done body session_state is = record { items = is; outcome = Reply body 0x9000; session_state = session_state; pairs = []; turns = [] }

-- the number of words that the zeros after the data of a site touch
abbrev pub blank_words : Site → ℕ
blank_words s = length (word_parts s.sizes.init (zeros (s.sizes.fixed - s.sizes.init)))

-- what a command makes of a card, as `IsAnswer` without the contents of items: a creation ends with its atomic write, a
-- deletion is one, and all other items are plain
pub data IsCommand (c : Card) (session_state : SessionState) (a : ApduParts) : Order → Command → Type 0 where
  refused : (o : Order) (sw : ℕ) → (sw == 0x9000) ≡ false → IsCommand c session_state a o (refusal session_state sw)
  quiet : (o : Order) (body : List ℕ) (load : Option Open) → IsQuiet (room_on c) c.apps session_state a o body load
      → IsCommand c session_state a o (done body (record session_state { load = load }) [])
  loaded : (p : Part) (load : Open) → IsPiece session_state a p load
      → IsCommand c session_state a (Loads p) (done [] (record session_state { load = Some (record load { got = with_got p a.body load.got }) }) (plains (length (word_parts (p1p2 a) a.body)) []))
  created : (load : Open) (name : List ℕ) → IsCreation c.apps session_state load name
      → IsCommand c session_state a Creates (done [] (record session_state { load = None }) (plains (blank_words load.site) (plains 4 (atomic_of c (Some (Created name (fresh load))) ∷ []))))
  deleted : IsDeletion session_state a
      → IsCommand c session_state a Deletes (done [] (record session_state { load = None }) (atomic_of c (Some (Deleted a.body)) ∷ []))

-- what a SELECT makes of a card: an application that is on it is selected, with zeros as session bytes
pub data IsSelect (c : Card) (session_state : SessionState) (a : ApduParts) : Command → Type 0 where
  unselected : (sw : ℕ) → (sw == 0x9000) ≡ false → IsSelect c session_state a (refusal session_state sw)
  selected : (app : App) → lookup c.apps a.body ≡ Some app
      → IsSelect c session_state a (done (select_body a app) (record session_state { selected = Some (record { name = a.body; session = zeros app.session }) }) [])
