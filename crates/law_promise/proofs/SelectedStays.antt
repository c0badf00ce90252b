-- The manager neither creates nor deletes what is selected.
use Rattle.std.proofs.Common.{◌≡◌, ℕ, Bool, true, false, List, [], ◌∷◌, Option, None, sym, ap, ◌∙◌, arith}
use Rattle.std.specs.Prelude.{bytes_eq, is_some}
use Rattle.std.proofs.lemmas.Bool.{false_from_ne_true}
use Rattle.model_events.specs.model_device.specs.Bytes.{lookup}
use Rattle.model_events.specs.model_machine.specs.Apdu.{ApduParts}
use Rattle.model_events.specs.model_device.specs.Card.{App, Card}
use Rattle.law_bytes.specs.model_card.specs.Items.{Item, card_done}
use Rattle.law_bytes.specs.model_card.specs.Manager.{Selected, SessionState, Route, WrongLength, WrongClass, ToSelect, ToManager, ToApplication, route, is_selected, manage, room_on}
use Rattle.law_bytes.specs.model_card.specs.Commands.{Command, manager_command, by_route, command}
use Rattle.law_bytes.specs.model_play.specs.Play.{is_done, command_with_rest, send}
use Rattle.law_bytes.specs.law_manager.specs.Orders.{Order, order_of}
use Rattle.law_bytes.specs.law_manager.specs.OnCard.{IsCommand, plains}
use Rattle.law_bytes.specs.law_manager.proofs.OnCard.{command_made}
use Rattle.law_bytes.specs.law_manager.proofs.Plains.{plains_are}
use Rattle.law_bytes.specs.law_family.proofs.OtherCommand.{IsManagers, AreManagers, Aside, command_aside}
use Rattle.law_promise.proofs.ItemLists.{AllAvoid, avoid_append, avoid_lookup}
use Rattle.model_events.specs.model_device.proofs.MapLemmas.{same_name}

module _ (c : Card) (session_state : SessionState) (n : List ℕ) (there : is_some (lookup c.apps n) ≡ true) (selected : is_selected session_state.selected n ≡ true) where
  plain_avoids : (k : ℕ) (is : List Item) → AllAvoid n is → AllAvoid n (plains k is)
  plain_avoids = plains_are (AllAvoid n) (λ is h. (tt, h))

  -- a name that is not on the card
  apart_taken : (k : List ℕ) → lookup c.apps k ≡ None → bytes_eq k n ≡ false
  apart_taken k h = false_from_ne_true (bytes_eq k n) (λ e. cc (sym there ∙ (ap (λ (z : List ℕ). is_some (lookup c.apps z)) (sym (same_name k n e)) ∙ ap (λ (z : Option App). is_some z) h)))

  -- a name that is not selected
  apart_selected : (k : List ℕ) → is_selected session_state.selected k ≡ false → bytes_eq k n ≡ false
  apart_selected k h = false_from_ne_true (bytes_eq k n) (λ e. cc (sym selected ∙ (ap (λ (z : List ℕ). is_selected session_state.selected z) (sym (same_name k n e)) ∙ h)))

  made_avoids : (a : ApduParts) (o : Order) (r : Command) → IsCommand c session_state a o r → AllAvoid n r.items
  made_avoids a o r h = grind (arith, plain_avoids, apart_taken, apart_selected)

  -- no command to the manager touches what is selected
  pub manager_avoids : (budget : ℕ) (r : Route) → IsManagers r → AllAvoid n (by_route c session_state budget r).items
  manager_avoids budget WrongLength h = tt
  manager_avoids budget (ToManager a) h = made_avoids a (order_of a.ins) (manager_command c session_state (manage (room_on c) c.apps session_state a)) (command_made c session_state a)
  manager_avoids budget WrongClass h = absurd h
  manager_avoids budget (ToSelect a) h = absurd h
  manager_avoids budget (ToApplication a) h = absurd h

-- so do the commands of a load
command_avoids : (c : Card) (session_state : SessionState) (n : List ℕ) (budget : ℕ) (b : List ℕ) → is_some (lookup c.apps n) ≡ true → is_selected session_state.selected n ≡ true → IsManagers (route b) → AllAvoid n (command c session_state b budget).items
unfolding command
command_avoids c session_state n budget b there selected h = manager_avoids c session_state n there selected budget (route b) h

sent_avoids : (n : List ℕ) (b : Bool) (r rest : Command) → AllAvoid n r.items → AllAvoid n rest.items → AllAvoid n (command_with_rest b r rest).items
sent_avoids n true r rest h k = avoid_append n r.items rest.items h k
sent_avoids n false r rest h k = h

-- neither do several such commands in a row
pub send_avoids : (c : Card) (session_state : SessionState) (n : List ℕ) (budget : ℕ) (bs : List (List ℕ)) → is_some (lookup c.apps n) ≡ true → is_selected session_state.selected n ≡ true → AreManagers bs → AllAvoid n (send c session_state budget bs).items
unfolding send
send_avoids c session_state n budget [] there selected h = tt
send_avoids c session_state n budget (b ∷ bs) there selected h =
    let r = command c session_state b budget in
    let a : AllAvoid n r.items = command_avoids c session_state n budget b there selected h.0 in
    let aside : Aside [] session_state r = command_aside [] c session_state budget b h.0 in
    let still : is_some (lookup (card_done c r.items).apps n) ≡ true = ap (λ (z : Option App). is_some z) (avoid_lookup n r.items c.apps a) ∙ there in
    let same : is_selected r.session_state.selected n ≡ true = ap (λ (z : Option Selected). is_selected z n) aside.selected ∙ selected in
    sent_avoids n (is_done r.outcome) r (send (card_done c r.items) r.session_state budget bs) a (send_avoids (card_done c r.items) r.session_state n budget bs still same h.1)
