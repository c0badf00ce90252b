-- The number of atomic writes of one command, and of the commands of a load.
use Rattle.std.proofs.Common.{◌≡◌, ℕ, zero, suc, ◌+◌, ◌≤◌, Bool, true, false, List, [], ◌∷◌, ◌++◌, refl, arith}
use Rattle.law_family.specs.model_machine.specs.Apdu.{ApduParts}
use Rattle.law_family.specs.model_card.specs.Units.{UnitParts}
use Rattle.law_family.specs.model_device.specs.Card.{Card}
use Rattle.law_family.specs.model_card.specs.Items.{Item, Plain, Atomic, card_done}
use Rattle.law_family.specs.model_card.specs.Manager.{SessionState, Route, ToApplication, route, manage, room_on}
use Rattle.law_family.specs.model_card.specs.Commands.{Command, manager_command, by_route, command}
use Rattle.law_family.specs.model_play.specs.Play.{is_done, command_with_rest, send, load_commands}
use Rattle.law_family.specs.law_manager.specs.Orders.{Order, order_of, HasIns}
use Rattle.law_family.specs.law_manager.specs.OnCard.{IsCommand, IsSelect, plains, done, blank_words}
use Rattle.law_family.specs.law_manager.specs.OnCard as made
use Rattle.law_family.specs.law_manager.proofs.Orders.{order_law}
use Rattle.law_family.specs.law_manager.proofs.OnCard.{command_made, selects_law}
use Rattle.law_family.proofs.LoadCommands.{IsFiller, AreFillers, load_front, create_bytes, front_fillers, IsManagerOf, create_manager}
use Rattle.law_wear.specs.Most.{most_atomic_of_manager, most_atomic_of_route}
use Rattle.law_wear.specs.Laws.{atomic_writes}

-- the number of atomic writes of two lists of items is the sum
pub atomic_writes_append : (is js : List Item) → atomic_writes (is ++ js) ≡ atomic_writes is + atomic_writes js
atomic_writes_append [] js = omega arith
atomic_writes_append (Plain ∷ is) js = atomic_writes_append is js
atomic_writes_append (Atomic w c ∷ is) js = let rest = atomic_writes_append is js in omega (arith, rest)

-- ---- the manager

plains_atomic : (n : ℕ) (is : List Item) → atomic_writes (plains n is) ≡ atomic_writes is
plains_atomic zero is = refl
plains_atomic (suc n) is = plains_atomic n is

module _ (c : Card) (session_state : SessionState) (a : ApduParts) where
  abbrev Atoms : ℕ → Command → Type 0
  Atoms ins r = atomic_writes r.items ≤ most_atomic_of_manager ins

  made_atoms : (o : Order) (r : Command) → HasIns o a.ins → IsCommand c session_state a o r → Atoms a.ins r
  made_atoms o r ins h = grind (arith, plains_atomic)

  manage_atoms : Atoms a.ins (manager_command c session_state (manage (room_on c) c.apps session_state a))
  manage_atoms = made_atoms (order_of a.ins) (manager_command c session_state (manage (room_on c) c.apps session_state a)) (order_law (room_on c) c.apps session_state a).ins (command_made c session_state a)

  select_atoms : (r : Command) → IsSelect c session_state a r → atomic_writes r.items ≤ 0
  select_atoms _ (made.unselected sw h) = omega arith
  select_atoms _ (made.selected app h) = omega arith

-- a command that no application runs
pub route_atoms : (c : Card) (session_state : SessionState) (budget k : ℕ) (r : Route) → ((a : ApduParts) → r ≡ ToApplication a → ⊥) → atomic_writes (by_route c session_state budget r).items ≤ most_atomic_of_route k r
route_atoms c session_state budget k r h = grind (arith, select_atoms, selects_law, manage_atoms)

-- ---- a load

filler_route : (c : Card) (session_state : SessionState) (budget : ℕ) (r : Route) → IsFiller r → atomic_writes (by_route c session_state budget r).items ≤ 0
filler_route c session_state budget r h = grind (arith, manage_atoms)

filler_atoms : (c : Card) (session_state : SessionState) (b : List ℕ) (budget : ℕ) → IsFiller (route b) → atomic_writes (command c session_state b budget).items ≤ 0
unfolding command
filler_atoms c session_state b budget h = filler_route c session_state budget (route b) h

manager_most : (ins : ℕ) → most_atomic_of_manager ins ≤ 1
manager_most ins = grind arith

creates_route : (c : Card) (session_state : SessionState) (budget : ℕ) (r : Route) → IsManagerOf 0x16 r → atomic_writes (by_route c session_state budget r).items ≤ 1
creates_route c session_state budget r h = grind (arith, manage_atoms, manager_most)

creates_atoms : (c : Card) (session_state : SessionState) (budget : ℕ) → atomic_writes (command c session_state create_bytes budget).items ≤ 1
unfolding command
creates_atoms c session_state budget = creates_route c session_state budget (route create_bytes) create_manager

sent_atoms : (b : Bool) (r rest : Command) (k n : ℕ) → atomic_writes r.items ≤ k → atomic_writes rest.items ≤ n → atomic_writes (command_with_rest b r rest).items ≤ k + n
sent_atoms true r rest k n h j = let all = atomic_writes_append r.items rest.items in omega (arith, all, h, j)
sent_atoms false r rest k n h j = omega (arith, h)

send_atoms : (c : Card) (session_state : SessionState) (budget : ℕ) (bs : List (List ℕ)) → AreFillers bs → atomic_writes (send c session_state budget (bs ++ create_bytes ∷ [])).items ≤ 1
unfolding send
send_atoms c session_state budget [] h =
    let r = command c session_state create_bytes budget in
    sent_atoms (is_done r.outcome) r (send (card_done c r.items) r.session_state budget []) 1 0 (creates_atoms c session_state budget) (omega arith)
send_atoms c session_state budget (b ∷ bs) h =
    let r = command c session_state b budget in
    sent_atoms (is_done r.outcome) r (send (card_done c r.items) r.session_state budget (bs ++ create_bytes ∷ [])) 0 1 (filler_atoms c session_state b budget h.0) (send_atoms (card_done c r.items) r.session_state budget bs h.1)

-- the commands of a load make at most one atomic write
pub load_atoms : (c : Card) (session_state : SessionState) (budget : ℕ) (u : UnitParts) (fixed session : ℕ) → atomic_writes (send c session_state budget (load_commands u fixed session)).items ≤ 1
load_atoms c session_state budget u fixed session = send_atoms c session_state budget (load_front u fixed session) (front_fillers u fixed session)
