-- The device writes of one command at the most, by its route.
use Rattle.std.proofs.Common.{◌≡◌, ℕ, ◌*◌, ◌≤◌, List, [], length, Option, Some, None, refl, ap, subst, arith}
use Rattle.law_family.specs.model_card.specs.declared.card.Part.{Part}
use Rattle.law_family.specs.model_device.specs.Limits.{most_static}
use Rattle.law_family.specs.model_machine.specs.Apdu.{ApduParts}
use Rattle.law_family.specs.model_machine.specs.Chain.{Turn}
use Rattle.law_family.specs.model_device.specs.Card.{Card}
use Rattle.law_family.specs.model_card.specs.Items.{moves}
use Rattle.law_family.specs.model_card.specs.Manager.{Selected, Open, SessionState, Route, WrongLength, WrongClass, ToSelect, ToManager, ToApplication, route, Managed, Declines, Accepts, p1p2, select, word_parts, manage, room_on}
use Rattle.law_family.specs.model_card.specs.Commands.{Command, manager_command, application_command, by_route, command}
use Rattle.law_family.specs.law_machine.proofs.AppSizes.{Limited}
use Rattle.law_family.specs.law_manager.specs.Orders.{Order, Loads, Creates, Deletes, order_of, ins_of_part, HasIns}
use Rattle.law_family.specs.law_manager.specs.OnCard.{IsCommand, IsSelect, plains, blank_words}
use Rattle.law_family.specs.law_manager.specs.OnCard as made
use Rattle.law_family.specs.law_manager.proofs.Orders.{order_law}
use Rattle.law_family.specs.law_manager.proofs.OnCard.{command_made, selects_law}
use Rattle.law_family.specs.law_manager.proofs.Plains.{plains_moves}
use Rattle.law_family.proofs.CardFacts.{AreOnCard, are_coded}
use Rattle.law_family.proofs.PlaySizes.{LoadFits, SessionStateFits}
use Rattle.law_family.proofs.FewItems.{SelectedStands, SessionStateStands}
use Rattle.law_wear.specs.Most.{most_atomic_of_route, most_of_creation, most_of_deletion, most_of_manager, most_of_route}
use Rattle.law_wear.specs.Laws.{atomic_writes, instructions}
use Rattle.law_wear.proofs.Atoms.{route_atoms}
use Rattle.law_wear.proofs.Headers.{created_headers, deleted_headers}
use Rattle.law_wear.proofs.Pieces.{parts_few, zeros_few}
use Rattle.law_wear.proofs.Runs.{run_few}

-- the static bytes of an open load
abbrev pub fixed_in : Option Open → ℕ
fixed_in None = 0
fixed_in (Some o) = o.site.sizes.fixed

creation_small : (o : Option Open) → LoadFits o → most_of_creation (fixed_in o) ≤ most_of_creation most_static
creation_small None h = omega arith
creation_small (Some o) h = let small : o.site.sizes.fixed ≤ 4096 = h.0 in omega (arith, small)

-- ---- the manager

-- a command of the manager runs no instruction
pub manager_turns : (c : Card) (session_state : SessionState) (m : Managed) → (manager_command c session_state m).turns ≡ []
manager_turns c session_state (Declines sw) = refl
manager_turns c session_state (Accepts a) = refl

part_most : (p : Part) (a : ApduParts) → length (word_parts (p1p2 a) a.body) ≤ most_of_manager (ins_of_part p) (length a.body)
part_most p a = grind (arith, parts_few)

module _ (c : Card) (session_state : SessionState) (a : ApduParts) where
  -- the most device writes of a command: of a LOAD one for each word that its piece touches, of a CREATE by the sizes
  -- of the open load
  abbrev pub most_of_order : Order → ℕ
  most_of_order (Loads p) = length (word_parts (p1p2 a) a.body)
  most_of_order Creates = most_of_creation (fixed_in session_state.load)
  most_of_order Deletes = most_of_deletion
  most_of_order _ = 0

  -- a command of the manager makes at most the device writes of its order
  pub made_few : (o : Order) (r : Command) → AreOnCard c.apps → LoadFits session_state.load → IsCommand c session_state a o r → moves r.items ≤ most_of_order o
  made_few o r on fits h = grind (arith, plains_moves, LoadFits, zeros_few, created_headers, deleted_headers)

  -- no more than by its INS
  most_by_ins : (o : Order) → LoadFits session_state.load → HasIns o a.ins → most_of_order o ≤ most_of_manager a.ins (length a.body)
  most_by_ins o fits ins = grind (arith, part_most, creation_small)

  manage_few : AreOnCard c.apps → LoadFits session_state.load → moves (manager_command c session_state (manage (room_on c) c.apps session_state a)).items ≤ most_of_manager a.ins (length a.body)
  manage_few on fits =
      grind (arith, made_few (order_of a.ins) (manager_command c session_state (manage (room_on c) c.apps session_state a)) on fits (command_made c session_state a), most_by_ins (order_of a.ins) fits (order_law (room_on c) c.apps session_state a).ins)

  select_few : (r : Command) → IsSelect c session_state a r → moves r.items ≤ 0
  select_few _ (made.unselected sw h) = omega arith
  select_few _ (made.selected app h) = omega arith

-- ---- a command

-- the device writes of a command, and the instructions that it runs
pub record CommandWears (most : ℕ → ℕ) (budget : ℕ) (r : Command) : Type 0 where
  pub writes : moves r.items ≤ most (instructions r.turns)
  pub count : instructions r.turns ≤ budget

managed_wears : (c : Card) (session_state : SessionState) (n budget : ℕ) (m : Managed) → moves (manager_command c session_state m).items ≤ n → CommandWears (λ k. n) budget (manager_command c session_state m)
managed_wears c session_state n budget m h = grind (arith, ap (λ (ts : List Turn). instructions ts) (manager_turns c session_state m))

passed_wears : (c : Card) (session_state : SessionState) (o : Option Selected) (a : ApduParts) (budget : ℕ) → session_state.selected ≡ o → Limited c.apps → AreOnCard c.apps → SessionStateStands c.apps session_state
    → CommandWears (λ k. 78 * k) budget (application_command c session_state o a budget)
passed_wears c session_state None a budget e limited on h = record { writes = omega arith; count = omega arith }
passed_wears c session_state (Some s) a budget e limited on h =
    let short : length s.name ≤ 16 = subst SelectedStands e h.selected in
    let r = run_few c.apps s.name s.session a budget (are_coded c.apps limited on) short in
    let writes = r.writes in
    record { writes = omega (arith, writes); count = r.count }

routed_wears : (c : Card) (session_state : SessionState) (budget : ℕ) (r : Route) → SessionStateFits c.apps session_state → Limited c.apps → AreOnCard c.apps → SessionStateStands c.apps session_state → CommandWears (λ k. most_of_route k r) budget (by_route c session_state budget r)
routed_wears c session_state budget WrongLength fits limited on h = record { writes = omega arith; count = omega arith }
routed_wears c session_state budget WrongClass fits limited on h = record { writes = omega arith; count = omega arith }
routed_wears c session_state budget (ToSelect a) fits limited on h = managed_wears c session_state 0 budget (select c.apps session_state a) (select_few c session_state a (manager_command c session_state (select c.apps session_state a)) (selects_law c session_state a))
routed_wears c session_state budget (ToManager a) fits limited on h =
    managed_wears c session_state (most_of_manager a.ins (length a.body)) budget (manage (room_on c) c.apps session_state a) (manage_few c session_state a on fits.load)
routed_wears c session_state budget (ToApplication a) fits limited on h = passed_wears c session_state session_state.selected a budget refl limited on h

-- its atomic writes
run_atoms : (c : Card) (session_state : SessionState) (o : Option Selected) (a : ApduParts) (budget : ℕ) → session_state.selected ≡ o → Limited c.apps → AreOnCard c.apps → SessionStateStands c.apps session_state
    → let r = application_command c session_state o a budget in atomic_writes r.items ≤ instructions r.turns
run_atoms c session_state o a budget e limited on h = grind (arith, SelectedStands, run_few, are_coded)

routed_atoms : (c : Card) (session_state : SessionState) (budget : ℕ) (r : Route) → Limited c.apps → AreOnCard c.apps → SessionStateStands c.apps session_state
    → atomic_writes (by_route c session_state budget r).items ≤ most_atomic_of_route (instructions (by_route c session_state budget r).turns) r
routed_atoms c session_state budget r limited on h = grind (arith, route_atoms, run_atoms)

-- a command makes at most the atomic writes of its route
pub command_atoms : (c : Card) (session_state : SessionState) (b : List ℕ) (budget : ℕ) → Limited c.apps → AreOnCard c.apps → SessionStateStands c.apps session_state
    → atomic_writes (command c session_state b budget).items ≤ most_atomic_of_route (instructions (command c session_state b budget).turns) (route b)
unfolding command
command_atoms c session_state b budget limited on h = routed_atoms c session_state budget (route b) limited on h

-- a command makes at most the device writes of its route, and runs at most its budget
pub command_wears : (c : Card) (session_state : SessionState) (b : List ℕ) (budget : ℕ) → SessionStateFits c.apps session_state → Limited c.apps → AreOnCard c.apps → SessionStateStands c.apps session_state
    → CommandWears (λ k. most_of_route k (route b)) budget (command c session_state b budget)
unfolding command
command_wears c session_state b budget fits limited on h = routed_wears c session_state budget (route b) fits limited on h
