-- The delegations of a command on a card of which no application outside a family can delegate: they come from the
-- family, and only its own commands have any.
use Rattle.std.proofs.Common.{◌≡◌, ℕ, Bool, true, false, List, [], ◌∷◌, ◌++◌, Option, Some, None, refl, sym, ap, subst, ◌∙◌, arith}
use Rattle.std.specs.List.{AllByRecursion}
use Rattle.law_family.specs.model_device.specs.Bytes.{has_name}
use Rattle.law_family.specs.model_device.specs.Card.{App, Card}
use Rattle.law_family.specs.model_device.proofs.ImageLemmas.{all_map}
use Rattle.law_family.specs.model_device.proofs.MapLemmas.{each_found}
use Rattle.law_family.specs.model_machine.specs.Apdu.{ApduParts}
use Rattle.law_family.specs.model_machine.specs.Chain.{run}
use Rattle.law_family.specs.model_card.specs.Items.{card_done}
use Rattle.law_family.specs.model_card.specs.Manager.{Selected, SessionState, Route, WrongLength, WrongClass, ToSelect, ToManager, ToApplication, route, Managed, Declines, Accepts, select, manage, room_on}
use Rattle.law_family.specs.model_card.specs.Commands.{Command, manager_command, application_command, by_route, command}
use Rattle.law_family.specs.model_play.specs.DeckGrammar.{DeckLine}
use Rattle.law_family.specs.model_play.specs.DeckGrammar as line
use Rattle.law_family.specs.model_play.specs.Family.{routes_in, selects_in, command_of, is_own_command}
use Rattle.law_family.specs.model_play.specs.Play.{Running, command_with_rest, is_done, send, line_command, select_bytes, delete_bytes, load_commands}
use Rattle.law_family.proofs.OtherCommand.{IsManagers, AreManagers}
use Rattle.law_family.proofs.LoadCommands.{load_managers, delete_manager}
use Rattle.law_closed.specs.Delegations.{CanCall, NoneOutsideCan}
use Rattle.law_closed.specs.Laws.{DelegatesByCode}
use Rattle.law_closed.proofs.Runs.{runs_law}

-- pairs whose callers are of the family, of a command that is its own or has none
pub record PairsOf (K : List (List ℕ)) (own : Bool) (pairs : List (List ℕ × List ℕ)) : Type 0 where
  pub callers : AllByRecursion (λ p. has_name p.0 K ≡ true) pairs
  pub strangers : own ≡ false → pairs ≡ []

-- no delegation is one of the family
pub no_pairs : (K : List (List ℕ)) (own : Bool) (pairs : List (List ℕ × List ℕ)) → pairs ≡ [] → PairsOf K own pairs
no_pairs K own pairs e = record { callers = subst (λ (z : List (List ℕ × List ℕ)). AllByRecursion (λ p. has_name p.0 K ≡ true) z) (sym e) tt; strangers = λ h. e }

-- ---- a command for an application

-- a name whose application can delegate is of the family
call_inside : (K : List (List ℕ)) (m : List (List ℕ × App)) (n : List ℕ) → NoneOutsideCan K m → CanCall m n → has_name n K ≡ true
call_inside K m n h c = grind (arith, each_found)

ran_pairs : (K : List (List ℕ)) (m : List (List ℕ × App)) (n : List ℕ) (pairs : List (List ℕ × List ℕ)) → NoneOutsideCan K m → DelegatesByCode m n pairs → PairsOf K (has_name n K) pairs
ran_pairs K m n pairs h d =
    record {
      callers = all_map (λ (p : List ℕ × List ℕ). CanCall m p.0) (λ p. has_name p.0 K ≡ true) (λ p c. call_inside K m p.0 h c) pairs d.callers;
      strangers = λ off. d.none (λ c. cc (sym off ∙ call_inside K m n h c));
    }

applied_pairs : (K : List (List ℕ)) (c : Card) (session_state : SessionState) (o : Option Selected) (a : ApduParts) (budget : ℕ) → NoneOutsideCan K c.apps → PairsOf K (selects_in K o) (application_command c session_state o a budget).pairs
applied_pairs K c session_state None a budget h = no_pairs K false [] refl
applied_pairs K c session_state (Some s) a budget h = ran_pairs K c.apps s.name (run c.apps s.name s.session a budget).pairs h (runs_law c.apps s.name s.session a budget)

-- ---- a command by its route

-- a command of the manager delegates nothing
pub managed_none : (c : Card) (session_state : SessionState) (m : Managed) → (manager_command c session_state m).pairs ≡ []
managed_none c session_state (Declines sw) = refl
managed_none c session_state (Accepts a) = refl

routed_pairs : (K : List (List ℕ)) (c : Card) (session_state : SessionState) (budget : ℕ) (r : Route) → NoneOutsideCan K c.apps → PairsOf K (routes_in K session_state r) (by_route c session_state budget r).pairs
routed_pairs K c session_state budget WrongLength h = no_pairs K false [] refl
routed_pairs K c session_state budget WrongClass h = no_pairs K false [] refl
routed_pairs K c session_state budget (ToSelect a) h = no_pairs K (has_name a.body K) _ (managed_none c session_state (select c.apps session_state a))
routed_pairs K c session_state budget (ToManager a) h = no_pairs K false _ (managed_none c session_state (manage (room_on c) c.apps session_state a))
routed_pairs K c session_state budget (ToApplication a) h = applied_pairs K c session_state session_state.selected a budget h

command_pairs : (K : List (List ℕ)) (c : Card) (session_state : SessionState) (b : List ℕ) (budget : ℕ) → NoneOutsideCan K c.apps → PairsOf K (routes_in K session_state (route b)) (command c session_state b budget).pairs
unfolding command
command_pairs K c session_state b budget h = routed_pairs K c session_state budget (route b) h

-- ---- commands that reach the manager

routed_none : (c : Card) (session_state : SessionState) (budget : ℕ) (r : Route) → IsManagers r → (by_route c session_state budget r).pairs ≡ []
routed_none c session_state budget r h = grind (arith, managed_none)

-- a command that reaches the manager delegates nothing
pub command_none : (c : Card) (session_state : SessionState) (b : List ℕ) (budget : ℕ) → IsManagers (route b) → (command c session_state b budget).pairs ≡ []
unfolding command
command_none c session_state b budget h = routed_none c session_state budget (route b) h

none_with_rest : (b : Bool) (r rest : Command) → r.pairs ≡ [] → rest.pairs ≡ [] → (command_with_rest b r rest).pairs ≡ []
none_with_rest true r rest g h = ap (λ (z : List (List ℕ × List ℕ)). z ++ rest.pairs) g ∙ h
none_with_rest false r rest g h = g

-- neither do several such commands in a row
pub sent_none : (c : Card) (session_state : SessionState) (budget : ℕ) (bs : List (List ℕ)) → AreManagers bs → (send c session_state budget bs).pairs ≡ []
unfolding send
sent_none c session_state budget [] h = refl
sent_none c session_state budget (b ∷ bs) h =
    let r = command c session_state b budget in
    let rest = send (card_done c r.items) r.session_state budget bs in
    none_with_rest (is_done r.outcome) r rest (command_none c session_state b budget h.0) (sent_none (card_done c r.items) r.session_state budget bs h.1)

-- ---- the commands of a line

-- the delegations of a line come from the family, and only its own commands have any
pub line_pairs : (K : List (List ℕ)) (c : Card) (session_state : SessionState) (budget : ℕ) (l : DeckLine) → NoneOutsideCan K c.apps → PairsOf K (is_own_command K (Running session_state) (command_of l)) (line_command c session_state budget l).pairs
line_pairs K c session_state budget (line.Sent (line.Select n)) h = command_pairs K c session_state (select_bytes n) budget h
line_pairs K c session_state budget (line.Sent (line.Apdu b)) h = command_pairs K c session_state b budget h
line_pairs K c session_state budget (line.Sent (line.Delete n)) h = no_pairs K false _ (command_none c session_state (delete_bytes n) budget (delete_manager n))
line_pairs K c session_state budget (line.Sent (line.Load u fixed session)) h = no_pairs K false _ (sent_none c session_state budget (load_commands u fixed session) (load_managers u fixed session))
line_pairs K c session_state budget _ h = no_pairs K false [] refl
