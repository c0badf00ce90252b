-- A command of a family does on a card of its own what it does in the play.
use Rattle.std.specs.Prelude.{◌≡◌, ℕ, Bool, true, cond, List, is_none, Option, Some, None}
use Rattle.std.proofs.Common.{arith, ap}
use Rattle.model_play.specs.model_device.specs.Bytes.{has_name}
use Rattle.model_play.specs.model_machine.specs.Apdu.{ApduParts}
use Rattle.model_play.specs.model_device.specs.Card.{App, Card}
use Rattle.model_play.specs.model_card.specs.Manager.{Selected, SessionState, Route, route, answer_unless, select_done, select}
use Rattle.model_play.specs.model_card.specs.Commands.{Command, manager_command, application_command, by_route, command}
use Rattle.model_play.specs.Family.{ClosedPairs, routes_in, selects_in}
use Rattle.model_play.specs.Solo.{Solo, SoloCommand, solo_selected, solo_passed, solo_routed, solo_command}
use Rattle.law_family.proofs.Agreement.{bare, MapsAgree}
use Rattle.law_family.proofs.RunLemma.{RunAlike, run_alike}
use Rattle.law_family.proofs.Sim.{own_of}

-- a command of the play as the lone card sees it
abbrev pub alone : List (List ℕ) → Command → SoloCommand
alone K r = record { items = r.items; outcome = r.outcome; selected = own_of K r.session_state.selected }

own_of_named : (K : List (List ℕ)) (s : Selected) → has_name s.name K ≡ true → own_of K (Some s) ≡ Some s
own_of_named K s h = ap (λ (b : Bool). cond b (Some s) None) h

module _ (K : List (List ℕ)) (c : Card) (session_state : SessionState) (t : Solo) (same : t.selected ≡ own_of K session_state.selected) where
  select_at : (a : ApduParts) (status : Option ℕ) (o p : Option App) → has_name a.body K ≡ true → bare o ≡ bare p
      → solo_selected t (answer_unless status (select_done (record { selected = t.selected; load = None }) a p)) ≡ alone K (manager_command c session_state (answer_unless status (select_done session_state a o)))
  select_at a status o p h e = grind (arith, own_of_named)

  missing_alike : (o p : Option App) → bare o ≡ bare p → is_none o ≡ is_none p
  missing_alike o p e = grind arith

  own_select : (a : ApduParts) → has_name a.body K ≡ true → MapsAgree K true c.apps t.map
      → solo_selected t (select t.map (record { selected = t.selected; load = None }) a) ≡ alone K (manager_command c session_state (select c.apps session_state a))
  own_select a h agree = grind (arith, missing_alike, select_at)

  own_passed : (a : ApduParts) (budget : ℕ) (o : Option Selected) → own_of K session_state.selected ≡ own_of K o → selects_in K o ≡ true → MapsAgree K true c.apps t.map → ClosedPairs K (application_command c session_state o a budget).pairs
      → solo_passed t t.selected a budget ≡ alone K (application_command c session_state o a budget)
  own_passed a budget o e h agree closed = grind (arith, RunAlike, run_alike, own_of_named)

  own_routed : (budget : ℕ) (r : Route) → routes_in K session_state r ≡ true → MapsAgree K true c.apps t.map → ClosedPairs K (by_route c session_state budget r).pairs
      → solo_routed t budget r ≡ alone K (by_route c session_state budget r)
  own_routed budget r h agree closed = grind (arith, own_select, own_passed)

  pub own_command : (bytes : List ℕ) (budget : ℕ) → routes_in K session_state (route bytes) ≡ true → MapsAgree K true c.apps t.map → ClosedPairs K (command c session_state bytes budget).pairs
      → solo_command t bytes budget ≡ alone K (command c session_state bytes budget)
  unfolding command solo_command
  own_command bytes budget h agree closed = own_routed budget (route bytes) h agree closed
