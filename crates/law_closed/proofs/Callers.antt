-- In every play each delegation comes from an application that was on the card before the line, and that can delegate.
use Rattle.std.proofs.Common.{◌≡◌, ℕ, zero, suc, List, [], ◌∷◌, take, drop, Option, Some, None, sym, subst, arith}
use Rattle.std.specs.List.{AllByRecursion}
use Rattle.law_family.specs.model_device.specs.Card.{App, Card}
use Rattle.law_family.specs.model_machine.specs.Apdu.{ApduParts}
use Rattle.law_family.specs.model_card.specs.Manager.{Selected, SessionState, Route, route}
use Rattle.law_family.specs.model_card.specs.Commands.{application_command, by_route, command}
use Rattle.law_family.specs.model_play.specs.DeckGrammar.{DeckLine}
use Rattle.law_family.specs.model_play.specs.DeckGrammar as line
use Rattle.law_family.specs.model_play.specs.Given.{apps_in}
use Rattle.law_family.specs.model_play.specs.Play.{State, Step, FailedWrite, line_command, step, plays, first_failure, select_bytes, delete_bytes, load_commands}
use Rattle.law_family.proofs.LoadCommands.{load_managers, delete_manager}
use Rattle.law_closed.specs.Delegations.{CanCall}
use Rattle.law_closed.specs.Laws.{EachCallerCan}
use Rattle.law_closed.proofs.Runs.{runs_law}
use Rattle.law_closed.proofs.Commands.{managed_none, command_none, sent_none}
use Rattle.law_family.specs.model_play.proofs.LineKinds.{StepKind, Early, Quiet, Powers, Sends, by_kind}

abbrev Callers : List (List ℕ × App) → List (List ℕ × List ℕ) → Type 0
Callers m = AllByRecursion (λ p. CanCall m p.0)

none_call : (m : List (List ℕ × App)) (pairs : List (List ℕ × List ℕ)) → pairs ≡ [] → Callers m pairs
none_call m pairs e = subst (Callers m) (sym e) tt

applied_call : (c : Card) (session_state : SessionState) (o : Option Selected) (a : ApduParts) (budget : ℕ) → Callers c.apps (application_command c session_state o a budget).pairs
applied_call c session_state None a budget = tt
applied_call c session_state (Some s) a budget = (runs_law c.apps s.name s.session a budget).callers

routed_call : (c : Card) (session_state : SessionState) (budget : ℕ) (r : Route) → Callers c.apps (by_route c session_state budget r).pairs
routed_call c session_state budget r = grind (arith, none_call, managed_none, applied_call)

command_call : (c : Card) (session_state : SessionState) (b : List ℕ) (budget : ℕ) → Callers c.apps (command c session_state b budget).pairs
unfolding command
command_call c session_state b budget = routed_call c session_state budget (route b)

line_call : (c : Card) (session_state : SessionState) (budget : ℕ) (l : DeckLine) → Callers c.apps (line_command c session_state budget l).pairs
line_call c session_state budget (line.Sent (line.Select n)) = command_call c session_state (select_bytes n) budget
line_call c session_state budget (line.Sent (line.Apdu b)) = command_call c session_state b budget
line_call c session_state budget (line.Sent (line.Delete n)) = none_call c.apps _ (command_none c session_state (delete_bytes n) budget (delete_manager n))
line_call c session_state budget (line.Sent (line.Load u fixed session)) = none_call c.apps _ (sent_none c session_state budget (load_commands u fixed session) (load_managers u fixed session))
line_call c session_state budget _ = tt

-- ---- lines

abbrev StepCalls : Step → Type 0
StepCalls t = Callers (apps_in t.before) t.pairs

kind_call : {w : Option FailedWrite} {z : State} {n : ℕ} {l : DeckLine} {u : Step} → StepKind w z n l u → StepCalls u
kind_call (Early p) = tt
kind_call (Quiet p q) = tt
kind_call (Powers z) = tt
kind_call (Sends {g = g} k c session_state) = line_call c session_state g (line.Sent k)

step_call : (z : State) (l : ℕ × DeckLine) (w : Option FailedWrite) → StepCalls (step z l w)
step_call z l w = kind_call (by_kind z l w)

-- for every front of a play from any state
pub plays_law : (n : ℕ) (z : State) (ls : List (ℕ × DeckLine)) (ws : List (Option FailedWrite)) → EachCallerCan (take n (plays z ls ws))
unfolding plays
plays_law zero z ls ws = tt
plays_law (suc n) z [] ws = tt
plays_law (suc n) z (l ∷ ls) ws = (step_call z l (first_failure ws), plays_law n (step z l (first_failure ws)).after ls (drop 1 ws))
