-- Commands on a card: answered, run with their turns recorded, and one after the other.
use Rattle.std.proofs.Common.{arith, ◌≡◌, ℕ, suc, true, false, List, [], ◌++◌, Option, Some, None, Result, Ok, Err, refl, sym, ap, subst, ◌∙◌}
use Rattle.std.specs.Prelude.{option_map, OnOk}
use Rattle.model_play.specs.model_device.specs.declared.device.Stop.{Stop}
use Rattle.model_play.specs.model_device.specs.Orders.{Answer, answer_of}
use Rattle.model_play.specs.model_device.specs.Device.{DeviceState, Wrote}
use Rattle.model_play.specs.model_machine.specs.Apdu.{ApduParts}
use Rattle.model_play.specs.model_device.specs.Card as model
use Rattle.model_play.specs.model_device.specs.Card.{means}
use Rattle.model_play.specs.model_machine.specs.Chain.{Chain, Turn, Ran as ModelRan, run_of_chain, run, start}
use Rattle.model_play.specs.model_card.specs.Manager.{Selected, SessionState, Managed, Declines, Accepts, Route, ToApplication, route}
use Rattle.model_play.specs.model_card.specs.Commands.{Command, command, manager_command, application_command, by_route, ran_command}
use Rattle.model_play.specs.model_card.specs.Items.{write_items}
use Rattle.model_play.specs.TraceText.{before_stop}
use Rattle.mc_machine.specs.declared.outcome.Outcome.{Outcome}
use Rattle.mc_card.specs.declared.card.Card.{Card}
use Rattle.mc_card.specs.Parts.{device_in, card_in, session_state_in, due, with_session}
use Rattle.mc_card.specs.Ends.{is_passed, Commanded, PassedToChain, Answered}
use Rattle.mc_script.specs.Runs.{StoppedAtWrite, ReportsTurns, RanAndReported, sent_to}
use Rattle.mc_script.specs.Watching.{Records, Watches, seen_of, seen_of_application, seen_of_route, seen_of_run}
use Rattle.mc_script.proofs.StopLemmas.{stopped_in, at_number}
use Rattle.mc_script.proofs.RanLemmas.{RunOf}
use Rattle.mc_card.proofs.MadeLemmas.{MadeBy}

-- ---- commands without turns

pub managed_turns : (c : model.Card) (session_state : SessionState) (m : Managed) → (manager_command c session_state m).turns ≡ []
managed_turns c session_state (Declines sw) = refl
managed_turns c session_state (Accepts a) = refl

passed_turns : (c : model.Card) (session_state : SessionState) (s : Option Selected) (a : ApduParts) (budget : ℕ) → is_passed (ToApplication a) s ≡ false → (application_command c session_state s a budget).turns ≡ []
passed_turns c session_state None a budget e = refl
passed_turns c session_state (Some s) a budget e = absurd (cc e)

route_turns : (c : model.Card) (session_state : SessionState) (budget : ℕ) (r : Route) → is_passed r session_state.selected ≡ false → (by_route c session_state budget r).turns ≡ []
route_turns c session_state budget r e = grind (arith, managed_turns, passed_turns)

-- a command that is not passed on has no turns
pub command_turns : (c : model.Card) (session_state : SessionState) (bytes : List ℕ) (budget : ℕ) → is_passed (route bytes) session_state.selected ≡ false → (command c session_state bytes budget).turns ≡ []
unfolding command
command_turns c session_state bytes budget e = route_turns c session_state budget (route bytes) e

-- a command that is passed on is a run
passed_is : (c : model.Card) (session_state : SessionState) (budget : ℕ) (r : Route) (a : ApduParts) (s : Selected) → r ≡ ToApplication a → session_state.selected ≡ Some s → by_route c session_state budget r ≡ ran_command session_state s.name (run c.apps s.name s.session a budget)
passed_is c session_state budget r a s routed is = ap (λ (r : Route). by_route c session_state budget r) routed ∙ ap (λ (o : Option Selected). application_command c session_state o a budget) is

pub command_is : (c : model.Card) (session_state : SessionState) (bytes : List ℕ) (budget : ℕ) (a : ApduParts) (s : Selected) → route bytes ≡ ToApplication a → session_state.selected ≡ Some s → command c session_state bytes budget ≡ ran_command session_state s.name (run c.apps s.name s.session a budget)
unfolding command
command_is c session_state bytes budget a s routed is = passed_is c session_state budget (route bytes) a s routed is

-- the session bytes of a run are kept with the selection
session_stays : (session_state : SessionState) (s : Selected) (session : List ℕ) → session_state.selected ≡ Some s → with_session session session_state ≡ record session_state { selected = Some (record { name = s.name; session = session }) }
session_stays session_state s session is = ap (λ (o : Option Selected). record session_state { selected = option_map {T = Selected} (λ s. record s { session = session }) o }) is

module _ {N R : Type 0} (state : N → DeviceState) (wrote : N → ℕ → List ℕ → Answer → N → Type 0) (reported : R → List Turn → R → Type 0) (silent : (r : R) → reported r [] r) where
  -- nothing is recorded of a command without turns
  quiet_reports : (result : Result Outcome Stop) (c d : Card N) (r : Command) (h : Commanded state wrote c r result d) (q : R) → ReportsTurns state wrote reported c h.made.writes [] result d q q
  quiet_reports (Ok o) c d r h q = silent q
  quiet_reports (Err s) c d r h q =
      let at = stopped_in wrote h.made.writes (device_in c) (device_in d) s h.made.makes in
      (suc at.0, at_number wrote h.made.writes (device_in c) (device_in d) at.0 s at.1, silent q)

  -- a command without turns
  quiet_ran : (result : Result Outcome Stop) (c d : Card N) (r : Command) (q : R) → r.turns ≡ [] → Commanded state wrote c r result d → RanAndReported state wrote reported c r result d q q
  quiet_ran result c d r q none h =
      record { commanded = h; reports = subst (λ (ts : List Turn). ReportsTurns state wrote reported c h.made.writes ts result d q q) (sym none) (quiet_reports result c d r h q) }

  -- a command that is answered
  pub answered_ran : (result : Result Outcome Stop) (c d : Card N) (bytes : List ℕ) (budget : ℕ) (q : R) → Answered state wrote c bytes budget result d → RanAndReported state wrote reported c (due state c bytes budget) result d q q
  answered_ran result c d bytes budget q h =
      quiet_ran result c d (due state c bytes budget) q (command_turns (card_in state c) (session_state_in state c) bytes budget h.stays) h.commanded

-- what was recorded of a run is recorded of the command that began it
reports_as : {N R : Type 0} (state : N → DeviceState) (wrote : N → ℕ → List ℕ → Answer → N → Type 0) (reported : R → List Turn → R → Type 0) (result : Result Outcome Stop) (c m d : Card N) (ws : List (ℕ × List ℕ)) (ts : List Turn) (q r : R) → device_in m ≡ device_in c → ReportsTurns state wrote reported m ws ts result d q r → ReportsTurns state wrote reported c ws ts result d q r
reports_as state wrote reported (Ok o) c m d ws ts q r same h = h
reports_as state wrote reported (Err s) c m d ws ts q r same h = (h.0, subst (λ x. StoppedAtWrite wrote x ws h.0 s (device_in d)) same h.1, h.2)

-- what is seen of a command that is passed to an application
seen_passed : {X : Type 0} (seen : ℕ → Chain → X) (c : model.Card) (session_state : SessionState) (budget : ℕ) (r : Route) (a : ApduParts) (s : Selected) → r ≡ ToApplication a → session_state.selected ≡ Some s → seen_of_route seen c session_state budget r ≡ seen_of_run seen budget (start c.apps s.name s.session a)
seen_passed seen c session_state budget r a s routed is = ap (λ (r : Route). seen_of_route seen c session_state budget r) routed ∙ ap (λ (o : Option Selected). seen_of_application seen c o a budget) is

module _ {N R X : Type 0} (state : N → DeviceState) (wrote : N → ℕ → List ℕ → Answer → N → Type 0)
    (obeys : (d : N) (at : ℕ) (w : List ℕ) (a : Answer) (e : N) → (state d).on ≡ true → wrote d at w a e → Wrote (state d) at w a (state e))
    (seen : ℕ → Chain → X) (watched : R → List X → R → Type 0)
    (onward : (q r s : R) (ts us : List X) → watched q ts r → watched r us s → watched q (ts ++ us) s) where
  session_state_stays : (result : Result Outcome Stop) (c m d : Card N) (s : Selected) (run : ModelRan) → session_state_in state m ≡ session_state_in state c → (session_state_in state c).selected ≡ Some s
      → OnOk result (session_state_in state d ≡ with_session run.session (session_state_in state m)) → OnOk result (session_state_in state d ≡ (ran_command (session_state_in state c) s.name run).session_state)
  session_state_stays (Ok o) c m d s run same is h = h ∙ ap (λ (session_state : SessionState). with_session run.session session_state) same ∙ session_stays (session_state_in state c) s run.session is
  session_state_stays (Err t) c m d s run same is h = tt

  -- a run, as the command that began it
  begun_by : (result : Result Outcome Stop) (c m d : Card N) (s : Selected) (run : ModelRan) (all : List X) (q r : R) → device_in m ≡ device_in c → session_state_in state m ≡ session_state_in state c → (session_state_in state c).selected ≡ Some s
      → RunOf state wrote obeys seen watched onward run all m result d q r → RanAndReported state wrote (Records seen watched all) c (ran_command (session_state_in state c) s.name run) result d q r
  begun_by result c m d s run all q r device same is h =
      let made : MadeBy state wrote obeys (card_in state c) (write_items run.writes) (device_in c) (answer_of result) (device_in d) h.writes = grind (arith, MadeBy) in
      record {
        commanded = grind (arith, session_state_stays);
        reports = reports_as state wrote (Records seen watched all) result c m d h.writes run.turns q r device h.reports;
      }

  -- a command that was passed on, and run to its end
  pub passed_ran : (result : Result Outcome Stop) (c m d : Card N) (bytes : List ℕ) (budget : ℕ) (q r : R) (h : PassedToChain state wrote c bytes budget m)
      → (let first = start (card_in state c).apps (h.selected).name (h.selected).session h.apdu in RunOf state wrote obeys seen watched onward (run_of_chain budget first) (seen_of_run seen budget first) m result d q r)
      → RanAndReported state wrote (Watches seen watched (sent_to state c bytes budget)) c (due state c bytes budget) result d q r
  passed_ran result c m d bytes budget q r h ran =
      let first = start (card_in state c).apps (h.selected).name (h.selected).session h.apdu in
      let all : seen_of seen (sent_to state c bytes budget) ≡ seen_of_run seen budget first = seen_passed seen (card_in state c) (session_state_in state c) budget (route bytes) h.apdu h.selected h.routed h.is in
      subst (λ (xs : List X). RanAndReported state wrote (Records seen watched xs) c (due state c bytes budget) result d q r) (sym all)
      (subst (λ (k : Command). RanAndReported state wrote (Records seen watched (seen_of_run seen budget first)) c k result d q r) (sym (command_is (card_in state c) (session_state_in state c) bytes budget h.apdu h.selected h.routed h.is))
      (begun_by result c m d h.selected (run (card_in state c).apps (h.selected).name (h.selected).session h.apdu budget) (seen_of_run seen budget first) q r h.device h.session_state h.is ran))

-- a command of which the runner may record every turn
pub untold_ran : {N R : Type 0} (state : N → DeviceState) (wrote : N → ℕ → List ℕ → Answer → N → Type 0) (reported : R → List Turn → R → Type 0) (result : Result Outcome Stop) (c d : Card N) (k : Command) (q r : R) → ((ts : List Turn) → reported q ts r) → Commanded state wrote c k result d → RanAndReported state wrote reported c k result d q r
untold_ran state wrote reported (Ok o) c d k q r any h = record { commanded = h; reports = any k.turns }
untold_ran state wrote reported (Err s) c d k q r any h =
    let at = stopped_in wrote h.made.writes (device_in c) (device_in d) s h.made.makes in
    record { commanded = h; reports = (suc at.0, at_number wrote h.made.writes (device_in c) (device_in d) at.0 s at.1, any (before_stop k.turns (suc at.0))) }
