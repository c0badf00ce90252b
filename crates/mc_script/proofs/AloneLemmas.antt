-- A watcher that sees the turn alone records the turns of a command.
use Rattle.std.proofs.Common.{arith, ◌≡◌, ℕ, zero, suc, ◌-◌, Bool, true, false, cond, List, [], ◌∷◌, length, take, Option, Some, None, Result, Ok, Err, refl, ap, subst}
use Rattle.std.proofs.Math.Seq.{take-length}
use Rattle.std.specs.Prelude.{nat_le}
use Rattle.model_play.specs.model_device.specs.declared.device.Stop.{Stop}
use Rattle.model_play.specs.model_device.specs.Card as model
use Rattle.model_play.specs.model_device.specs.Orders.{Answer}
use Rattle.model_play.specs.model_device.specs.Device.{DeviceState}
use Rattle.model_play.specs.model_device.specs.Image.{Two}
use Rattle.model_play.specs.model_device.specs.Stopped.{cost}
use Rattle.model_play.specs.model_machine.specs.Apdu.{ApduParts}
use Rattle.model_play.specs.model_machine.specs.Chain.{Acted, Chain, Follows, Continues, Ends, Turn, chain_session, run_after_turn, run_of_chain, start, turn_of_chain}
use Rattle.model_play.specs.model_card.specs.Commands.{application_command, by_route, command}
use Rattle.model_play.specs.model_card.specs.Manager.{Selected, SessionState, Route, route}
use Rattle.model_play.specs.TraceText.{before_stop, turns_to}
use Rattle.mc_machine.specs.declared.outcome.Outcome.{Outcome}
use Rattle.mc_card.specs.declared.card.Card.{Card}
use Rattle.mc_card.specs.Parts.{card_in, session_state_in, due}
use Rattle.mc_script.specs.Runs.{RanAndReported, ReportsTurns, sent_to}
use Rattle.mc_script.specs.Watching.{Records, Watches, seen_of_application, seen_of_route, seen_of_run, seen_on, turn_alone}
use Rattle.mc_script.proofs.CommandLemmas.{managed_turns}

-- ---- the turns of a command

alone_on : (t : Acted) (session : List ℕ) (f : Follows) (n : ℕ) → ((c : Chain) → seen_of_run turn_alone n c ≡ (run_of_chain n c).turns) → seen_on turn_alone t.turn f (λ c. seen_of_run turn_alone n c) ≡ (run_after_turn t session f (λ c. run_of_chain n c)).turns
alone_on t session (Ends o) n h = refl
alone_on t session (Continues ch) n h = ap (λ (ts : List Turn). t.turn ∷ ts) (h ch)

alone_run : (n : ℕ) (ch : Chain) → seen_of_run turn_alone n ch ≡ (run_of_chain n ch).turns
unfolding seen_of_run run_of_chain
alone_run zero ch = refl
alone_run (suc n) ch = alone_on (turn_of_chain ch) (chain_session ch) (turn_of_chain ch).follows n (λ c. alone_run n c)

alone_application : (c : model.Card) (session_state : SessionState) (s : Option Selected) (a : ApduParts) (budget : ℕ) → seen_of_application turn_alone c s a budget ≡ (application_command c session_state s a budget).turns
alone_application c session_state None a budget = refl
alone_application c session_state (Some s) a budget = alone_run budget (start c.apps s.name s.session a)

alone_route : (c : model.Card) (session_state : SessionState) (budget : ℕ) (r : Route) → seen_of_route turn_alone c session_state budget r ≡ (by_route c session_state budget r).turns
alone_route c session_state budget r = grind (arith, managed_turns, alone_application)

alone_command : (c : model.Card) (session_state : SessionState) (bytes : List ℕ) (budget : ℕ) → seen_of_route turn_alone c session_state budget (route bytes) ≡ (command c session_state bytes budget).turns
unfolding command
alone_command c session_state bytes budget = alone_route c session_state budget (route bytes)

-- ---- the turns before a stop are the first ones

front_cond : (b : Bool) (t : Turn) (ts us : List Turn) → take (length us) ts ≡ us → take (length (cond b [] (t ∷ us))) (t ∷ ts) ≡ cond b [] (t ∷ us)
front_cond true t ts us h = refl
front_cond false t ts us h = ap (λ (vs : List Turn). t ∷ vs) h

front_by : (wrote : Option ℕ) (t : Turn) (ts : List Turn) (k : ℕ) → ((j : ℕ) → take (length (before_stop ts j)) ts ≡ before_stop ts j) → take (length (turns_to wrote t k (λ j. before_stop ts j))) (t ∷ ts) ≡ turns_to wrote t k (λ j. before_stop ts j)
front_by None t ts k h = ap (λ (vs : List Turn). t ∷ vs) (h k)
front_by (Some w) t ts k h = front_cond (nat_le k (cost Two w)) t ts (before_stop ts (k - cost Two w)) (h (k - cost Two w))

before_front : (ts : List Turn) (k : ℕ) → take (length (before_stop ts k)) ts ≡ before_stop ts k
before_front [] k = refl
before_front (t ∷ ts) k = front_by t.wrote t ts k (λ j. before_front ts j)

-- ---- commands that were run

module _ {N R : Type 0} (state : N → DeviceState) (wrote : N → ℕ → List ℕ → Answer → N → Type 0) (reported : R → List Turn → R → Type 0) where
  alone_reports : (result : Result Outcome Stop) (c d : Card N) (ws : List (ℕ × List ℕ)) (ts : List Turn) (q r : R) → ReportsTurns state wrote (Records turn_alone reported ts) c ws ts result d q r → ReportsTurns state wrote reported c ws ts result d q r
  alone_reports (Ok o) c d ws ts q r h = subst (λ (us : List Turn). reported q us r) (take-length ts) h
  alone_reports (Err s) c d ws ts q r h = (h.0, h.1, subst (λ (us : List Turn). reported q us r) (before_front ts h.0) h.2)

  pub alone_ran : (result : Result Outcome Stop) (c d : Card N) (bytes : List ℕ) (budget : ℕ) (q r : R) → RanAndReported state wrote (Watches turn_alone reported (sent_to state c bytes budget)) c (due state c bytes budget) result d q r → RanAndReported state wrote reported c (due state c bytes budget) result d q r
  alone_ran result c d bytes budget q r h =
      let ts = (due state c bytes budget).turns in
      let ws = h.commanded.made.writes in
      let all = alone_command (card_in state c) (session_state_in state c) bytes budget in
      record {
        commanded = h.commanded;
        reports = alone_reports result c d ws ts q r (subst (λ (us : List Turn). ReportsTurns state wrote (Records turn_alone reported us) c ws ts result d q r) all h.reports);
      }
