-- A command that is run turn by turn before a watcher: the rest of its run makes the whole command.
use Rattle.std.proofs.Common.{◌≡◌, ℕ, ◌+◌, ◌-◌, ◌≤◌, true, List, ◌++◌, Some, None, Result, Ok, Err, arith, ap, subst, ◌∙◌}
use Rattle.model_play.specs.model_device.specs.declared.device.Stop.{Stop}
use Rattle.model_play.specs.model_device.specs.Orders.{Answer}
use Rattle.model_play.specs.model_device.specs.Device.{DeviceState, Wrote}
use Rattle.model_play.specs.model_machine.specs.Chain.{Chain, run_of_chain, start, turn_of}
use Rattle.model_play.specs.model_card.specs.Commands.{Command}
use Rattle.model_play.specs.model_card.specs.Manager.{route}
use Rattle.mc_machine.specs.declared.outcome.Outcome.{Outcome}
use Rattle.mc_machine.specs.declared.outcome.Turn.{Turn as CodeTurn}
use Rattle.mc_card.specs.declared.card.Card.{Card}
use Rattle.mc_card.specs.Parts.{card_in, session_state_in, due, RunsChain}
use Rattle.mc_card.specs.Ends.{BeginSteps, ChainTurned, PassedToChain}
use Rattle.mc_script.specs.Runs.{RanAndReported, sent_to}
use Rattle.mc_script.specs.StepCounts.{instructions}
use Rattle.mc_script.specs.Watching.{IsWide, Watches, WatchesTurn, seen_of_run}
use Rattle.mc_script.proofs.CommandLemmas.{command_is, passed_ran}
use Rattle.mc_script.proofs.RanLemmas.{RunOf, run_ends, run_goes, run_on, run_stops}
use Rattle.mc_script.proofs.StepLemmas.{passed_begin, run_count}
use Rattle.mc_script.proofs.StepRunLemmas.{end_count, ends_so, first_count, goes_at}
use Rattle.mc_script.proofs.TurnLemmas.{is_reported}
use Rattle.mc_script.proofs.UpLemmas.{up_on}
use Rattle.mc_script.proofs.WideLemmas.{next_wide, start_wide}

module _ {N R X : Type 0} (state : N → DeviceState) (wrote : N → ℕ → List ℕ → Answer → N → Type 0)
    (obeys : (d : N) (at : ℕ) (w : List ℕ) (a : Answer) (e : N) → (state d).on ≡ true → wrote d at w a e → Wrote (state d) at w a (state e))
    (seen : ℕ → Chain → X) (watched : R → List X → R → Type 0)
    (onward : (q r s : R) (ts us : List X) → watched q ts r → watched r us s → watched q (ts ++ us) s) where
  -- the number of steps of a command that begins at a number
  abbrev pub last_step : Card N → List ℕ → ℕ → ℕ → ℕ
  last_step c bytes budget old = old + instructions (due state c bytes budget).turns

  -- the rest of a run, with n instructions left: its writes, what is recorded of its turns, and its steps make up those
  -- of the whole command
  pub record RunLeads (c : Card N) (bytes : List ℕ) (budget : ℕ) (q : R) (old n : ℕ) (m : Card N) (p : R) (now : ℕ) : Type 0 where
    pub chain : Chain
    pub runs : RunsChain state m chain n
    pub wide : IsWide chain
    pub ahead : now + (run_of_chain n chain).count ≡ last_step c bytes budget old
    pub rest : (result : Result Outcome Stop) (d : Card N) (r : R) → RunOf state wrote obeys seen watched onward (run_of_chain n chain) (seen_of_run seen n chain) m result d p r
        → RanAndReported state wrote (Watches seen watched (sent_to state c bytes budget)) c (due state c bytes budget) result d q r

  -- a turn, whichever its chain: what it does, what the watcher records of it, and its steps
  pub record TurnDoes (m : Card N) (result : Result CodeTurn Stop) (d : Card N) (p r : R) (now new : ℕ) : Type 0 where
    pub done : (ch : Chain) (left : ℕ) → RunsChain state m ch left → ChainTurned state wrote m ch left (turn_of left ch) result d
    pub watches : (ch : Chain) (left : ℕ) → RunsChain state m ch left → IsWide ch → WatchesTurn seen watched left ch result p r
    pub steps : (ch : Chain) (left : ℕ) → RunsChain state m ch left → new ≡ now + (turn_of left ch).count

  -- the beginning of a command that is passed on
  pub leads_begin : (c m : Card N) (bytes : List ℕ) (budget : ℕ) (q : R) (old now : ℕ) → PassedToChain state wrote c bytes budget m → BeginSteps (card_in state c) (route bytes) old now → RunLeads c bytes budget q old budget m q now
  leads_begin c m bytes budget q old now h begun =
      let s = h.selected in
      let ch = start (card_in state c).apps s.name s.session h.apdu in
      let same : now ≡ old = passed_begin (card_in state c) bytes h.apdu old now h.routed begun in
      let is : instructions (due state c bytes budget).turns ≡ (run_of_chain budget ch).count = ap (λ (k : Command). instructions k.turns) (command_is (card_in state c) (session_state_in state c) bytes budget h.apdu s h.routed h.is) ∙ run_count budget ch in
      record {
        chain = ch;
        runs = h.runs;
        wide = start_wide (card_in state c).apps s.name s.session h.apdu;
        ahead = omega (arith, same, is);
        rest = λ result d r ran. passed_ran state wrote obeys seen watched onward result c m d bytes budget q r h ran;
      }

  -- a turn whose write stopped
  pub leads_stop : (c m d : Card N) (bytes : List ℕ) (budget : ℕ) (q : R) (old n : ℕ) (p r : R) (now new : ℕ) (s : Stop) → RunLeads c bytes budget q old n m p now → TurnDoes m (Err s) d p r now new
      → RanAndReported state wrote (Watches seen watched (sent_to state c bytes budget)) c (due state c bytes budget) (Err s) d q r × (new ≤ last_step c bytes budget old)
  leads_stop c m d bytes budget q old n p r now new s h t =
      let one = t.steps h.chain n h.runs in
      let few = first_count n h.chain in
      let all = h.ahead in
      (h.rest (Err s) d r (run_stops state wrote obeys seen watched onward m d h.chain n s p r (t.done h.chain n h.runs) (t.watches h.chain n h.runs h.wide)), omega (arith, one, few, all))

  -- a turn that ends its chain
  pub leads_end : (c m d : Card N) (bytes : List ℕ) (budget : ℕ) (q : R) (old n : ℕ) (p r : R) (now new : ℕ) (turn : CodeTurn) (o : Outcome) → RunLeads c bytes budget q old n m p now → TurnDoes m (Ok turn) d p r now new → turn.end ≡ Some o
      → RanAndReported state wrote (Watches seen watched (sent_to state c bytes budget)) c (due state c bytes budget) (Ok o) d q r × (new ≡ last_step c bytes budget old)
  leads_end c m d bytes budget q old n p r now new turn o h t end =
      let ch = h.chain in
      let turned = t.done ch n h.runs in
      let last = end_count n ch _ (ends_so (turn_of n ch) turn o turned.turn (is_reported n ch).end end) in
      let one = t.steps ch n h.runs in
      let all = h.ahead in
      (h.rest (Ok o) d r (run_ends state wrote obeys seen watched onward m d ch n turn o p r turned end (t.watches ch n h.runs h.wide)), omega (arith, one, last, all))

  -- a turn that goes on, and takes one instruction of the budget
  pub leads_on : (c m d : Card N) (bytes : List ℕ) (budget : ℕ) (q : R) (old n : ℕ) (p r : R) (now new : ℕ) (turn : CodeTurn) → RunLeads c bytes budget q old n m p now → TurnDoes m (Ok turn) d p r now new → turn.end ≡ None
      → (1 ≤ n) × RunLeads c bytes budget q old (n - 1) d r new
  leads_on c m d bytes budget q old n p r now new turn h t end =
      let ch = h.chain in
      let turned = t.done ch n h.runs in
      let goes = run_goes state wrote obeys m d ch n turn turned end in
      let next = goes_at n goes.left ch goes.next goes.is goes.follows in
      let one = t.steps ch n h.runs in
      let all = h.ahead in
      let is = goes.is in
      let left : goes.left ≡ n - 1 = omega (arith, is) in (
        omega (arith, is),
        subst (λ (k : ℕ). RunLeads c bytes budget q old k d r new) left (record {
          chain = goes.next;
          runs = goes.runs;
          wide = next_wide ch goes.next goes.follows h.wide;
          ahead = omega (arith, one, next, all);
          rest = λ result e s ran.
              h.rest result e s (run_on state wrote obeys seen watched onward m d e ch n turn result p r s goes (up_on state m h.runs.up) turned (t.watches ch n h.runs h.wide) ran);
        }),
      )
