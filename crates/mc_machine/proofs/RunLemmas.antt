-- A run by its turns: the rest of the run has the result of the whole run.
use Rattle.std.proofs.Common.{◌≡◌, ℕ, zero, suc, ◌+◌, ◌-◌, ◌≤◌, ◌<◌, ◌≢◌, false, List, Some, None, Result, Ok, Err, arith, refl, sym, ap, subst, ◌∙◌}
use Rattle.std.specs.Prelude.{option_map, IfOk, OnOk, OnErr}
use Rattle.std.specs.List.{AllByRecursion}
use Rattle.law_machine.specs.model_machine.specs.declared.instruction.Ins.{Ins}
use Rattle.law_machine.specs.model_machine.specs.declared.instruction.DecodeFault.{DecodeFault}
use Rattle.law_machine.specs.model_machine.specs.declared.instruction.DecodeFault.TheVariants.{Undefined, Past}
use Rattle.law_machine.specs.model_machine.specs.declared.machine.Abend.TheVariants.{A07}
use Rattle.law_machine.specs.model_device.specs.declared.device.Stop.{Stop}
use Rattle.law_machine.specs.model_device.specs.Orders.{Answer, InOrder, answer_of}
use Rattle.law_machine.specs.model_device.proofs.OrdersLemmas.{in_order_append, in_order_stopped}
use Rattle.law_machine.specs.model_machine.specs.Code.{instruction_at}
use Rattle.law_machine.specs.model_device.specs.Bytes.{lookup}
use Rattle.law_machine.specs.model_machine.specs.Row.{RowEnd, Abends, Does, row}
use Rattle.law_machine.specs.model_machine.specs.Chain.{Chain, Outcome, Abended, Acted, Write, Ran, Follows, Continues, Ends, around, code_in, frame_at, chain_session, row_turn, turn_of_fetch, turn_of_chain, turn_without_budget, turn_of, end_of, ends_with, goes_on, run_after_turn, run_of_chain, chain_after_call}
use Rattle.mc_apdu.specs.declared.reply.Reply.{Reply}
use Rattle.mc_machine.specs.declared.outcome.End.{End}
use Rattle.mc_machine.specs.declared.outcome.Step.{Step}
use Rattle.mc_machine.proofs.ReadsLemmas.{session_runs}
use Rattle.mc_machine.specs.Chains.{Chained, RunsAs, ChainWrote, session_in}
use Rattle.mc_machine.specs.Lone.{EndDone, Delegated, Finished, RanDone}
use Rattle.mc_machine.specs.declared.outcome.Outcome.{Outcome as CodeOutcome}
use Rattle.mc_machine.specs.Turns.{Follow, TurnActs, ActDone, end_value, outcome_value, outcome_by, reply_or_stop}
use Rattle.mc_machine.proofs.FewLemmas.{all_few}
use Rattle.mc_bank.specs.declared.bank.Bank.{Ghosts}

-- ---- turns of the definition

-- a turn that goes on counts one
abbrev CountsOne : Follows → ℕ → Type 0
CountsOne (Continues c) n = n ≡ 1
CountsOne (Ends o) n = n ≤ 1

-- the record of a turn has the turn's end, and a turn after which the chain goes on counts one
record ReportsEnd (t : Acted) : Type 0 where
  end : t.turn.end ≡ end_of t.follows
  count : CountsOne t.follows t.count

counts_one : (f : Follows) → CountsOne f 1
counts_one (Continues c) = refl
counts_one (Ends o) = omega arith

row_reported : (ch : Chain) (i : Ins) (r : RowEnd) → ReportsEnd (row_turn ch i r)
row_reported ch i (Abends a) = record { end = refl; count = omega arith }
row_reported ch i (Does d) = record { end = refl; count = counts_one _ }

fetched_reported : (ch : Chain) (r : Result (Ins × ℕ) DecodeFault) → ReportsEnd (turn_of_fetch ch r)
fetched_reported ch (Err Undefined) = record { end = refl; count = omega arith }
fetched_reported ch (Err Past) = record { end = refl; count = omega arith }
fetched_reported ch (Ok i) = row_reported ch i.0 (row i.0 (frame_at ch.frame i.1) ch.public (around ch))

acted_reported : (ch : Chain) → ReportsEnd (turn_of_chain ch)
unfolding turn_of_chain
acted_reported ch = fetched_reported ch (instruction_at (code_in (lookup ch.map ch.frame.name)) ch.frame.at)

turn_reported : (n : ℕ) (ch : Chain) → ReportsEnd (turn_of n ch)
turn_reported zero ch = record { end = refl; count = omega arith }
turn_reported (suc n) ch = acted_reported ch

-- a run whose first turn goes on
ran_goes : (n m : ℕ) (ch next : Chain) → (turn_of n ch).follows ≡ Continues next → m + 1 ≡ n → run_of_chain n ch ≡ goes_on (turn_of n ch) (run_of_chain m next)
unfolding run_of_chain
ran_goes zero m ch next e size = absurd (cc e)
ran_goes (suc n) m ch next e size =
    let same : n ≡ m = omega (arith, size) in
    ap (λ (f : Follows). run_after_turn (turn_of_chain ch) (chain_session ch) f (λ c. run_of_chain n c)) e ∙ ap (λ (k : ℕ). goes_on (turn_of_chain ch) (run_of_chain k next)) same

-- a run whose first turn ends it
ran_ends : (n : ℕ) (ch : Chain) (o : Outcome) → (turn_of n ch).follows ≡ Ends o → run_of_chain n ch ≡ ends_with (turn_of n ch) (chain_session ch) o
unfolding run_of_chain
ran_ends zero ch o e = ap (λ (p : Outcome). ends_with (turn_without_budget ch) (chain_session ch) p) (cc e)
ran_ends (suc n) ch o e = ap (λ (f : Follows). run_after_turn (turn_of_chain ch) (chain_session ch) f (λ c. run_of_chain n c)) e

ended_of : (f : Follows) (o : Outcome) → Some o ≡ end_of f → f ≡ Ends o
ended_of (Continues c) o e = absurd (cc e)
ended_of (Ends p) o e = ap Ends (cc e)

goes_some : (n : ℕ) (ch next : Chain) → (turn_of n ch).follows ≡ Continues next → (n - 1) + 1 ≡ n
goes_some zero ch next e = absurd (cc e)
goes_some (suc n) ch next e = omega arith

turn_count : (n : ℕ) (ch : Chain) (f : Follows) → (turn_of n ch).follows ≡ f → (turn_of n ch).count ≤ (run_of_chain n ch).count
turn_count n ch (Ends o) e = grind (arith, ap (λ (r : Ran). r.count) (ran_ends n ch o e))
turn_count n ch (Continues next) e = grind (arith, ap (λ (r : Ran). r.count) (ran_goes n (n - 1) ch next e (goes_some n ch next e)))

-- ---- a run that is underway

-- A run from `start` after some of its turns: the rest of the run from here is the rest of the whole run, so its
-- writes, steps and end are those of the whole run from the start.
pub record Underway {B : Type 0} (ghosts : Ghosts B) (start : B) (whole : Ran) (ticks budget turn : ℕ) (here : B) (c : Chained) (steps : ℕ) : Type 0 where
  pub chain : Chain
  pub runs : RunsAs (ghosts.state here) (ghosts.named here) c chain
  pub going : (ghosts.state here).stopped ≡ false
  pub left : c.left + turn ≡ budget
  pub writes : (a : Answer) (e : B) → InOrder (ChainWrote ghosts) here (run_of_chain c.left chain).writes a e → InOrder (ChainWrote ghosts) start whole.writes a e
  pub count : steps + (run_of_chain c.left chain).count ≡ ticks + whole.count
  pub session : (run_of_chain c.left chain).session ≡ whole.session
  pub outcome : (run_of_chain c.left chain).outcome ≡ whole.outcome

module _ {B : Type 0} (ghosts : Ghosts B) where
  -- a chain before its first turn
  pub underway : (start : B) (c : Chained) (ch : Chain) (budget steps : ℕ) → (ghosts.state start).stopped ≡ false → RunsAs (ghosts.state start) (ghosts.named start) c ch → c.left ≡ budget → Underway ghosts start (run_of_chain budget ch) steps budget 0 start c steps
  underway start c ch budget steps going runs left = grind (arith, ap (λ (n : ℕ). run_of_chain n ch) left)

  -- a turn after which the chain goes on
  module _ (start : B) (whole : Ran) (ticks budget turn : ℕ) (here e : B) (c d : Chained) (steps now : ℕ) (u : Underway ghosts start whole ticks budget turn here c steps) where
    goes_by : (f : Follows) → (turn_of c.left u.chain).follows ≡ f → end_of f ≡ None → TurnActs ghosts here e c d u.chain (turn_of c.left u.chain) → now ≡ steps + (turn_of c.left u.chain).count → Underway ghosts start whole ticks budget (turn + 1) e d now
    goes_by (Ends o) follows none acts count = absurd (cc none)
    goes_by (Continues next) follows none acts count =
        let t = turn_of c.left u.chain in
        let one : t.count ≡ 1 = subst (λ (f : Follows). CountsOne f t.count) follows (turn_reported c.left u.chain).count in
        let left = acts.left in
        let size : d.left + 1 ≡ c.left = omega (arith, left, one) in
        let same : run_of_chain c.left u.chain ≡ goes_on t (run_of_chain d.left next) = ran_goes c.left d.left u.chain next follows size in
        let whole_left = u.left in
        let whole_count : steps + (t.count + (run_of_chain d.left next).count) ≡ ticks + whole.count = ap (λ (r : Ran). steps + r.count) (sym same) ∙ u.count in
        record {
          chain = next;
          runs = subst (λ (f : Follows). Follow (ghosts.state e) (ghosts.named e) d u.chain f) follows acts.follows;
          going = acts.going;
          left = omega (arith, size, whole_left);
          writes = λ a k w. u.writes a k (subst (λ (r : Ran). InOrder (ChainWrote ghosts) here r.writes a k) (sym same) (in_order_append (ChainWrote ghosts) t.writes (run_of_chain d.left next).writes here e k a acts.writes w));
          count = omega (arith, count, whole_count);
          session = ap (λ (r : Ran). r.session) (sym same) ∙ u.session;
          outcome = ap (λ (r : Ran). r.outcome) (sym same) ∙ u.outcome;
        }

    -- a turn after which the chain goes on
    pub end_goes : EndDone ghosts here e c d u.chain (turn_of c.left u.chain) None → now ≡ steps + (turn_of c.left u.chain).count → Underway ghosts start whole ticks budget (turn + 1) e d now
    end_goes done count = goes_by (turn_of c.left u.chain).follows refl (sym (turn_reported c.left u.chain).end ∙ done.1) done.0 count

    pub underway_goes : (step : Step) → step.end ≡ None → ActDone ghosts here e c d u.chain (turn_of c.left u.chain) (Ok step) → now ≡ steps + (turn_of c.left u.chain).count → Underway ghosts start whole ticks budget (turn + 1) e d now
    underway_goes step none done count =
        end_goes (done.0, ap (λ t. t.end) done.1 ∙ ap (option_map (end_value d.public d.le)) none) count

    -- a turn that ended it
    pub end_ends : (end : End) → EndDone ghosts here e c d u.chain (turn_of c.left u.chain) (Some end) → now ≡ steps + (turn_of c.left u.chain).count → Finished ghosts start whole ticks e (session_in d) (end_value d.public d.le end) now
    end_ends end done count =
        let t = turn_of c.left u.chain in
        let o = end_value d.public d.le end in
        let reported : Some o ≡ end_of t.follows = sym done.1 ∙ (turn_reported c.left u.chain).end in
        let ends = ended_of t.follows o reported in
        let same : run_of_chain c.left u.chain ≡ ends_with t (chain_session u.chain) o = ran_ends c.left u.chain o ends in
        record {
          writes = u.writes (Ok tt) e (subst (λ (r : Ran). InOrder (ChainWrote ghosts) here r.writes (Ok tt) e) (sym same) done.0.writes);
          going = done.0.going;
          count = count ∙ ap (λ (r : Ran). steps + r.count) (sym same) ∙ u.count;
          session = subst (λ (f : Follows). Follow (ghosts.state e) (ghosts.named e) d u.chain f) ends done.0.follows ∙ ap (λ (r : Ran). r.session) (sym same) ∙ u.session;
          outcome = ap (λ (r : Ran). r.outcome) (sym same) ∙ u.outcome;
        }

    pub underway_ends : (step : Step) (end : End) → step.end ≡ Some end → ActDone ghosts here e c d u.chain (turn_of c.left u.chain) (Ok step) → now ≡ steps + (turn_of c.left u.chain).count → Finished ghosts start whole ticks e (session_in d) (end_value d.public d.le end) now
    underway_ends step end some done count =
        end_ends end (done.0, ap (λ t. t.end) done.1 ∙ ap (option_map (end_value d.public d.le)) some) count

    -- a turn that delegates: the rest of the run is that of the chain in which the name is called
    module _ (name : List ℕ) (g : Delegated ghosts here e c d (turn_of c.left u.chain) name) (count : now ≡ steps + (turn_of c.left u.chain).count) where
      abbrev pub next_chain : Chain
      next_chain = chain_after_call g.chain name (lookup g.chain.map name)

      rest_is : run_of_chain c.left u.chain ≡ goes_on (turn_of c.left u.chain) (run_of_chain d.left next_chain)
      rest_is =
          let t = turn_of c.left u.chain in
          let one : t.count ≡ 1 = subst (λ (f : Follows). CountsOne f t.count) g.follows (turn_reported c.left u.chain).count in
          let left = g.left in
          ran_goes c.left d.left u.chain next_chain g.follows (omega (arith, left, one))

      pub delegated_ends : (end : B) (bytes after : List ℕ) (last : ℕ) (result : Result CodeOutcome Stop) → RanDone ghosts e end bytes after now last (run_of_chain d.left next_chain) result → RanDone ghosts start end bytes after ticks last whole result
      delegated_ends end bytes after last (Ok o) f =
          let t = turn_of c.left u.chain in
          let same = rest_is in
          let rest = run_of_chain d.left next_chain in
          let total : steps + (t.count + rest.count) ≡ ticks + whole.count = ap (λ (r : Ran). steps + r.count) (sym same) ∙ u.count in
          let more = f.count in
          record {
            writes = u.writes (Ok tt) end (subst (λ (r : Ran). InOrder (ChainWrote ghosts) here r.writes (Ok tt) end) (sym same) (in_order_append (ChainWrote ghosts) t.writes rest.writes here e end (Ok tt) g.writes f.writes));
            going = f.going;
            count = omega (arith, count, total, more);
            session = f.session ∙ ap (λ (r : Ran). r.session) (sym same) ∙ u.session;
            outcome = f.outcome ∙ ap (λ (r : Ran). r.outcome) (sym same) ∙ u.outcome;
          }
      delegated_ends end bytes after last (Err s) h =
          let t = turn_of c.left u.chain in
          let same = rest_is in
          let rest = run_of_chain d.left next_chain in
          let total : steps + (t.count + rest.count) ≡ ticks + whole.count = ap (λ (r : Ran). steps + r.count) (sym same) ∙ u.count in
          let more = h.count in
          record {
            writes = u.writes (Err s) end (subst (λ (r : Ran). InOrder (ChainWrote ghosts) here r.writes (Err s) end) (sym same) (in_order_append (ChainWrote ghosts) t.writes rest.writes here e end (Err s) g.writes h.writes));
            count = omega (arith, count, total, more);
            session = h.session;
          }

  stops_by : (n : ℕ) (ch : Chain) (b e : B) (s : Stop) (f : Follows) → (turn_of n ch).follows ≡ f → InOrder (ChainWrote ghosts) b (turn_of n ch).writes (Err s) e → InOrder (ChainWrote ghosts) b (run_of_chain n ch).writes (Err s) e
  stops_by n ch b e s (Ends o) ends w = subst (λ (r : Ran). InOrder (ChainWrote ghosts) b r.writes (Err s) e) (sym (ran_ends n ch o ends)) w
  stops_by n ch b e s (Continues next) goes w =
      let t = turn_of n ch in
      subst (λ (r : Ran). InOrder (ChainWrote ghosts) b r.writes (Err s) e) (sym (ran_goes n (n - 1) ch next goes (goes_some n ch next goes))) (in_order_stopped (ChainWrote ghosts) t.writes (run_of_chain (n - 1) next).writes b e s w)

  -- a turn that a `Stop` ends
  pub underway_stops : (start : B) (whole : Ran) (ticks budget turn : ℕ) (here e : B) (c : Chained) (steps : ℕ) (u : Underway ghosts start whole ticks budget turn here c steps) (s : Stop) → InOrder (ChainWrote ghosts) here (turn_of c.left u.chain).writes (Err s) e → InOrder (ChainWrote ghosts) start whole.writes (Err s) e
  underway_stops start whole ticks budget turn here e c steps u s w = u.writes (Err s) e (stops_by c.left u.chain here e s (turn_of c.left u.chain).follows refl w)

  -- a turn counts no more steps than the run
  pub underway_most : (start : B) (whole : Ran) (ticks budget turn : ℕ) (here : B) (c : Chained) (steps now : ℕ) (u : Underway ghosts start whole ticks budget turn here c steps) → now ≡ steps + (turn_of c.left u.chain).count → now ≤ ticks + whole.count
  underway_most start whole ticks budget turn here c steps now u count = grind (arith, turn_count)

  -- the end of the rest of a run is that of the whole run
  pub rest_ends : (start : B) (whole : Ran) (ticks budget turn : ℕ) (here : B) (c : Chained) (steps : ℕ) (u : Underway ghosts start whole ticks budget turn here c steps) (end : B) (bytes after : List ℕ) (last : ℕ) (result : Result CodeOutcome Stop)
      → RanDone ghosts here end bytes after steps last (run_of_chain c.left u.chain) result → RanDone ghosts start end bytes after ticks last whole result
  rest_ends start whole ticks budget turn here c steps u end bytes after last (Ok o) f = grind (arith, f.count, u.count)
  rest_ends start whole ticks budget turn here c steps u end bytes after last (Err s) h = grind (arith, h.count, u.count)

  -- no turn is left
  pub underway_spent : (start : B) (whole : Ran) (ticks budget turn : ℕ) (here : B) (c : Chained) (steps : ℕ) → Underway ghosts start whole ticks budget turn here c steps → budget ≤ turn → Finished ghosts start whole ticks here (session_in c) (Abended A07) steps
  underway_spent start whole ticks budget turn here c steps u done =
      let total = u.left in
      let none : c.left ≡ 0 = omega (arith, total, done) in
      let same : run_of_chain c.left u.chain ≡ ends_with (turn_without_budget u.chain) (chain_session u.chain) (Abended A07) = ap (λ (n : ℕ). run_of_chain n u.chain) none ∙ ran_ends 0 u.chain (Abended A07) refl in
      let all : steps + 0 ≡ ticks + whole.count = ap (λ (r : Ran). steps + r.count) (sym same) ∙ u.count in
      record {
        writes = u.writes (Ok tt) here (subst (λ (r : Ran). InOrder (ChainWrote ghosts) here r.writes (Ok tt) here) (sym same) refl);
        going = u.going;
        count = omega (arith, all);
        session = session_runs (ghosts.state here) (ghosts.named here) c u.chain u.runs ∙ ap (λ (r : Ran). r.session) (sym same) ∙ u.session;
        outcome = ap (λ (r : Ran). r.outcome) (sym same) ∙ u.outcome;
      }

-- ---- runs by their results

pub something_left : (budget turn : ℕ) → turn < budget → budget - turn ≢ 0
something_left budget turn lt = omega (arith, lt)

pub lone_left : (n turn budget : ℕ) → n + turn ≡ budget → n ≡ budget - turn
lone_left n turn budget e = omega (arith, e)

module _ {B : Type 0} (ghosts : Ghosts B) (b e : B) (bytes left : List ℕ) (ticks steps : ℕ) (whole : Ran) (reply : Reply) where
  pub ran_writes : (x : Result End Stop) → RanDone ghosts b e bytes left ticks steps whole (reply_or_stop x reply) → InOrder (ChainWrote ghosts) b whole.writes (answer_of x) e
  ran_writes (Ok o) f = f.writes
  ran_writes (Err s) h = h.writes

  pub ran_few : (x : Result End Stop) → RanDone ghosts b e bytes left ticks steps whole (reply_or_stop x reply) → OnOk x (AllByRecursion (λ (w : Write). w.words ≤ 64) whole.writes)
  ran_few (Ok o) f = all_few ghosts whole.writes b e f.writes
  ran_few (Err s) h = tt

  pub ran_outcome : (x : Result End Stop) → RanDone ghosts b e bytes left ticks steps whole (reply_or_stop x reply) → IfOk x (λ o. outcome_value (outcome_by o reply) ≡ whole.outcome)
  ran_outcome (Ok o) f = f.outcome
  ran_outcome (Err s) h = tt

  pub ran_session : (x : Result End Stop) → RanDone ghosts b e bytes left ticks steps whole (reply_or_stop x reply) → OnOk x (left ≡ whole.session)
  ran_session (Ok o) f = f.session
  ran_session (Err s) h = tt

  pub ran_ticks : (x : Result End Stop) → RanDone ghosts b e bytes left ticks steps whole (reply_or_stop x reply) → OnOk x (steps ≡ ticks + whole.count)
  ran_ticks (Ok o) f = f.count
  ran_ticks (Err s) h = tt

  pub ran_most : (x : Result End Stop) → RanDone ghosts b e bytes left ticks steps whole (reply_or_stop x reply) → OnErr x (steps ≤ ticks + whole.count)
  ran_most (Ok o) f = tt
  ran_most (Err s) h = h.count

  pub ran_going : (x : Result End Stop) → RanDone ghosts b e bytes left ticks steps whole (reply_or_stop x reply) → OnOk x ((ghosts.state e).stopped ≡ false)
  ran_going (Ok o) f = f.going
  ran_going (Err s) h = tt

  pub ran_unchanged : (x : Result End Stop) → RanDone ghosts b e bytes left ticks steps whole (reply_or_stop x reply) → OnErr x (left ≡ bytes)
  ran_unchanged (Ok o) f = tt
  ran_unchanged (Err s) h = h.session
