-- A command by the turns of its run: its items, the write at which it stops, and what is recorded of its turns.
use Rattle.std.proofs.Common.{◌≡◌, ℕ, zero, suc, ◌+◌, ◌-◌, ◌≤◌, true, List, [], ◌∷◌, ◌++◌, length, take, Option, Some, None, Result, Ok, Err, refl, arith, sym, ap, subst, ◌∙◌}
use Rattle.std.specs.Prelude.{option_map, IfOk, OnOk}
use Rattle.std.proofs.lemmas.List.{append-nil, map-append}
use Rattle.model_play.specs.model_device.specs.declared.device.Stop.{Stop}
use Rattle.model_play.specs.model_machine.specs.declared.machine.Abend.TheVariants.{A07}
use Rattle.model_play.specs.model_device.specs.Orders.{Answer, answer_of}
use Rattle.model_play.specs.model_device.specs.Device.{DeviceState, Wrote, Makes}
use Rattle.model_play.specs.model_device.specs.Card.{Card}
use Rattle.model_play.specs.model_card.specs.Items.{Item, Atomic, Fixed, moves, card_done, write_items}
use Rattle.model_play.specs.model_machine.specs.Chain.{Chain, Turn, Write, Acted, Ran, Follows, Continues, Ends, Abended, Outcome as ModelOutcome, turn_without_budget, turn_of_chain, turn_of, end_of, chain_session, ends_with, goes_on, run_after_turn, run_of_chain}
use Rattle.model_play.specs.TraceText.{before_stop}
use Rattle.mc_machine.specs.declared.outcome.Outcome.{Outcome}
use Rattle.mc_machine.specs.declared.outcome.Turn.{Turn as CodeTurn}
use Rattle.mc_machine.specs.Turns.{outcome_value, turn_value}
use Rattle.mc_card.specs.declared.card.Card.{Card as CardOf}
use Rattle.mc_card.specs.Parts.{device_in, card_in, session_state_in, with_session, IsReadyCard, RunsChain}
use Rattle.mc_card.specs.Ends.{TurnGoesOn, ChainTurned}
use Rattle.mc_card.proofs.MadeLemmas.{card_found, MadeBy, by_made, made_before, made_on}
use Rattle.mc_script.specs.Runs.{ReportsTurns}
use Rattle.mc_script.specs.Watching.{Records, seen_of_run, seen_on}
use Rattle.mc_script.proofs.StopLemmas.{stopped_in, at_number, number_done}
use Rattle.mc_script.proofs.TurnLemmas.{turn_moves, is_reported, acted_counts, before_first, before_later}

-- ---- a run by its first turn

ran_ends : (n : ℕ) (ch : Chain) (o : ModelOutcome) → (turn_of n ch).follows ≡ Ends o → run_of_chain n ch ≡ ends_with (turn_of n ch) (chain_session ch) o
unfolding run_of_chain
ran_ends zero ch o e = let same : Abended A07 ≡ o = cc e in ap (λ (o : ModelOutcome). ends_with (turn_without_budget ch) (chain_session ch) o) same
ran_ends (suc n) ch o e = ap (λ (f : Follows). run_after_turn (turn_of_chain ch) (chain_session ch) f (λ c. run_of_chain n c)) e

ran_goes : (n : ℕ) (ch next : Chain) → (turn_of_chain ch).follows ≡ Continues next → run_of_chain (suc n) ch ≡ goes_on (turn_of_chain ch) (run_of_chain n next)
unfolding run_of_chain
ran_goes n ch next e = ap (λ (f : Follows). run_after_turn (turn_of_chain ch) (chain_session ch) f (λ c. run_of_chain n c)) e

-- a run begins with the writes and the turn of its first turn
record RunBegins (n : ℕ) (ch : Chain) : Type 0 where
  writes : List Write
  turns : List Turn
  all_writes : (run_of_chain n ch).writes ≡ (turn_of n ch).writes ++ writes
  all_turns : (run_of_chain n ch).turns ≡ (turn_of n ch).turn ∷ turns

begins_ends : (n : ℕ) (ch : Chain) (o : ModelOutcome) → (turn_of n ch).follows ≡ Ends o → RunBegins n ch
begins_ends n ch o e =
    let is = ran_ends n ch o e in
    record {
      writes = [];
      turns = [];
      all_writes = ap (λ (r : Ran). r.writes) is ∙ sym (append-nil (turn_of n ch).writes);
      all_turns = ap (λ (r : Ran). r.turns) is;
    }

begins_by : (n : ℕ) (ch : Chain) (f : Follows) → (turn_of_chain ch).follows ≡ f → RunBegins (suc n) ch
begins_by n ch (Ends o) e = begins_ends (suc n) ch o e
begins_by n ch (Continues next) e =
    let is = ran_goes n ch next e in
    record {
      writes = (run_of_chain n next).writes;
      turns = (run_of_chain n next).turns;
      all_writes = ap (λ (r : Ran). r.writes) is;
      all_turns = ap (λ (r : Ran). r.turns) is;
    }

begins : (n : ℕ) (ch : Chain) → RunBegins n ch
begins zero ch = begins_ends zero ch (Abended A07) refl
begins (suc n) ch = begins_by n ch (turn_of_chain ch).follows refl

-- ---- what is seen of a run

module _ {X : Type 0} (seen : ℕ → Chain → X) where
  first_on : (x : X) (f : Follows) (rest : Chain → List X) → take 1 (seen_on seen x f rest) ≡ x ∷ []
  first_on x (Ends o) rest = refl
  first_on x (Continues ch) rest = refl

  -- what is seen of its first turn
  seen_first : (n : ℕ) (ch : Chain) → take 1 (seen_of_run seen n ch) ≡ seen n ch ∷ []
  unfolding seen_of_run
  seen_first zero ch = refl
  seen_first (suc n) ch = first_on (seen (suc n) ch) (turn_of_chain ch).follows (λ c. seen_of_run seen n c)

  -- what is seen of a run whose first turn goes on
  seen_goes : (n : ℕ) (ch next : Chain) → (turn_of_chain ch).follows ≡ Continues next → seen_of_run seen (suc n) ch ≡ seen (suc n) ch ∷ seen_of_run seen n next
  unfolding seen_of_run
  seen_goes n ch next e = ap (λ (f : Follows). seen_on seen (seen (suc n) ch) f (λ c. seen_of_run seen n c)) e

-- the items of writes after writes
items_append : (ws vs : List Write) → write_items (ws ++ vs) ≡ write_items ws ++ write_items vs
items_append ws vs = map-append (λ (w : Write). Atomic w.words (Fixed w.name w.pieces)) ws vs

-- the successor of a turn, by the turn's end
pub end_ends : (f : Follows) (o : ModelOutcome) → end_of f ≡ Some o → f ≡ Ends o
end_ends (Continues ch) o e = absurd (cc e)
end_ends (Ends p) o e = let same : p ≡ o = cc e in ap (λ (o : ModelOutcome). Ends o) same

end_goes : (f : Follows) → end_of f ≡ None → (ch : Chain) × (f ≡ Continues ch)
end_goes (Continues ch) e = (ch, refl)
end_goes (Ends p) e = absurd (cc e)

module _ {N : Type 0} (state : N → DeviceState) (wrote : N → ℕ → List ℕ → Answer → N → Type 0)
    (obeys : (d : N) (at : ℕ) (w : List ℕ) (a : Answer) (e : N) → (state d).on ≡ true → wrote d at w a e → Wrote (state d) at w a (state e)) where
  -- ---- turns

  -- the end of a turn of the code, as an end of the definitions
  end_reported : (t : Acted) (turn : CodeTurn) → t.turn ≡ turn_value turn t.turn.wrote → t.turn.end ≡ end_of t.follows → end_of t.follows ≡ option_map outcome_value turn.end
  end_reported t turn is end = sym end ∙ ap (λ (u : Turn). u.end) is

  -- a turn that does not end its chain: the next chain runs with one instruction less, and the session state is
  -- unchanged
  pub record Goes (c : CardOf N) (ch : Chain) (n : ℕ) (d : CardOf N) : Type 0 where
    pub left : ℕ
    pub is : n ≡ suc left
    pub next : Chain
    pub follows : (turn_of_chain ch).follows ≡ Continues next
    pub runs : RunsChain state d next left
    pub session_state : session_state_in state d ≡ session_state_in state c

  pub run_goes : (c d : CardOf N) (ch : Chain) (n : ℕ) (turn : CodeTurn) → ChainTurned state wrote c ch n (turn_of n ch) (Ok turn) d → turn.end ≡ None → Goes c ch n d
  run_goes c d ch zero turn turned end =
      absurd (cc (end_reported (turn_of zero ch) turn turned.turn (is_reported zero ch).end ∙ ap (λ (e : Option Outcome). option_map outcome_value e) end))
  run_goes c d ch (suc n) turn turned end =
      let t = turn_of_chain ch in
      let next = end_goes t.follows (end_reported t turn turned.turn (is_reported (suc n) ch).end ∙ ap (λ (e : Option Outcome). option_map outcome_value e) end) in
      let on : TurnGoesOn state wrote c ch (suc n - t.count) (Continues next.0) d = subst (λ (f : Follows). TurnGoesOn state wrote c ch (suc n - t.count) f d) next.1 turned.follows in
      let left : suc n - t.count ≡ n = let one = acted_counts ch next.0 next.1 in omega (arith, one) in
      record { left = n; is = refl; next = next.0; follows = next.1; runs = subst (λ (k : ℕ). RunsChain state d next.0 k) left on.0; session_state = on.1 }

  session_state_on : (result : Result Outcome Stop) (c m d : CardOf N) (session : List ℕ) → session_state_in state m ≡ session_state_in state c → OnOk result (session_state_in state d ≡ with_session session (session_state_in state m)) → OnOk result (session_state_in state d ≡ with_session session (session_state_in state c))
  session_state_on (Ok o) c m d session same h = h ∙ ap (λ session_state. with_session session session_state) same
  session_state_on (Err s) c m d session same h = tt

  -- ---- runs

  module _ {R X : Type 0} (seen : ℕ → Chain → X) (watched : R → List X → R → Type 0)
      (onward : (q r s : R) (ts us : List X) → watched q ts r → watched r us s → watched q (ts ++ us) s) where
    -- a run on a card, and what was recorded of its turns
    pub record RunOf (run : Ran) (all : List X) (c : CardOf N) (result : Result Outcome Stop) (d : CardOf N) (q r : R) : Type 0 where
      pub writes : List (ℕ × List ℕ)
      pub made : MadeBy state wrote obeys (card_in state c) (write_items run.writes) (device_in c) (answer_of result) (device_in d) writes
      pub outcome : IfOk result (λ o. outcome_value o ≡ run.outcome)
      pub session_state : OnOk result (session_state_in state d ≡ with_session run.session (session_state_in state c))
      pub ready : OnOk result (IsReadyCard state d)
      pub reports : ReportsTurns state wrote (Records seen watched all) c writes run.turns result d q r

    -- a turn that ends its chain
    pub run_ends : (c d : CardOf N) (ch : Chain) (n : ℕ) (turn : CodeTurn) (o : Outcome) (q r : R) → ChainTurned state wrote c ch n (turn_of n ch) (Ok turn) d → turn.end ≡ Some o
        → watched q (seen n ch ∷ []) r → RunOf (run_of_chain n ch) (seen_of_run seen n ch) c (Ok o) d q r
    run_ends c d ch n turn o q r turned end records =
        let t = turn_of n ch in
        let follows : t.follows ≡ Ends (outcome_value o) = end_ends t.follows (outcome_value o) (end_reported t turn turned.turn (is_reported n ch).end ∙ ap (λ (e : Option Outcome). option_map outcome_value e) end) in
        let ended : TurnGoesOn state wrote c ch (n - t.count) (Ends (outcome_value o)) d = subst (λ (f : Follows). TurnGoesOn state wrote c ch (n - t.count) f d) follows turned.follows in
        subst (λ (run : Ran). RunOf run (seen_of_run seen n ch) c (Ok o) d q r) (sym (ran_ends n ch (outcome_value o) follows))
        (record {
          writes = turned.made.writes;
          made = by_made state wrote obeys (card_in state c) (write_items t.writes) (device_in c) (device_in d) (Ok tt) turned.made;
          outcome = refl;
          session_state = ended.1;
          ready = ended.0;
          reports = subst (λ (xs : List X). watched q xs r) (sym (seen_first seen n ch)) records;
        })

    -- a turn whose write stopped
    pub run_stops : (c d : CardOf N) (ch : Chain) (n : ℕ) (s : Stop) (q r : R) → ChainTurned state wrote c ch n (turn_of n ch) (Err s) d → watched q [] r → RunOf (run_of_chain n ch) (seen_of_run seen n ch) c (Err s) d q r
    run_stops c d ch n s q r turned nothing =
        let t = turn_of n ch in
        let all = begins n ch in
        let made = by_made state wrote obeys (card_in state c) (write_items t.writes) (device_in c) (device_in d) (Err s) turned.made in
        let ws = turned.made.writes in
        let at = stopped_in wrote ws (device_in c) (device_in d) s made.makes in
        let few : length ws ≤ moves (write_items t.writes) = made.number in
        let here : suc at.0 ≤ turn_moves t.turn.wrote = let reported = (is_reported n ch).moves in let low = at.1.low in omega (arith, few, reported, low) in
        let none : before_stop (run_of_chain n ch).turns (suc at.0) ≡ [] = ap (λ (ts : List Turn). before_stop ts (suc at.0)) all.all_turns ∙ before_first t.turn all.turns (suc at.0) (omega arith) here in
        record {
          writes = ws;
          made =
              subst (λ (is : List Item). MadeBy state wrote obeys (card_in state c) is (device_in c) (Err s) (device_in d) ws)
              (sym (ap write_items all.all_writes ∙ items_append t.writes all.writes))
              (made_before state wrote obeys (card_in state c) (write_items t.writes) (write_items all.writes) (device_in c) (device_in d) s ws made);
          outcome = tt;
          session_state = tt;
          ready = tt;
          reports = (suc at.0, at_number wrote ws (device_in c) (device_in d) at.0 s at.1, subst (λ (ts : List Turn). Records seen watched (seen_of_run seen n ch) q ts r) (sym none) nothing);
        }

    -- what was recorded after a turn
    reports_on : (result : Result Outcome Stop) (c m d : CardOf N) (t : Turn) (ts : List Turn) (x : X) (xs : List X) (ws vs : List (ℕ × List ℕ)) (p q r : R) → Makes wrote (device_in c) ws (Ok tt) (device_in m) → length ws ≡ turn_moves t.wrote
        → watched p (x ∷ []) q → ReportsTurns state wrote (Records seen watched xs) m vs ts result d q r → ReportsTurns state wrote (Records seen watched (x ∷ xs)) c (ws ++ vs) (t ∷ ts) result d p r
    reports_on (Ok o) c m d t ts x xs ws vs p q r makes size first rest = onward p q r (x ∷ []) (take (length ts) xs) first rest
    reports_on (Err s) c m d t ts x xs ws vs p q r makes size first rest =
        let k = rest.0 in
        let is : before_stop (t ∷ ts) (length ws + k) ≡ t ∷ before_stop ts k = before_later t ts (length ws + k) k rest.1.low (omega (arith, size)) in
        (length ws + k, number_done wrote ws vs (device_in c) (device_in m) (device_in d) k s makes rest.1, subst (λ (us : List Turn). Records seen watched (x ∷ xs) p us r) (sym is) (onward p q r (x ∷ []) (take (length (before_stop ts k)) xs) first rest.2))

    -- a turn, and the run after it
    turn_and_run : (c m d : CardOf N) (ch : Chain) (n : ℕ) (turn : CodeTurn) (result : Result Outcome Stop) (p q r : R) (run : Ran) (all : List X) → session_state_in state m ≡ session_state_in state c → (state (device_in c)).on ≡ true
        → ChainTurned state wrote c ch (suc n) (turn_of_chain ch) (Ok turn) m → watched p (seen (suc n) ch ∷ []) q → RunOf run all m result d q r → RunOf (goes_on (turn_of_chain ch) run) (seen (suc n) ch ∷ all) c result d p r
    turn_and_run c m d ch n turn result p q r run all session_state on turned records rest =
        let t = turn_of_chain ch in
        let ws = turned.made.writes in
        let first = by_made state wrote obeys (card_in state c) (write_items t.writes) (device_in c) (device_in m) (Ok tt) turned.made in
        let now : card_done (card_in state c) (write_items t.writes) ≡ card_in state m = card_found (card_done (card_in state c) (write_items t.writes)) 0 (state (device_in m)).words first.done in
        let second = subst (λ (k : Card). MadeBy state wrote obeys k (write_items run.writes) (device_in m) (answer_of result) (device_in d) rest.writes) (sym now) rest.made in
        let size : length ws ≡ turn_moves t.turn.wrote = first.number ∙ (is_reported (suc n) ch).moves in
        record {
          writes = ws ++ rest.writes;
          made =
              subst (λ (is : List Item). MadeBy state wrote obeys (card_in state c) is (device_in c) (answer_of result) (device_in d) (ws ++ rest.writes)) (sym (items_append t.writes run.writes))
              (made_on state wrote obeys (card_in state c) (write_items t.writes) (write_items run.writes) (device_in c) (device_in m) (device_in d) (answer_of result) ws rest.writes on first second);
          outcome = rest.outcome;
          session_state = session_state_on result c m d run.session session_state rest.session_state;
          ready = rest.ready;
          reports = reports_on result c m d t.turn run.turns (seen (suc n) ch) all ws rest.writes p q r first.makes size records rest.reports;
        }

    pub run_on : (c m d : CardOf N) (ch : Chain) (n : ℕ) (turn : CodeTurn) (result : Result Outcome Stop) (p q r : R) (goes : Goes c ch n m) → (state (device_in c)).on ≡ true → ChainTurned state wrote c ch n (turn_of n ch) (Ok turn) m
        → watched p (seen n ch ∷ []) q → RunOf (run_of_chain goes.left goes.next) (seen_of_run seen goes.left goes.next) m result d q r → RunOf (run_of_chain n ch) (seen_of_run seen n ch) c result d p r
    run_on c m d ch n turn result p q r goes on turned records rest =
        let i = goes.left in
        subst (λ (k : ℕ). RunOf (run_of_chain k ch) (seen_of_run seen k ch) c result d p r) (sym goes.is)
        (subst (λ (run : Ran). RunOf run (seen_of_run seen (suc i) ch) c result d p r) (sym (ran_goes i ch goes.next goes.follows))
        (subst (λ (xs : List X). RunOf (goes_on (turn_of_chain ch) (run_of_chain i goes.next)) xs c result d p r) (sym (seen_goes seen i ch goes.next goes.follows))
        (turn_and_run c m d ch i turn result p q r (run_of_chain i goes.next) (seen_of_run seen i goes.next) goes.session_state on (subst (λ (k : ℕ). ChainTurned state wrote c ch k (turn_of k ch) (Ok turn) m) goes.is turned) (subst (λ (k : ℕ). watched p (seen k ch ∷ []) q) goes.is records) rest)))
