-- A search whose states are reached by plays in which the rules are kept breaks none of them.
use Rattle.std.proofs.Common.{◌≡◌, ◌≢◌, ℕ, zero, suc, ◌+◌, Bool, true, false, List, [], ◌∷◌, Result, Ok, Err, refl, sym, ap, subst, arith}
use Rattle.std.specs.Prelude.{⊤, ◌≤◌, nat_lt, map}
use Rattle.std.specs.List.{AllByRecursion}
use Rattle.law_histories.specs.model_device.proofs.ImageLemmas.{all_append}
use Rattle.law_histories.specs.model_text.specs.Text.{ok_as}
use Rattle.law_histories.specs.model_play.specs.Play.{Live, Running, Unpowered, Muted, is_card_line}
use Rattle.law_histories.specs.model_play.specs.Family.{is_running}
use Rattle.law_histories.specs.model_play.specs.ReadyAgain.{IsLine}
use Rattle.law_histories.specs.law_explore.specs.Rules.{Move}
use Rattle.law_histories.specs.law_explore.specs.States.{CardState, play_of, state_in, is_known}
use Rattle.law_histories.specs.law_explore.specs.Tries.{CutAt, Try, cuts_from, manners, writes_of, tries_with, tries_of, step_of, recovery}
use Rattle.law_histories.specs.law_explore.specs.Search.{Broken}
use Rattle.law_histories.specs.law_explore.specs.Safety.{CanMake}
use Rattle.law_histories.specs.law_explore.proofs.Breaks.{EitherWay, either_way}
use Rattle.law_histories.specs.model_rules.specs.Rules.{Target}
use Rattle.law_histories.specs.model_rules.specs.Keeping.{Standing}
use Rattle.law_histories.specs.Histories.{AppExploration}
use Rattle.law_histories.specs.Searches.{Node, Round, Search, Halt, RuleBroken, Full, outcome, with_try, with_new, with_reached, after_outcome, round_of_tries, round_of_states, halted, after_depth, after_round, search_on}
use Rattle.law_histories.proofs.Tries.{IsReached, TryReaches, MoveBrings, try_reaches}

-- ---- moves

-- a line to the card, of bytes
pub record IsMove (m : Move) : Type 0 where
  pub card : is_card_line m.line ≡ true
  pub bytes : IsLine m.line

-- a try of one of some moves that can be made in a state
pub record CanBe (c : CardState) (t : Try) : Type 0 where
  pub move : IsMove t.move
  pub manner : CanMake (play_of c) t.move t.manner

cuts_can : (c : CardState) (m : Move) (n k : ℕ) → IsMove m → is_running c.live ≡ true → 1 ≤ k → k + n ≤ writes_of (play_of c) m + 1 → AllByRecursion (CanBe c) (map (λ w. record { move = m; manner = w }) (cuts_from k n))
cuts_can c m zero k is on low high = tt
cuts_can c m (suc n) k is on low high =
    let within : k ≤ writes_of (play_of c) m = omega (arith, high) in
    let one : (x : List ℕ) → CanBe c (record { move = m; manner = CutAt k x }) = λ x. record { move = is; manner = (on, low, within) } in
    (one _, (one _, (one _, cuts_can c m n (k + 1) is on (omega (arith, low)) (omega (arith, high)))))

manners_can : (c : CardState) (m : Move) (v : Live) → c.live ≡ v → IsMove m → AllByRecursion (CanBe c) (map (λ w. record { move = m; manner = w }) (manners v (writes_of (play_of c) m)))
manners_can c m (Running session_state) e is =
    (record { move = is; manner = tt }, cuts_can c m (writes_of (play_of c) m) 1 is (ap (λ (v : Live). is_running v) e) (omega arith) (omega arith))
manners_can c m Unpowered e is = (record { move = is; manner = tt }, tt)
manners_can c m Muted e is = (record { move = is; manner = tt }, tt)

-- each try of some moves is one that can be made in the state
pub tries_can : (ms : List Move) (c : CardState) → AllByRecursion IsMove ms → AllByRecursion (CanBe c) (tries_of ms c)
unfolding tries_of
tries_can [] c are = tt
tries_can (m ∷ ms) c are = all_append (CanBe c) (tries_with c m) (tries_of ms c) (manners_can c m c.live refl are.0) (tries_can ms c are.1)

-- ---- what tries bring

-- a try brings only the application
abbrev pub TryBrings : Target → CardState → Try → Type 0
TryBrings g c t = MoveBrings g c t.move t.manner

-- each try of a state does
abbrev pub TriesBring : AppExploration → Node → Type 0
TriesBring x n = AllByRecursion (TryBrings x.target n.state) (tries_of x.moves n.state)

-- after a depth
abbrev pub AfterBrings : Result Round Halt → (List Node → Round → Type 0) → Type 0
AfterBrings (Err h) again = ⊤
AfterBrings (Ok q) again = again q.fresh q

-- each try of n depths does, from the states of one
abbrev pub DepthsBring : ℕ → ℕ → AppExploration → List Node → Round → Type 0
DepthsBring zero limit x ns q = ⊤
DepthsBring (suc n) limit x ns q = AllByRecursion (TriesBring x) ns × AfterBrings (round_of_states limit x ns (record q { fresh = [] })) (λ ms p. DepthsBring n limit x ms p)

-- ---- rounds

module _ (limit : ℕ) (x : AppExploration) (moves : AllByRecursion IsMove x.moves) where
  -- a node whose state is reached by such a play, with what stands there
  abbrev pub NodeIsReached : Node → Type 0
  NodeIsReached n = IsReached x.rules x.target n.state n.standing

  abbrev NodesAreReached : Round → Type 0
  NodesAreReached q = AllByRecursion NodeIsReached q.fresh

  -- nothing is broken
  abbrev BreaksNothing : Halt → Type 0
  BreaksNothing (RuleBroken name path found) = ⊥
  BreaksNothing (Full q) = ⊤

  abbrev Kept : Result Round Halt → Type 0
  Kept z = EitherWay NodesAreReached BreaksNothing z

  new_kept : (b : Bool) (n : Node) (q : Round) → NodeIsReached n → NodesAreReached q → Kept (with_new b n q)
  new_kept true n q node round = all_append NodeIsReached q.fresh (n ∷ []) round (node, tt)
  new_kept false n q node round = tt

  reached_kept : (b : Bool) (n : Node) (q : Round) → NodeIsReached n → NodesAreReached q → Kept (with_reached b limit n q)
  reached_kept true n q node round = round
  reached_kept false n q node round = new_kept (nat_lt q.count limit) n q node round

  outcome_kept : (n : Node) (t : Try) (q : Round) → NodeIsReached n → CanBe n.state t → TryBrings x.target n.state t → NodesAreReached q → Kept (after_outcome (outcome x.rules x.target n t) limit (t ∷ n.path) q)
  unfolding outcome
  outcome_kept n t q node can brings round =
      let y : TryReaches x.rules x.target n.state t.move t.manner n.standing = try_reaches x.rules x.target n.state n.standing t.move t.manner node can.move.card can.move.bytes brings can.manner in
      let next : Standing → CardState × Standing = λ u. (state_in (recovery t.move.number t.manner (step_of (play_of n.state) t.move t.manner).after) u.allowances, u) in
      let found : Node = record { state = (next y.standing).0; standing = y.standing; path = t ∷ n.path } in
      subst (λ (z : Result Standing (List ℕ)). Kept (after_outcome (ok_as next z) limit (t ∷ n.path) q)) (sym y.is) (reached_kept (is_known found.state q.known) found q y.reached round)

  tries_kept : (n : Node) (ts : List Try) (q : Round) → NodeIsReached n → AllByRecursion (CanBe n.state) ts → AllByRecursion (TryBrings x.target n.state) ts → NodesAreReached q → Kept (round_of_tries limit x.rules x.target n ts q)
  unfolding round_of_tries
  tries_kept n [] q node can brings round = round
  tries_kept n (t ∷ ts) q node can brings round =
      either_way NodesAreReached NodesAreReached BreaksNothing (after_outcome (outcome x.rules x.target n t) limit (t ∷ n.path) (with_try x.rules x.target n t q)) (λ p. round_of_tries limit x.rules x.target n ts p)
      (outcome_kept n t (with_try x.rules x.target n t q) node can.0 brings.0 round) (λ p h. tries_kept n ts p node can.1 brings.1 h)

  states_kept : (ns : List Node) (q : Round) → AllByRecursion NodeIsReached ns → AllByRecursion (TriesBring x) ns → NodesAreReached q → Kept (round_of_states limit x ns q)
  unfolding round_of_states
  states_kept [] q nodes brings round = round
  states_kept (n ∷ ns) q nodes brings round =
      either_way NodesAreReached NodesAreReached BreaksNothing (round_of_tries limit x.rules x.target n (tries_of x.moves n.state) q) (λ p. round_of_states limit x ns p)
      (tries_kept n (tries_of x.moves n.state) q nodes.0 (tries_can x.moves n.state moves) brings.0 round) (λ p h. states_kept ns p nodes.1 brings.1 h)

  -- ---- searches

  -- the search ends without a broken rule
  abbrev pub EndsUnbroken : Search → Type 0
  EndsUnbroken e = (name : List ℕ) (path : List Try) → e.ending ≢ Broken name path

  halt_unbroken : (h : Halt) (d : ℕ) → BreaksNothing h → EndsUnbroken (halted h d)
  halt_unbroken (RuleBroken m p q) d h name path e = h
  halt_unbroken (Full q) d h name path e = cc e

  depth_unbroken : (ns : List Node) (q : Round) (again : List Node → Round → Search) → AllByRecursion NodeIsReached ns → (AllByRecursion NodeIsReached ns → EndsUnbroken (again ns q)) → EndsUnbroken (after_depth ns q again)
  depth_unbroken [] q again nodes later name path e = cc e
  depth_unbroken (n ∷ ns) q again nodes later name path e = later nodes name path e

  round_unbroken : (n : ℕ) (z : Result Round Halt) (d : ℕ) (again : List Node → Round → Search) → Kept z → AfterBrings z (λ ms p. DepthsBring n limit x ms p)
      → ((ns : List Node) (q : Round) → AllByRecursion NodeIsReached ns → DepthsBring n limit x ns q → EndsUnbroken (again ns q)) → EndsUnbroken (after_round z d again)
  round_unbroken n (Err h) d again kept brings later = halt_unbroken h d kept
  round_unbroken n (Ok q) d again kept brings later = depth_unbroken q.fresh q again kept (λ nodes. later q.fresh q nodes brings)

  search_unbroken : (n d : ℕ) (ns : List Node) (q : Round) → AllByRecursion NodeIsReached ns → DepthsBring n limit x ns q → EndsUnbroken (search_on n d limit x ns q)
  unfolding search_on
  search_unbroken zero d ns q nodes brings = λ name path e. cc e
  search_unbroken (suc n) d ns q nodes brings =
      round_unbroken n (round_of_states limit x ns (record q { fresh = [] })) (d + 1) (λ ms p. search_on n (d + 1) limit x ms p) (states_kept ns (record q { fresh = [] }) nodes brings.0 tt) brings.1
      (λ ms p are more. search_unbroken n (d + 1) ms p are more)

  -- from one node
  pub from_one : (n : ℕ) (node : Node) (q : Round) → IsReached x.rules x.target node.state node.standing → DepthsBring n limit x (node ∷ []) q → EndsUnbroken (search_on n 0 limit x (node ∷ []) q)
  from_one n node q st brings = search_unbroken n 0 (node ∷ []) q (st, tt) brings
