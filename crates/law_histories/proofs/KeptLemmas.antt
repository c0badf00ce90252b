-- The laws of explorations that bring only the application of their rules.
use Rattle.std.proofs.Common.{arith, ◌≡◌, ◌≢◌, ℕ, zero, suc, Bool, true, false, not, List, [], ◌∷◌, Result, Ok, Err, refl, sym, subst}
use Rattle.std.specs.Prelude.{map}
use Rattle.std.specs.List.{AllByRecursion}
use Rattle.std.proofs.lemmas.Bool.{and_parts}
use Rattle.law_histories.specs.model_device.proofs.ImageLemmas.{all_append}
use Rattle.law_histories.specs.law_family.proofs.DeckBytes.{read_lines_law}
use Rattle.law_histories.specs.law_promise.specs.Computed.{all_bring_only}
use Rattle.law_histories.specs.law_explore.specs.Rules.{Move}
use Rattle.law_histories.specs.law_explore.specs.States.{CardState, play_of, warm_state, play_of_deck, first_play}
use Rattle.law_histories.specs.law_explore.specs.Tries.{Manner, Try, manners, writes_of, tries_with, tries_of, step_of}
use Rattle.law_histories.specs.law_explore.specs.Search.{Broken}
use Rattle.law_histories.specs.model_rules.specs.Rules.{Target}
use Rattle.law_histories.specs.model_rules.specs.Keeping.{Standing}
use Rattle.law_histories.specs.law_rules.specs.Law.{AreKept}
use Rattle.law_histories.specs.Histories.{AppExploration, deck_steps, first_standing_of}
use Rattle.law_histories.specs.Searches.{Node, Round, Halt, round_of_states, first_round, search_by, app_search}
use Rattle.law_histories.specs.Kept.{leaves_none, deck_brings, try_brings, tries_bring, nodes_bring, after_brings, depths_bring, search_brings, exploration_brings, may_create, none_creates, brings_only_target, ExplorationLaw, OnlyTargetLaw}
use Rattle.law_histories.proofs.CardMoves.{HaveLines, IsReadFrom}
use Rattle.law_histories.proofs.Moves.{IsSent, sent_from}
use Rattle.law_histories.proofs.Stops.{deck_counts}
use Rattle.law_histories.proofs.Tries.{none_brings}
use Rattle.law_histories.proofs.Starts.{FirstReaches, first_reaches, creates_from}
use Rattle.law_histories.proofs.Searching.{IsMove, TryBrings, TriesBring, AfterBrings, DepthsBring, from_one}

-- ---- tries, by their test

tries_from : (g : Target) (c : CardState) (ts : List Try) → tries_bring g c ts ≡ true → AllByRecursion (TryBrings g c) ts
tries_from g c [] h = tt
tries_from g c (t ∷ ts) h =
    let p = and_parts (try_brings g c t) (tries_bring g c ts) h in
    (creates_from g.name g.app (step_of (play_of c) t.move t.manner).whole p.0, tries_from g c ts p.1)

nodes_from : (x : AppExploration) (ns : List Node) → nodes_bring x ns ≡ true → AllByRecursion (TriesBring x) ns
nodes_from x [] h = tt
nodes_from x (n ∷ ns) h =
    let p = and_parts (tries_bring x.target n.state (tries_of x.moves n.state)) (nodes_bring x ns) h in
    (tries_from x.target n.state (tries_of x.moves n.state) p.0, nodes_from x ns p.1)

after_from : (z : Result Round Halt) (test : List Node → Round → Bool) (P : List Node → Round → Type 0) → ((ns : List Node) (q : Round) → test ns q ≡ true → P ns q) → after_brings z test ≡ true → AfterBrings z P
after_from (Err h) test P f e = tt
after_from (Ok q) test P f e = f q.fresh q e

depths_from : (n limit : ℕ) (x : AppExploration) (ns : List Node) (q : Round) → depths_bring n limit x ns q ≡ true → DepthsBring n limit x ns q
unfolding depths_bring
depths_from zero limit x ns q h = tt
depths_from (suc n) limit x ns q h =
    let z : Result Round Halt = round_of_states limit x ns (record q { fresh = [] }) in
    let p = and_parts (nodes_bring x ns) (after_brings z (λ ms p. depths_bring n limit x ms p)) h in
    (nodes_from x ns p.0, after_from z (λ ms p. depths_bring n limit x ms p) (λ ms p. DepthsBring n limit x ms p) (λ ms p e. depths_from n limit x ms p e) p.1)

-- ---- moves that create nothing

not_so : (b : Bool) → not b ≡ true → b ≡ false
not_so true e = absurd (cc e)
not_so false e = refl

each_manner : (P : Try → Type 0) (m : Move) (ws : List Manner) → ((w : Manner) → P (record { move = m; manner = w })) → AllByRecursion P (map (λ w. record { move = m; manner = w }) ws)
each_manner P m [] f = tt
each_manner P m (w ∷ ws) f = (f w, each_manner P m ws f)

none_tries : (g : Target) (ms : List Move) (c : CardState) → AllByRecursion IsMove ms → none_creates ms ≡ true → AllByRecursion (TryBrings g c) (tries_of ms c)
unfolding tries_of
none_tries g [] c are h = tt
none_tries g (m ∷ ms) c are h =
    let p = and_parts (not (may_create m.line)) (none_creates ms) h in
    all_append (TryBrings g c) (tries_with c m) (tries_of ms c)
    (each_manner (TryBrings g c) m (manners c.live (writes_of (play_of c) m)) (λ w. none_brings g c m w are.0.card (not_so (may_create m.line) p.0)))
    (none_tries g ms c are.1 p.1)

after_any : (z : Result Round Halt) (P : List Node → Round → Type 0) → ((ns : List Node) (q : Round) → P ns q) → AfterBrings z P
after_any (Err h) P f = tt
after_any (Ok q) P f = f q.fresh q

module _ (limit : ℕ) (x : AppExploration) (tries : (c : CardState) → AllByRecursion (TryBrings x.target c) (tries_of x.moves c)) where
  any_nodes : (ns : List Node) → AllByRecursion (TriesBring x) ns
  any_nodes [] = tt
  any_nodes (n ∷ ns) = (tries n.state, any_nodes ns)

  any_depths : (n : ℕ) (ns : List Node) (q : Round) → DepthsBring n limit x ns q
  any_depths zero ns q = tt
  any_depths (suc n) ns q = (any_nodes ns, after_any (round_of_states limit x ns (record q { fresh = [] })) (λ ms p. DepthsBring n limit x ms p) (λ ms p. any_depths n ms p))

-- ---- the search

all_moves : (ms : List Move) → HaveLines IsSent ms → AllByRecursion IsMove ms
all_moves [] are = tt
all_moves (m ∷ ms) are = (record { card = are.0.card; bytes = are.0.bytes }, all_moves ms are.1)

-- the node with which a search begins
abbrev first_node : AppExploration → Standing → Node
first_node x s = record { state = warm_state (first_play x.lines) s.allowances; standing = s; path = [] }

unbroken : (limit n : ℕ) (x : AppExploration) → AllByRecursion IsMove x.moves → (first : FirstReaches x) → DepthsBring n limit x (first_node x first.standing ∷ []) (first_round x (first_node x first.standing).state)
    → (name : List ℕ) (path : List Try) → (app_search limit n x).ending ≢ Broken name path
unfolding app_search
unbroken limit n x moves first brings =
    let node : Node = first_node x first.standing in
    subst (λ (z : Result Standing (List ℕ)). (name : List ℕ) (path : List Try) → (search_by limit n x z).ending ≢ Broken name path) (sym first.is)
    (from_one limit x moves n node (first_round x node.state) first.reached brings)

-- ---- the deck

record DeckBrings (x : AppExploration) : Type 0 where
  steps : all_bring_only x.target.name x.target.app (deck_steps x.lines) ≡ true
  found : leaves_none x.target.name (play_of_deck x.lines) ≡ true

deck_from : (x : AppExploration) → deck_brings x ≡ true → DeckBrings x
unfolding deck_brings
deck_from x h =
    let p = and_parts (all_bring_only x.target.name x.target.app (deck_steps x.lines)) (leaves_none x.target.name (play_of_deck x.lines)) h in
    record { steps = p.0; found = p.1 }

begins : (text : List ℕ) (x : AppExploration) → IsReadFrom IsSent text x → AreKept x.rules → deck_brings x ≡ true → FirstReaches x
begins text x is kept h = grind (arith, deck_from, first_reaches, read_lines_law, deck_counts)

-- ---- the laws

-- rules that are kept in every play break in no exploration that brings only their application
pub exploration_law : ExplorationLaw
unfolding exploration_brings
exploration_law limit n text x read kept brings =
    let is : IsReadFrom IsSent text x = sent_from text x read in
    let p = and_parts (deck_brings x) (search_brings limit n x (first_standing_of x)) brings in
    let first : FirstReaches x = begins text x is kept p.0 in
    let node : Node = first_node x first.standing in
    let test : search_brings limit n x (Ok first.standing) ≡ true = subst (λ (z : Result Standing (List ℕ)). search_brings limit n x z ≡ true) first.is p.1 in
    unbroken limit n x (all_moves x.moves is.moves) first (depths_from n limit x (node ∷ []) (first_round x node.state) test)

-- if no move creates an application and the deck brings only that of the rules, so does every depth
pub only_target_law : OnlyTargetLaw
unfolding brings_only_target
only_target_law limit n text x read kept only =
    let is : IsReadFrom IsSent text x = sent_from text x read in
    let p = and_parts (deck_brings x) (none_creates x.moves) only in
    let moves : AllByRecursion IsMove x.moves = all_moves x.moves is.moves in
    let first : FirstReaches x = begins text x is kept p.0 in
    let node : Node = first_node x first.standing in
    unbroken limit n x moves first (any_depths limit x (λ c. none_tries x.target x.moves c moves p.1) n (node ∷ []) (first_round x node.state))
