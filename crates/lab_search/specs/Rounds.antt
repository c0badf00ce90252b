-- A search and what it has found, as the definition has it.
use Rattle.std.specs.Prelude.{◌≡◌, ℕ, ◌+◌, ◌≤◌, Bool, true, List, [], ◌∷◌, ◌++◌, length, drop, map, reverse, slice_get, Vec, Option, Some, None, Result, Ok, Err, ⊤}
use Rattle.std.specs.List.{AllByRecursion}
use Rattle.std.specs.declared.alloc.Global.{Global}
use Rattle.law_explore_text.specs.model_device.specs.Bytes.{zeros}
use Rattle.law_explore_text.specs.model_device.specs.Image.{Two, opening}
use Rattle.law_explore_text.specs.model_play.specs.Family.{is_running}
use Rattle.law_explore_text.specs.model_play.specs.Play.{is_card_line}
use Rattle.law_explore_text.specs.law_explore.specs.Rules as rule
use Rattle.law_explore_text.specs.law_explore.specs.Search.{Node, Round, Tally, HaltedRound, Halt as SearchHalt, Full, RuleBroken, round_of_tries}
use Rattle.law_explore_text.specs.law_explore.specs.States as model
use Rattle.law_explore_text.specs.law_explore.specs.Tries.{Try, Manner as TryManner, CutAt, ones}
use Rattle.lab_rules.specs.Meanings.{AlikeLists, AreRules}
use Rattle.lab_rules.specs.Occasions.{IsRow}
use Rattle.lab_rules.specs.declared.rules.Rules.{Rules}
use Rattle.lab_search.specs.declared.journey.Manner.{Manner}
use Rattle.lab_search.specs.declared.journey.Step.{Step}
use Rattle.lab_search.specs.declared.rounds.Attempt.{Attempt}
use Rattle.lab_search.specs.declared.rounds.Attempt.TheVariants as attempt
use Rattle.lab_search.specs.declared.rounds.Halt.{Halt}
use Rattle.lab_search.specs.declared.rounds.Halt.TheVariants as halt
use Rattle.lab_search.specs.declared.rounds.Search.{Search}
use Rattle.lab_key.specs.declared.state.CardState.{CardState}
use Rattle.lab_search.specs.declared.making.Candidate.{Candidate}
use Rattle.lab_search.specs.Kept.{names_in, IsCandidate, Kept}
use Rattle.lab_search.specs.Reports.{manner_value}
use Rattle.lab_search.specs.Tallies.{tally_value}
use Rattle.lab_search.specs.Trying.{CanCut}

-- ---- steps

-- a move that is made in a manner, as the definition has it
abbrev pub try_value : rule.Move → Manner → Try
try_value m w = record { move = m; manner = manner_value w }

-- a step is a try of the definition
pub record IsTry (moves : List rule.Move) (s : Step) (t : Try) : Type 0 where
  pub move : slice_get moves s.chosen ≡ Some t.move
  pub manner : t.manner ≡ manner_value s.manner

-- the i-th step leads to a node from one of the first i + 1 nodes
pub record IsReached (moves : List rule.Move) (ns : List Node) (i : ℕ) (s : Step) (n : Node) : Type 0 where
  pub before : Node
  pub earlier : s.before ≤ i
  pub found : slice_get ns s.before ≡ Some before
  pub last : Try
  pub is : IsTry moves s last
  pub path : n.path ≡ last ∷ before.path

-- the first node has no tries, and each other is reached by its step
pub record AreReached (moves : List rule.Move) (steps : List Step) (ns : List Node) : Type 0 where
  pub count : length ns ≡ length steps + 1
  pub first : (n : Node) → slice_get ns 0 ≡ Some n → n.path ≡ []
  pub each : (i : ℕ) (s : Step) (n : Node) → slice_get steps i ≡ Some s → slice_get ns (i + 1) ≡ Some n → IsReached moves ns i s n

-- ---- searches

-- a depth of a search: the rules, the number of states that there is room for, and the place of its first node
pub record Depth : Type 0 where
  pub rules : rule.Rules
  pub most : ℕ
  pub from : ℕ

-- a state that is kept is that of a node
abbrev pub KeepsNode : rule.Rules → Search → CardState → Node → Type 0
KeepsNode rules s t n = Kept s.laboratory s.rosters (names_in rules) t n.state

-- a search holds nodes, in the order in which they were found, and has room for the counts of the `on` lines
pub record Holds (d : Depth) (s : Search) (ns : List Node) : Type 0 where
  pub room : s.limit ≡ d.most
  pub within : d.from ≤ length ns
  pub counts : length s.laboratory.counts.items ≡ length d.rules.ons
  pub kept : AlikeLists (KeepsNode d.rules s) s.states.keys ns
  pub reached : AreReached d.rules.moves s.last_steps.items ns

-- a search makes tries from a node that it holds
pub record IsFrom (d : Depth) (s : Search) (ns : List Node) (n : Node) (before : ℕ) : Type 0 where
  pub holds : Holds d s ns
  pub found : slice_get ns before ≡ Some n

-- a search tries a move of the rules from a node that it holds
pub record TriesMove (d : Depth) (s : Search) (ns : List Node) (n : Node) (m : rule.Move) (c : Candidate) (before chosen : ℕ) : Type 0 where
  pub at : IsFrom d s ns n before
  pub candidate : IsCandidate d.rules.allowances d.rules.ons m c
  pub place : slice_get d.rules.moves chosen ≡ Some m

-- a search can try a move of the rules, from a node that it holds
abbrev pub CanTryMove : Search → Candidate → ℕ → ℕ → Type 0
CanTryMove s c before chosen = (d : Depth) × (ns : List Node) × (n : Node) × (m : rule.Move) × TriesMove d s ns n m c before chosen

-- in a manner that can be
abbrev pub CanStep : Search → Candidate → Step → Type 0
CanStep s c r = (d : Depth) × (ns : List Node) × (n : Node) × (m : rule.Move) × TriesMove d s ns n m c r.before r.chosen × CanCut n.state r.manner

-- cut at its writes
abbrev pub CanCutMove : Search → Candidate → ℕ → ℕ → Type 0
CanCutMove s c before chosen =
    (d : Depth) × (ns : List Node) × (n : Node) × (m : rule.Move) × TriesMove d s ns n m c before chosen × (is_running n.state.live ≡ true)

-- rules are those of a definition, whose moves are lines to the card, with a row of applications for each move
pub record AreCandidates (r : rule.Rules) (e : Rules) (applied : List (Vec Bool Global)) : Type 0 where
  pub rules : AreRules e r
  pub cards : AllByRecursion (λ m. is_card_line m.line ≡ true) r.moves
  pub rows : AlikeLists (IsRow r.ons) applied r.moves

-- a search can try each move of rules from a node that it holds
abbrev pub CanTryMoves : Search → Rules → List (Vec Bool Global) → ℕ → Type 0
CanTryMoves s e applied before = (d : Depth) × (ns : List Node) × (n : Node) × IsFrom d s ns n before × AreCandidates d.rules e applied

-- it can try them from each of its nodes from a place on
abbrev pub CanTryStates : Search → Rules → List (Vec Bool Global) → ℕ → ℕ → Type 0
CanTryStates s e applied from to = (d : Depth) × (ns : List Node) × Holds d s ns × (from ≤ to) × (to ≡ length ns) × AreCandidates d.rules e applied

-- the states of nodes, the last first
abbrev pub known_in : List Node → List model.CardState
known_in ns = reverse (map (λ n. n.state) ns)

-- what the tries of a search came to
abbrev pub tally_of : Search → Tally
tally_of s = tally_value s.tally

-- a round of the definition, by what the tries came to and the nodes in the order in which they were found
abbrev pub round_in : Depth → Tally → List Node → Round
round_in d a ns = record { known = known_in ns; fresh = drop d.from ns; count = length ns; tally = a }

-- tries from a node
abbrev pub tries_from : Depth → Node → List Try → Round → Result Round HaltedRound
tries_from d n ts r = round_of_tries d.most d.rules.ons n ts r

-- a move that is cut at a device write, with each of the three fills
abbrev pub cuts_at : rule.Move → ℕ → List Try
cuts_at m k =
    record { move = m; manner = CutAt k (zeros 8) } ∷ record { move = m; manner = CutAt k ones } ∷ record { move = m; manner = CutAt k (opening Two) } ∷ []

-- a move that is made in some manners
abbrev pub tries_in : rule.Move → List TryManner → List Try
tries_in m ws = map (λ w. record { move = m; manner = w }) ws

-- nodes with more after them
abbrev pub Extends : List Node → List Node → Type 0
Extends ns all = (more : List Node) × (all ≡ ns ++ more)

-- ---- what tries came to

-- a search goes on, as the definition does with this round
pub record GoesOn (d : Depth) (ns : List Node) (r : Round) (s : Search) : Type 0 where
  pub all : List Node
  pub grew : Extends ns all
  pub holds : Holds d s all
  pub round : r ≡ round_in d (tally_of s) all

-- a rule is broken by a step from a node: the allowance at a place, and the tries that lead there, the last first
pub record BreaksBy (rules : rule.Rules) (ns : List Node) (i : ℕ) (s : Step) (name : List ℕ) (path : List Try) : Type 0 where
  pub named : slice_get (names_in rules) i ≡ Some name
  pub before : Node
  pub found : slice_get ns s.before ≡ Some before
  pub last : Try
  pub is : IsTry rules.moves s last
  pub tries : path ≡ last ∷ before.path

-- what ends a search is what ends the one of the definition
abbrev pub IsHalt : rule.Rules → List Node → Halt → SearchHalt → Type 0
IsHalt rules ns (halt.Broken i s) (RuleBroken name path) = BreaksBy rules ns i s name path
IsHalt rules ns (halt.Broken i s) Full = ⊥
IsHalt rules ns halt.Full (RuleBroken name path) = ⊥
IsHalt rules ns halt.Full Full = ⊤

-- a search ends, as the definition does
pub record Ends (d : Depth) (ns : List Node) (e : HaltedRound) (h : Halt) (s : Search) : Type 0 where
  pub all : List Node
  pub grew : Extends ns all
  pub holds : Holds d s all
  pub halt : IsHalt d.rules all h e.halt
  pub count : e.count ≡ length all
  pub tally : e.tally ≡ tally_of s

-- tries came to what they come to by the definition: a search that held some nodes goes on, or ends
abbrev pub Comes : Depth → List Node → Result Round HaltedRound → Option Halt → Search → Type 0
Comes d ns (Ok r) None s = GoesOn d ns r s
Comes d ns (Ok r) (Some h) s = ⊥
Comes d ns (Err e) None s = ⊥
Comes d ns (Err e) (Some h) s = Ends d ns e h s

-- what tries came to, if they are made or missed together: they missed each write, and the search goes on with the round
-- from which they were tried; or they were made, and came to what they come to by the definition
abbrev pub Attempts : Type 0 → Type 0 → Depth → List Node → Round → Result Round HaltedRound → Attempt → Search → Type 0
Attempts missed made d ns r x attempt.NotHit s = missed × GoesOn d ns r s
Attempts missed made d ns r x attempt.GoesOn s = made × Comes d ns x None s
Attempts missed made d ns r x (attempt.Halts h) s = made × Comes d ns x (Some h) s

-- What is left to do of some tries: from the nodes that a search holds it comes to what the whole comes to.
pub record Ahead (d : Depth) (ns : List Node) (s : Search) (rest : Round → Result Round HaltedRound) (whole : Result Round HaltedRound) : Type 0 where
  pub all : List Node
  pub grew : Extends ns all
  pub holds : Holds d s all
  pub same : rest (round_in d (tally_of s) all) ≡ whole
