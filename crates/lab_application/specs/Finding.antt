-- What the tries of a search come to: nodes that are found, and what ends the search.
use Rattle.std.specs.Prelude.{◌≡◌, ℕ, ◌<◌, ◌≤◌, true, List, length, slice_get, Option, Some, None}
use Rattle.std.specs.List.{AllByRecursion}
use Rattle.law_histories.specs.model_play.specs.Family.{is_running}
use Rattle.law_histories.specs.law_explore.specs.Rules as rule
use Rattle.law_histories.specs.law_explore.specs.States as model
use Rattle.law_histories.specs.law_explore.specs.Search.{Node}
use Rattle.law_histories.specs.law_explore.specs.States.{play_of}
use Rattle.law_histories.specs.law_explore.specs.Tries.{Try, writes_of}
use Rattle.lab_key.specs.declared.kept.Rosters.{Rosters}
use Rattle.lab_key.specs.declared.state.CardState.{CardState}
use Rattle.lab_rules.specs.declared.rules.Rules.{Rules}
use Rattle.lab_search.specs.declared.journey.Manner.{Manner}
use Rattle.lab_search.specs.declared.journey.Step.{Step}
use Rattle.lab_search.specs.declared.making.Candidate.{Candidate}
use Rattle.lab_search.specs.declared.rounds.Search.{Search}
use Rattle.lab_search.specs.declared.trying.Laboratory.{Laboratory}
use Rattle.lab_search.specs.Kept.{names_in, Kept, KeepsKept}
use Rattle.lab_search.specs.Rounds.{Depth, Extends, Holds, IsFrom, IsTry, TriesMove}
use Rattle.lab_search.specs.Trying.{IsMade, IsMissed}
use Rattle.lab_application.specs.declared.attempts.Halt.{Halt}
use Rattle.lab_application.specs.declared.attempts.Halt.TheVariants as halt
use Rattle.lab_application.specs.declared.attempts.Reached.{Reached}
use Rattle.lab_application.specs.Shadows.{AreShadows}

-- ---- searches

-- a search keeps what another one kept, and has found the same states
pub record IsSameSearch (s u : Search) : Type 0 where
  pub keeps : KeepsKept s.laboratory s.rosters u.laboratory u.rosters
  pub room : u.limit ≡ s.limit
  pub states : u.states.keys ≡ s.states.keys
  pub steps : u.last_steps.items ≡ s.last_steps.items

-- some state of the definition is kept as this one
abbrev pub IsKept : Laboratory → Rosters → CardState → Type 0
IsKept lab r s = (names : List (List ℕ)) × (c : model.CardState) × Kept lab r names s c

-- a state that is kept, with these names
abbrev pub IsKeptWith : Search → List (List ℕ) → CardState → Type 0
IsKeptWith s names x = (c : model.CardState) × Kept s.laboratory s.rosters names x c

-- what is reached is kept
abbrev pub AreKeptWith : Search → List (List ℕ) → List Reached → Type 0
AreKeptWith s names rs = AllByRecursion (λ r. IsKeptWith s names r.state) rs

-- a move was made in a manner from a node, and what it reached is kept; or its cut hit no write
abbrev pub IsReachedFrom : Depth → Search → Node → rule.Move → Manner → Option Reached → Type 0
IsReachedFrom d s n m w None = IsMissed n.state m w
IsReachedFrom d s n m w (Some r) = IsMade n.state m w × IsKeptWith s (names_in d.rules) r.state

-- a state is reached, of which this holds
abbrev pub IfReached : (CardState → Type 0) → Option Reached → Type 0
IfReached P None = ⊥
IfReached P (Some r) = P r.state

-- ---- what tries came to

-- a search holds nodes, and more after them
pub record HoldsMore (d : Depth) (ns : List Node) (s : Search) : Type 0 where
  pub all : List Node
  pub grew : Extends ns all
  pub holds : Holds d s all

-- a rule is broken by a step from a node that a search holds
pub record BreaksAt (d : Depth) (ns : List Node) (r : Step) (s : Search) : Type 0 where
  pub all : List Node
  pub grew : Extends ns all
  pub holds : Holds d s all
  pub before : Node
  pub found : slice_get all r.before ≡ Some before
  pub last : Try
  pub is : IsTry d.rules.moves r last

-- tries came to this: a search that held some nodes goes on, or ends
abbrev pub ComesTo : Depth → List Node → Option Halt → Search → Type 0
ComesTo d ns None s = HoldsMore d ns s
ComesTo d ns (Some halt.Full) s = HoldsMore d ns s
ComesTo d ns (Some (halt.Broken b r)) s = BreaksAt d ns r s

-- ---- what can be tried

-- a move can be cut at the device write after the first `made` ones, which it makes
abbrev pub CanCutAt : Search → Candidate → ℕ → ℕ → ℕ → Type 0
CanCutAt s c before chosen made =
    (d : Depth) × (ns : List Node) × (n : Node) × (m : rule.Move) × TriesMove d s ns n m c before chosen × (is_running n.state.live ≡ true) × (made < writes_of (play_of n.state) m)

-- a cut of a move from a node, at the device write after the first `made` ones, reached this, which can be taken
abbrev pub CanTakeCut : Search → Candidate → ℕ → ℕ → ℕ → CardState → Type 0
CanTakeCut s c before chosen made x =
    (d : Depth) × (ns : List Node) × (n : Node) × (m : rule.Move) × TriesMove d s ns n m c before chosen × (is_running n.state.live ≡ true) × IsKeptWith s (names_in d.rules) x × (made < writes_of (play_of n.state) m)

-- all moves of a deck can be tried from a node
abbrev pub CanTryAll : Search → Rules → ℕ → Type 0
CanTryAll s rules before = (d : Depth) × (ns : List Node) × (n : Node) × IsFrom d s ns n before × AreShadows rules d.rules

-- and from each of the nodes up to the last
abbrev pub CanTryFrom : Search → Rules → ℕ → ℕ → Type 0
CanTryFrom s rules from to = (d : Depth) × (ns : List Node) × Holds d s ns × (from ≤ to) × (to ≡ length ns) × AreShadows rules d.rules
