-- When a state of an exploration that is kept is a state of the definition.
use Rattle.std.specs.Prelude.{◌≡◌, ℕ, Bool, true, false, List, length, map, replicate, slice_get, Some, Ok, Err}
use Rattle.std.specs.List.{AllByRecursion}
use Rattle.law_explore_text.specs.model_device.specs.PowerUp.{Base, OnCard, AtFault}
use Rattle.law_explore_text.specs.model_play.specs.Play as play
use Rattle.law_explore_text.specs.model_play.specs.Play.{Running, Unpowered, Muted, Step, Armed, Unarmed, ArmedCut, ArmedFail, armed_stop_in, is_card_line}
use Rattle.law_explore_text.specs.law_explore.specs.Rules as rule
use Rattle.law_explore_text.specs.law_explore.specs.model_events.specs.Matching.{fits}
use Rattle.law_explore_text.specs.law_explore.specs.States as model
use Rattle.law_explore_text.specs.law_explore.specs.States.{warm_in, play_of_deck}
use Rattle.law_explore_text.specs.law_explore.specs.Search.{first_state}
use Rattle.law_explore_text.specs.law_explore.specs.Tries.{outcome, result_text}
use Rattle.lab_rules.specs.Meanings.{AlikeLists, AreDistinct, AreRules, IsMove, IsOn}
use Rattle.lab_rules.specs.declared.reading.Exploration.{Exploration}
use Rattle.lab_key.specs.declared.kept.Rosters.{Rosters}
use Rattle.lab_key.specs.declared.state.CardState.{CardState}
use Rattle.lab_key.specs.KeptStates.{IsKeptState, card_state_eq}
use Rattle.lab_search.specs.declared.beginning.Beginning.{Beginning}
use Rattle.lab_search.specs.declared.beginning.Lead.{Lead}
use Rattle.lab_search.specs.declared.journey.Manner.{Manner}
use Rattle.lab_search.specs.declared.making.Candidate.{Candidate}
use Rattle.lab_search.specs.declared.trying.Laboratory.{Laboratory}
use Rattle.lab_search.specs.declared.trying.Tried.{Tried}
use Rattle.lab_search.specs.declared.trying.Tried.TheVariants as tried
use Rattle.lab_search.specs.Reports.{manner_value}
use Rattle.lab_search.specs.Trying.{CanCut, IsMade, IsMissed}
use Rattle.lab_rules.specs.Occasions.{amounts_of, counts_after_turns, names_of}
use Rattle.law_explore_text.specs.model_play.specs.TraceText.{shown_turns}
use Rattle.mc_script.specs.declared.live.Live.{Live}
use Rattle.mc_script.specs.Players.{device_of}
use Rattle.mc_script.specs.declared.live.Live.TheVariants as live

-- ---- laboratories

-- the words of the device of a laboratory, and those of its root
abbrev pub words_of : Laboratory → List (List ℕ)
words_of lab = (device_of lab.player.value).device.words

-- the words of the root of its device
abbrev pub root_of : Laboratory → List (List ℕ)
root_of lab = (device_of lab.player.value).root

-- ---- kept states

-- the test of equality of states
abbrev pub is_equal : CardState → CardState → Bool
is_equal s t = card_state_eq s t

-- A state that is kept with a laboratory and its rosters is a state of the definition. The names are those of the
-- allowances, in order.
abbrev pub Kept : Laboratory → Rosters → List (List ℕ) → CardState → model.CardState → Type 0
Kept lab r names s c = IsKeptState (root_of lab) lab.budget names r s c

-- states that were kept stay kept, and there is room for as many counts
pub record KeepsKept (lab : Laboratory) (r : Rosters) (lab_new : Laboratory) (r_new : Rosters) : Type 0 where
  pub kept : (names : List (List ℕ)) (s : CardState) (c : model.CardState) → Kept lab r names s c → Kept lab_new r_new names s c
  pub counts : length lab_new.counts.items ≡ length lab.counts.items

-- ---- a try

-- a move of the definition, with its `on` lines among these allowances, each with a name of its own
pub record IsCandidate (held : List (List ℕ × ℕ)) (rs : List rule.OnRule) (m : rule.Move) (c : Candidate) : Type 0 where
  pub move : IsMove c.chosen.now m
  pub card : is_card_line m.line ≡ true
  pub distinct : AreDistinct held
  pub ons : AlikeLists (IsOn held) c.ons.now rs
  pub applies : c.applies.now ≡ map (λ r. fits r.move m.text) rs

-- a try of the definition can be made from a state that is kept: of a move that is a candidate, in a manner that can be,
-- with room for the counts of its `on` lines
abbrev pub CanBeTried : Laboratory → Rosters → CardState → Candidate → Manner → Type 0
CanBeTried lab r s x w =
    (held : List (List ℕ × ℕ)) × (ons : List rule.OnRule) × (c : model.CardState) × (m : rule.Move) × Kept lab r (map (λ a. a.0) held) s c × IsCandidate held ons m x × CanCut c w × (length lab.counts.items ≡ length ons)

-- The result of a move and the counts of the executed instructions that it shows are those of a step, and amounts are
-- those of allowances.
pub record SpendsFrom (held a : List (List ℕ × ℕ)) (rs : List rule.OnRule) (m : rule.Move) (t : Step) (x : Candidate) (text counts amounts : List ℕ) : Type 0 where
  pub candidate : IsCandidate held rs m x
  pub named : names_of a ≡ names_of held
  pub result : text ≡ result_text t.result
  pub turns : counts ≡ counts_after_turns x.ons.now x.applies.now (shown_turns t.turns t.stop) (replicate (length x.ons.now) 0)
  pub left : amounts ≡ amounts_of a

-- whether a card runs, of what was saved
abbrev pub runs_now : Live → Bool
runs_now (live.Running s) = true
runs_now live.Unpowered = false
runs_now live.Muted = false

-- what a try came to is the outcome of the definition
abbrev pub TryIs : Laboratory → Rosters → List (List ℕ) → List rule.OnRule → model.CardState → rule.Move → Manner → Tried → Type 0
TryIs lab r names ons c m w tried.NotHit = IsMissed c m w
TryIs lab r names ons c m w (tried.Broken i) =
    IsMade c m w × ((name : List ℕ) × (slice_get names i ≡ Some name) × (outcome ons c (record { move = m; manner = manner_value w }) ≡ Err name))
TryIs lab r names ons c m w (tried.Reached s) =
    IsMade c m w × ((d : model.CardState) × (outcome ons c (record { move = m; manner = manner_value w }) ≡ Ok d) × Kept lab r names s d)

-- ---- the first state

-- an exploration is one of the definition: its deck has the lines, and its rules are the rules, whose moves are lines to
-- the card
pub record IsExplorationOf (e : Exploration) (x : rule.Exploration) : Type 0 where
  pub deck : e.deck ≡ x.lines
  pub rules : AreRules e.rules x.rules
  pub cards : AllByRecursion (λ m. is_card_line m.line ≡ true) x.rules.moves

-- the names of the allowances of rules
abbrev pub names_in : rule.Rules → List (List ℕ)
names_in r = names_of r.allowances

-- whether a stop is armed
abbrev pub is_armed : Armed → Bool
is_armed Unarmed = false
is_armed (ArmedCut k x) = true
is_armed (ArmedFail k) = true

-- whether a card that does not run can be powered up
abbrev pub needs_power : play.Live → Base → Bool
needs_power (Running session_state) b = false
needs_power Unpowered (OnCard c) = true
needs_power Unpowered (AtFault cause place) = false
needs_power Muted (OnCard c) = true
needs_power Muted (AtFault cause place) = false

-- what leads from the end of a deck to the first state
pub record LeadIs (lead : Lead) (x : rule.Exploration) : Type 0 where
  pub armed : lead.armed ≡ is_armed (armed_stop_in (play_of_deck x.lines))
  pub power : lead.power ≡ needs_power (warm_in (play_of_deck x.lines)).live (warm_in (play_of_deck x.lines)).base

-- an exploration begins at the first state
pub record Begins (b : Beginning) (x : rule.Exploration) : Type 0 where
  pub kept : Kept b.laboratory b.rosters (names_in x.rules) b.first (first_state x)
  pub counts : length b.laboratory.counts.items ≡ length x.rules.ons
  pub lead : LeadIs b.lead x
