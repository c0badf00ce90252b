-- What an exploration writes, and what it returns.
use Rattle.std.specs.Prelude.{◌≡◌, ℕ, ◌+◌, ◌-◌, Bool, true, false, List, [], ◌∷◌, ◌++◌, drop, Option, Some, None, Result, Ok, Err}
use Rattle.law_explore_text.specs.model_play.specs.Play.{State}
use Rattle.law_explore_text.specs.model_play.specs.Family.{is_running}
use Rattle.law_explore_text.specs.law_explore.specs.Rules as rule
use Rattle.law_explore_text.specs.law_explore.specs.States.{warm_in, play_of_deck}
use Rattle.law_explore_text.specs.law_explore.specs.Search as found
use Rattle.law_explore_text.specs.law_explore.specs.Search.{Ending, All, AtDepth, TooMany, Node, Statement, first_state, idle_statement, no_tries, path_statements, power_statement, search_of, search_on}
use Rattle.law_explore_text.specs.Report.{depth_lines, ending_text, text_within}
use Rattle.mc_text.specs.Texts.{Sunk, Writes, Fails}
use Rattle.lab_search.specs.declared.beginning.Lead.{Lead}
use Rattle.lab_search.specs.declared.endings.Start.{Start}
use Rattle.lab_search.specs.declared.journey.Step.{Step}
use Rattle.lab_search.specs.declared.rounds.Search.{Search}
use Rattle.lab_search.specs.declared.endings.Explored.{Explored}
use Rattle.lab_search.specs.declared.endings.Explored.TheVariants as explored
use Rattle.mc_script.specs.declared.job.JobFault.{JobFault}
use Rattle.mc_script.specs.declared.job.JobFault.TheVariants as fault
use Rattle.lab_search.specs.Kept.{LeadIs}
use Rattle.lab_search.specs.Reports.{count_of_lines}
use Rattle.lab_search.specs.Rounds.{round_in, tally_of, Holds}

-- ---- texts

-- a front of a text was written from state a to state b, and no call of the sink failed
pub record WritesFront (a : Sunk) (text : List ℕ) (b : Sunk) : Type 0 where
  pub front : List ℕ
  pub rest : List ℕ
  pub parts : text ≡ front ++ rest
  pub written : Writes a front b

-- what was written of a text, by the fault that ended it
abbrev pub StopsBy : JobFault → Sunk → List ℕ → Sunk → Type 0
StopsBy fault.NoMemory a text b = WritesFront a text b
StopsBy fault.WriteFault a text b = Fails a text b

-- a text was written, or what was written of it
abbrev pub IsPut : {X : Type 0} → Sunk → List ℕ → Result X JobFault → Sunk → Type 0
IsPut a text (Ok x) b = Writes a text b
IsPut a text (Err f) b = StopsBy f a text b

-- how an exploration ends, by the end of its search
abbrev pub explored_as : Ending → Explored
explored_as All = explored.All
explored_as (AtDepth d) = explored.Partial
explored_as (found.Broken name path) = explored.Broken
explored_as (TooMany d) = explored.Partial

-- how an exploration that broke no rule ends, by the depth at which it ended, if a state is left
abbrev pub kept_as : Option ℕ → Explored
kept_as None = explored.All
kept_as (Some depth) = explored.Partial

-- an exploration returns how it ends
abbrev pub SaysEnding : Result Explored JobFault → Ending → Type 0
SaysEnding (Ok e) end = e ≡ explored_as end
SaysEnding (Err f) end = Unit {0}

-- what an exploration writes and returns: the text, and how it ends
pub record IsExplored (a : Sunk) (due : List ℕ) (end : Ending) (result : Result Explored JobFault) (b : Sunk) : Type 0 where
  pub text : IsPut a due result b
  pub ending : SaysEnding result end

-- the text of a search from a depth on, from the end of a deck, by its `on` lines
abbrev pub text_from : List rule.OnRule → ℕ → State → found.Search → List ℕ
text_from ons k z e = depth_lines k e.news ++ ending_text ons z e e.ending

-- what an exploration writes and returns from a depth on
abbrev pub Explores : List rule.OnRule → ℕ → State → found.Search → Sunk → Result Explored JobFault → Sunk → Type 0
Explores ons k z e a result b = IsExplored a (text_from ons k z e) e.ending result b

-- ---- statements

-- the statement that drops a stop, if it is wanted
abbrev pub drop_if : Bool → List Statement
drop_if false = []
drop_if true = idle_statement ∷ []

-- a power statement, if it is wanted
abbrev pub power_if : Bool → List Statement
power_if false = []
power_if true = power_statement ∷ []

-- the statements of a lead
abbrev pub lead_list : Lead → List Statement
lead_list lead = drop_if lead.armed ++ power_if lead.power

-- a text, if it is wanted
abbrev pub text_if : Bool → List ℕ → List ℕ
text_if false text = []
text_if true text = text

-- the number of the lines of steps
abbrev pub lines_of : List Step → ℕ
lines_of [] = 0
lines_of (s ∷ ss) = count_of_lines s.manner + lines_of ss

-- 1 for what is wanted
abbrev pub one_if : Bool → ℕ
one_if false = 0
one_if true = 1

-- what leads to the first state, and whether a card runs at the end of the deck
pub record StartIs (s : Start) (x : rule.Exploration) : Type 0 where
  pub lead : LeadIs s.lead x
  pub ran : s.ran ≡ is_running (warm_in (play_of_deck x.lines)).live

-- a search of an exploration holds the first state alone
pub record Starts (most : ℕ) (s : Search) (z : Start) (x : rule.Exploration) : Type 0 where
  pub holds : Holds (record { rules = x.rules; most = most; from = 0 }) s (record { state = first_state x; path = [] } ∷ [])
  pub tally : (tally_of s) ≡ no_tries x.rules.ons
  pub start : StartIs z x

-- ---- depths

-- What is left to do of an exploration from a depth on: a search holds nodes, those from `from` on are of that depth, and
-- what it still writes completes the text of the whole.
pub record DepthsAhead (x : rule.Exploration) (most depth done from : ℕ) (s : Search) (a b : Sunk) : Type 0 where
  pub nodes : List Node
  pub holds : Holds (record { rules = x.rules; most = most; from = from }) s nodes
  pub rest : (r : Result Explored JobFault) (c : Sunk)
      → Explores x.rules.ons (done + 1) (play_of_deck x.lines) (search_on (depth - done) done most x.rules (drop from nodes) (round_in (record { rules = x.rules; most = most; from = from }) (tally_of s) nodes)) b r c
      → IsExplored a (text_within most depth x) (search_of most depth x).ending r c
