-- The parts of a job, and why a job is not done.
use Rattle.std.specs.Prelude.{◌≡◌, ℕ, List, Result, Ok, Err}
use Rattle.lab_deck.specs.law_explore_text.specs.law_explore.specs.Rules.{Exploration, ExplorationFault, exploration_read}
use Rattle.lab_deck.specs.law_explore_text.specs.law_explore.specs.Search.{search_of}
use Rattle.lab_deck.specs.law_explore_text.specs.Report.{text_within}
use Rattle.lab_search.specs.Endings.{IsExplored}
use Rattle.lab_deck.specs.law_explore_text.specs.law_explore.specs.States.{play_of_deck}
use Rattle.lab_deck.specs.law_histories.specs.Histories.{AppExploration, AppFault, app_exploration_read}
use Rattle.lab_app_rules.specs.Rules.{AreRules as AreAppRules}
use Rattle.lab_app_rules.specs.declared.rules.Rules.{Rules as CodeRules}
use Rattle.mc_text.specs.Texts.{Sunk}
use Rattle.lab_application.specs.Texts.{IsAppExplored}
use Rattle.mc_lab.specs.Expectations.{ExpectedDeck, ExpectationFault}
use Rattle.lab_search.specs.declared.endings.Explored.{Explored}
use Rattle.lab_search.specs.declared.endings.Explored.TheVariants as explored
use Rattle.mc_script.specs.declared.job.JobFault.{JobFault}
use Rattle.mc_script.specs.declared.job.JobFault.TheVariants as fault
use Rattle.mc_filter.specs.Inputs.{FailsReading, ReadsLimited}
use Rattle.mc_filter.specs.Outside.{IsRead, Outside}
use Rattle.mellab.specs.declared.job.Job.{Job}
use Rattle.mc_filter.specs.declared.rejection.Rejection.{Rejection}
use Rattle.mc_filter.specs.declared.rejection.Rejection.TheVariants as rejection
use Rattle.mc_filter.specs.declared.status.Status.{Status}
use Rattle.mc_filter.specs.declared.status.Status.TheVariants.{Done, Failed, NoMemory, Partial, WriteFault}
use Rattle.mellab.specs.Verdicts.{Refusal, app_fault_line, exploration_fault_line, fault_line, IsVerdictOfJob}

-- the line that refuses a deck with its expectations
abbrev pub refused_expected_deck : Result ExpectedDeck ExpectationFault → List ℕ → Type 0
refused_expected_deck (Ok t) line = ⊥
refused_expected_deck (Err e) line = line ≡ fault_line e

-- the line that refuses a deck with its rules
abbrev pub refused_exploration : Result Exploration ExplorationFault → List ℕ → Type 0
refused_exploration (Ok x) line = ⊥
refused_exploration (Err e) line = line ≡ exploration_fault_line e

-- the line that refuses a deck whose rules speak of one application
abbrev pub refused_application : Result AppExploration AppFault → List ℕ → Type 0
refused_application (Ok x) line = ⊥
refused_application (Err e) line = line ≡ app_fault_line e

-- the status after an exploration
abbrev pub status_explored : Result Explored JobFault → Status
status_explored (Ok explored.All) = Done
status_explored (Ok explored.Partial) = Partial
status_explored (Ok explored.Broken) = Failed
status_explored (Err fault.WriteFault) = WriteFault
status_explored (Err fault.NoMemory) = NoMemory

-- an exploration of a deck with its rules was done: what it wrote and how it ended
pub record EndsExploration (depth most : ℕ) (input : List ℕ) (a b : Sunk) (s : Status) : Type 0 where
  pub exploration : Exploration
  pub is : exploration_read input ≡ Ok exploration
  pub result : Result Explored JobFault
  pub status : s ≡ status_explored result
  pub explored : IsExplored a (text_within most depth exploration) (search_of most depth exploration).ending result b

-- An exploration of a deck with the rules of one application was done: what it wrote and how it ended, by the rules that
-- were read.
pub record EndsApplication (depth : ℕ) (input : List ℕ) (a b : Sunk) (s : Status) : Type 0 where
  pub exploration : AppExploration
  pub is : app_exploration_read input ≡ Ok exploration
  pub rules : CodeRules
  pub are : AreAppRules exploration.rules exploration.target rules
  pub result : Result Explored JobFault
  pub status : s ≡ status_explored result
  pub explored : IsAppExplored rules exploration.moves depth (play_of_deck exploration.lines) a result b

-- why a job was not done: a line that refuses its input, one call of its source that failed, or out of memory, in which
-- case none did
abbrev pub RejectsLabJob : Job → Outside → Rejection → Type 0
RejectsLabJob job a (rejection.Refusal line) = IsRead Refusal (IsVerdictOfJob job) a.input_old a.input (Refusal line.items)
RejectsLabJob job a rejection.ReadFault = FailsReading a.input_old a.input
RejectsLabJob job a rejection.NoMemory = ReadsLimited a.input_old a.input
