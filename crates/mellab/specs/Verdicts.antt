-- The verdict on the input of a job: the text due, and whether all that is asked of it holds, or the one line that
-- refuses the input.
use Rattle.std.specs.Prelude.{◌≡◌, ℕ, Bool, true, false, ◌==◌, List, [], codes, Result, Ok, Err, ⊤}
use Rattle.mc_words.specs.model_device.specs.Device.{blank_words, device_words}
use Rattle.mc_deck.specs.model_play.specs.DeckGrammar.{DeckLine, deck_read}
use Rattle.mc_deck.specs.model_play.specs.declared.deck.DeckCause.{DeckCause}
use Rattle.mc_lab.specs.Expectations.{ExpectedDeck, ExpectationFault, DeckFault, NoAnswer, NoExpectation, expected_deck_read, steady_steps, expect_text, count_failed}
use Rattle.mc_lab.specs.declared.remark.Mark.TheVariants as mark
use Rattle.mc_lab.specs.Remarks.{Remark, remarks}
use Rattle.mc_lab.specs.Sweeps.{is_whole, sweep_text}
use Rattle.lab_deck.specs.law_explore_text.specs.law_explore.specs.Rules.{Exploration, ExplorationFault, LineFault, NoMove, NoRule, exploration_read}
use Rattle.lab_deck.specs.law_explore_text.specs.law_explore.specs.Search.{Ending, All, AtDepth, Broken, TooMany, search_of}
use Rattle.lab_deck.specs.law_explore_text.specs.Report.{text_within}
use Rattle.lab_deck.specs.law_explore_text.specs.law_explore.specs.States.{play_of_deck}
use Rattle.lab_deck.specs.law_histories.specs.Histories.{AppExploration, AppFault, app_exploration_read, names_application}
use Rattle.lab_deck.specs.law_histories.specs.Histories as histories
use Rattle.lab_deck.specs.law_histories.specs.Searches.{Search as AppSearch, text_of_search}
use Rattle.lab_application.specs.Texts.{IsFoundFrom}
use Rattle.lab_app_rules.specs.Rules.{AreRules as AreAppRules}
use Rattle.lab_app_rules.specs.declared.rules.Rules.{Rules as CodeRules}
use Rattle.lab_app_rules.specs.model_rules.specs.Rules.{AppRules}
use Rattle.prove_tables.specs.law_prove_closed.specs.model_rule_text.specs.Reading.{RuleCause, app_rules_read}
use Rattle.prove_tables.specs.law_prove_closed.specs.Decks.{TargetIsKept}
use Rattle.prove_rules.specs.Refused.{cause_word}
use Rattle.prove_tables.specs.Reports.{IsReport}
use Rattle.mc_filter.specs.Lines.{at_line, deck_line}
use Rattle.mellab.specs.declared.job.Job.{Job}
use Rattle.mellab.specs.declared.job.Job.TheVariants as job

-- a verdict: a text, and whether all expectations hold, all lines that must be whole are, no rule is broken, or all rules
-- are proved; a text and that no rule is broken in what was tried, which is not all; or the line of a refusal
pub data LabVerdict : Type 0 where
  Reports : (text : List ℕ) (well : Bool) → LabVerdict
  ReportsPart : (text : List ℕ) → LabVerdict
  Refusal : (line : List ℕ) → LabVerdict

-- the text of a verdict
abbrev pub text_of_verdict : LabVerdict → List ℕ
text_of_verdict (Reports text well) = text
text_of_verdict (ReportsPart text) = text
text_of_verdict (Refusal line) = line

-- the line of a refusal: a refused line of a deck, an expectation without a result, or a deck without expectations
abbrev pub fault_line : ExpectationFault → List ℕ
fault_line (DeckFault n c) = deck_line (n, c)
fault_line (NoAnswer n) = at_line n (codes "NoAnswer")
fault_line NoExpectation = at_line 0 (codes "NoExpectation")

-- the line of a refusal: a refused line of a deck or of its rules, or a deck that tests nothing
abbrev pub exploration_fault_line : ExplorationFault → List ℕ
exploration_fault_line (LineFault n c) = deck_line (n, c)
exploration_fault_line NoMove = at_line 0 (codes "NoMove")
exploration_fault_line NoRule = at_line 0 (codes "NoRule")

-- the line of a refusal of a deck whose rules speak of one application
abbrev pub app_fault_line : AppFault → List ℕ
app_fault_line (histories.LineFault n c) = at_line n (cause_word c)
app_fault_line histories.NoMove = at_line 0 (codes "NoMove")
app_fault_line histories.NoRule = at_line 0 (codes "NoRule")

-- ---- jobs

-- the verdict on a deck's expectations, played on a blank device
abbrev pub expectation_verdict : Result ExpectedDeck ExpectationFault → LabVerdict
expectation_verdict (Ok t) =
    let ts = steady_steps (blank_words device_words) t.lines in
    Reports (expect_text ts t.expected) (count_failed ts t.expected == 0)
expectation_verdict (Err e) = Refusal (fault_line e)

-- the verdict on a sweep of a deck with its marks `#! whole`: whether each line that must be whole is, and each mark is of a swept line
abbrev pub sweep_verdict : List Remark → Result (List (ℕ × DeckLine)) (ℕ × DeckCause) → LabVerdict
sweep_verdict marks (Ok ls) = Reports (sweep_text marks ls) (is_whole marks ls)
sweep_verdict marks (Err e) = Refusal (deck_line e)

-- the verdict on an exploration, by its text and the end of its search
abbrev pub ending_verdict : List ℕ → Ending → LabVerdict
ending_verdict text All = Reports text true
ending_verdict text (AtDepth d) = ReportsPart text
ending_verdict text (Broken name path) = Reports text false
ending_verdict text (TooMany d) = ReportsPart text

-- the verdict on the exploration of a deck with its rules to a depth, with the most states: whether no rule is broken in
-- what is explored, and whether that is all
abbrev pub exploration_verdict : ℕ → ℕ → Result Exploration ExplorationFault → LabVerdict
exploration_verdict depth most (Ok x) = ending_verdict (text_within most depth x) (search_of most depth x).ending
exploration_verdict depth most (Err e) = Refusal (exploration_fault_line e)

-- A verdict on the exploration of a deck with the rules of one application to a depth, by its text and the end of its
-- search, which is one of the definition as far as the form of its text goes.
pub record IsAppSearch (depth : ℕ) (x : AppExploration) (v : LabVerdict) : Type 0 where
  pub rules : CodeRules
  pub are : AreAppRules x.rules x.target rules
  pub search : AppSearch
  pub found : IsFoundFrom rules x.moves 0 depth search
  pub verdict : v ≡ ending_verdict (text_of_search (play_of_deck x.lines) search) search.ending

-- the verdict on such an exploration, or the refusal of its deck
abbrev pub IsAppVerdict : ℕ → Result AppExploration AppFault → LabVerdict → Type 0
IsAppVerdict depth (Ok x) v = IsAppSearch depth x v
IsAppVerdict depth (Err e) v = v ≡ Refusal (app_fault_line e)

-- the verdict on an exploration, by whether the rules of its deck speak of one application
abbrev pub IsExplorationVerdict : Bool → ℕ → ℕ → List ℕ → LabVerdict → Type 0
IsExplorationVerdict false depth most input v = v ≡ exploration_verdict depth most (exploration_read input)
IsExplorationVerdict true depth most input v = IsAppVerdict depth (app_exploration_read input) v

-- the line that refuses the rules of a deck that can be read
abbrev pub refused_rules : Result AppRules (ℕ × RuleCause) → List ℕ → Type 0
refused_rules (Ok r) line = ⊥
refused_rules (Err e) line = line ≡ at_line e.0 (cause_word e.1)

-- what is proved of rules that were read: they are kept in every play of every deck
abbrev pub AreKeptIfRead : Result AppRules (ℕ × RuleCause) → Type 0
AreKeptIfRead (Err e) = ⊥
AreKeptIfRead (Ok r) = TargetIsKept r r.target

-- what a verdict says of the rules of a deck
abbrev pub IsProofOf : Bool → Result AppRules (ℕ × RuleCause) → Type 0
IsProofOf false r = ⊤
IsProofOf true r = AreKeptIfRead r

-- A verdict on the rules of a deck in every play of every deck. Its text is no definition: of a deck that can be read, a
-- line refuses its rules as the definition does, or the last line of a text is whether all rules are proved; then they
-- are kept.
abbrev pub IsProofVerdict : List ℕ → Result (List (ℕ × DeckLine)) (ℕ × DeckCause) → LabVerdict → Type 0
IsProofVerdict input (Ok ls) (Reports text well) = IsReport well text × IsProofOf well (app_rules_read input)
IsProofVerdict input (Ok ls) (ReportsPart text) = ⊥
IsProofVerdict input (Ok ls) (Refusal line) = refused_rules (app_rules_read input) line
IsProofVerdict input (Err e) v = v ≡ Refusal (deck_line e)

-- the verdict on an input within the limit
abbrev pub IsVerdictOfJob : Job → List ℕ → LabVerdict → Type 0
IsVerdictOfJob job.Expect input v = v ≡ expectation_verdict (expected_deck_read input)
IsVerdictOfJob job.Sweep input v = v ≡ sweep_verdict (remarks mark.Whole input) (deck_read input)
IsVerdictOfJob (job.Explore depth most) input v = IsExplorationVerdict (names_application input) depth most input v
IsVerdictOfJob job.Prove input v = IsProofVerdict input (deck_read input) v
