-- What an exploration writes of a deck with the rules of one application, and what it returns.
use Rattle.std.specs.Prelude.{◌≡◌, ℕ, suc, ◌+◌, ◌≤◌, Bool, List, [], ◌∷◌, ◌++◌, length, reverse, slice_get, slice_index_or, true, Some, Result, IfOk}
use Rattle.std.specs.List.{AllByRecursion}
use Rattle.law_histories.specs.model_play.specs.DeckGrammar.{DeckLine}
use Rattle.law_histories.specs.model_play.specs.Play.{State}
use Rattle.law_histories.specs.law_explore.specs.Rules as rule
use Rattle.law_histories.specs.law_explore.specs.Search.{Ending, All, AtDepth, TooMany, Broken, statements_to}
use Rattle.law_histories.specs.law_explore.specs.Tries.{Try}
use Rattle.law_histories.specs.law_explore_text.specs.Report.{broken_text, depth_lines, sums_text}
use Rattle.law_histories.specs.Searches.{Search as Found, ending_text, text_of_search}
use Rattle.mc_text.specs.Texts.{Sunk}
use Rattle.lab_search.specs.declared.endings.Explored.{Explored}
use Rattle.lab_search.specs.declared.endings.Explored.TheVariants as explored
use Rattle.mc_script.specs.declared.job.JobFault.{JobFault}
use Rattle.lab_search.specs.declared.rounds.Search.{Search}
use Rattle.lab_search.specs.Endings.{IsExplored, IsPut}
use Rattle.lab_search.specs.Reports.{how_text}
use Rattle.lab_search.specs.Rounds.{Holds}
use Rattle.lab_search.specs.Tallies.{silent_if}
use Rattle.lab_app_rules.specs.declared.rules.On.{On}
use Rattle.lab_app_rules.specs.declared.rules.Rules.{Rules}
use Rattle.lab_application.specs.declared.attempts.Halt.{Halt}
use Rattle.lab_application.specs.declared.attempts.Halt.TheVariants as halt
use Rattle.lab_history.specs.declared.standing.Break.{Break}
use Rattle.lab_application.specs.Names.{broken_name}
use Rattle.law_histories.specs.law_explore.specs.Search as model
use Rattle.law_histories.specs.law_explore.specs.States.{play_of_deck}
use Rattle.lab_application.specs.Shadows.{shadow}

-- ---- lines

-- the lines of the `on` lines from an index on that applied to no try, by whether each did; one that was not counted did
abbrev pub silent_from : ℕ → List On → List Bool → List ℕ
silent_from i [] hs = []
silent_from i (o ∷ os) hs = silent_if (slice_index_or hs i true) o.line ++ silent_from (suc i) os hs

-- the `on` lines from an index on by their numbers, each with whether it applied
abbrev pub heard_from : ℕ → List On → List Bool → List (ℕ × Bool)
heard_from i [] hs = []
heard_from i (o ∷ os) hs = (o.line, slice_index_or hs i true) ∷ heard_from (suc i) os hs

-- the end of a search that broke no rule
abbrev pub kept_text_of : Rules → Search → List ℕ → List ℕ
kept_text_of r s how = silent_from 0 r.ons.items s.tally.heard.items ++ sums_text (length s.states.keys) s.tally.tries how

-- ---- tries

-- a try is one of a move at some place
abbrev pub IsOfMoves : List rule.Move → Try → Type 0
IsOfMoves ms t = (i : ℕ) × (slice_get ms i ≡ Some t.move)

-- ---- within a depth

-- what is written of a search that ended within a depth, and what is returned: one state too many; or a rule that is broken,
-- and the statements of tries of the moves
abbrev pub Reports : Rules → Search → State → List rule.Move → ℕ → Halt → Sunk → Result Explored JobFault → Sunk → Type 0
Reports r s z ms depth halt.Full a result b = IsPut a (kept_text_of r s (how_text (Some depth))) result b × IfOk result (λ e. e ≡ explored.Partial)
Reports r s z ms depth (halt.Broken x step) a result b =
    (t : Try) × (ts : List Try) × AllByRecursion (IsOfMoves ms) (t ∷ ts) × IsPut a (broken_text (broken_name r x) (statements_to z (reverse (t ∷ ts)))) result b × IfOk result (λ e. e ≡ explored.Broken)

-- ---- the whole

-- how a search ends that was at a depth before these: no new state is in the last one; all depths are done; there are too
-- many states; or a rule is broken, by tries of the moves
abbrev pub IsEndingFrom : Rules → List rule.Move → ℕ → ℕ → List ℕ → Ending → Type 0
IsEndingFrom r ms k depth news All = (front : List ℕ) × (news ≡ front ++ 0 ∷ [])
IsEndingFrom r ms k depth news (AtDepth d) = (d ≡ depth) × (k + length news ≡ depth)
IsEndingFrom r ms k depth news (TooMany d) = d ≡ k + suc (length news)
IsEndingFrom r ms k depth news (Broken name path) = ((x : Break) × (name ≡ broken_name r x)) × AllByRecursion (IsOfMoves ms) path

-- A search of the definition, as far as the form of its text goes: at most n depths from the k-th on, an end that
-- fits them, and each `on` line by its number.
pub record IsFoundFrom (r : Rules) (ms : List rule.Move) (k depth : ℕ) (q : Found) : Type 0 where
  pub few : k + length q.news ≤ depth
  pub ending : IsEndingFrom r ms k depth q.news q.ending
  pub heard : (hs : List Bool) × (q.found.heard ≡ heard_from 0 r.ons.items hs)

-- the text of a search from a depth on
abbrev pub text_from : ℕ → State → Found → List ℕ
text_from k z q = depth_lines k q.news ++ ending_text z q.found q.ending

-- What an exploration writes and returns: the text of some search of this form, and how that ends.
pub record IsAppExplored (r : Rules) (ms : List rule.Move) (depth : ℕ) (z : State) (a : Sunk) (result : Result Explored JobFault) (b : Sunk) : Type 0 where
  pub search : Found
  pub found : IsFoundFrom r ms 0 depth search
  pub explored : IsExplored a (text_of_search z search) search.ending result b

-- What is left to do of an exploration from a depth on: a search holds nodes, and what it still writes completes the text
-- of the whole.
pub record DepthsLeft (r : Rules) (ls : List (ℕ × DeckLine)) (ms : List rule.Move) (n most depth done : ℕ) (s : Search) (a b : Sunk) : Type 0 where
  pub nodes : List model.Node
  pub holds : Holds (record { rules = shadow ms n; most = most; from = 0 }) s nodes
  pub rest : (q : Found) (result : Result Explored JobFault) (c : Sunk) → IsFoundFrom r ms done depth q
      → IsExplored b (text_from (done + 1) (play_of_deck ls) q) q.ending result c → IsAppExplored r ms depth (play_of_deck ls) a result c
