use Rattle.std.proofs.Common.{◌≡◌, true, List}
use Rattle.law_histories.specs.model_play.specs.Family.{is_running}
use Rattle.law_histories.specs.law_explore.specs.Rules as rule
use Rattle.law_histories.specs.law_explore.specs.Search.{Node}
use Rattle.lab_search.specs.Kept.{names_in}
use Rattle.lab_search.specs.Rounds.{Depth, TriesMove}
use Rattle.lab_application.specs.Finding.{AreKeptWith, HoldsMore}
use Rattle.lab_application.proofs.attempts.Attempt.try_cuts.Given as goal

-- the search goes on, and what was reached stays kept
abbrev pub invariant-loop-place : goal.invariant-loop-place
invariant-loop-place g l =
    (d : Depth) (ns : List Node) (n : Node) (m : rule.Move) → TriesMove d l.fn.search ns n m l.self.candidate.now l.self.before l.self.chosen → is_running n.state.live ≡ true
    → HoldsMore d ns l.search × AreKeptWith l.search (names_in d.rules) l.tried
