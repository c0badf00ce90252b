use Rattle.law_explore_text.specs.law_explore.specs.Rules as rule
use Rattle.mc_text.specs.Texts.{sunk_in}
use Rattle.lab_search.specs.Kept.{IsExplorationOf}
use Rattle.lab_search.specs.Endings.{DepthsAhead}
use Rattle.lab_search.proofs.search.explore_within.Given as goal

-- what is written from the next depth on completes the text of the whole
abbrev pub invariant-loop-done : goal.invariant-loop-done
invariant-loop-done g l =
    (x : rule.Exploration) → IsExplorationOf l.exploration x
    → DepthsAhead x l.fn.limit l.depth l.done l.from l.search (sunk_in g.T.Sink.taken g.T.Sink.faults l.fn.out) (sunk_in g.T.Sink.taken g.T.Sink.faults l.out)
