use Rattle.std.proofs.Common.{◌≤◌, ℕ, List, length}
use Rattle.law_histories.specs.model_play.specs.DeckGrammar.{DeckLine}
use Rattle.law_histories.specs.law_explore.specs.Rules as rule
use Rattle.mc_text.specs.Texts.{sunk_in}
use Rattle.lab_application.specs.Shadows.{AreMovesOf}
use Rattle.lab_application.specs.Starts.{StartsWith}
use Rattle.lab_application.specs.Texts.{DepthsLeft}
use Rattle.lab_application.proofs.exploring.search_on.Given as goal

-- what is written from the next depth on completes the text of the whole
abbrev pub invariant-loop-done : goal.invariant-loop-done
invariant-loop-done g l =
    record {
      within : l.from ≤ length l.search.states.keys;
      left : (ls : List (ℕ × DeckLine)) (ms : List rule.Move) (n limit : ℕ) → AreMovesOf l.moves ls ms → StartsWith ls ms n limit l.fn.search l.start
          → DepthsLeft l.subject.rules.now ls ms n limit l.depth l.done l.search (sunk_in g.T.Sink.taken g.T.Sink.faults l.fn.out) (sunk_in g.T.Sink.taken g.T.Sink.faults l.out);
    }
