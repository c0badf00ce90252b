use Rattle.std.proofs.Common.{◌≤◌, length}
use Rattle.model_events.specs.Matching.{plain}
use Rattle.lab_match.proofs.MatchingLemmas.{PatternWalked}
use Rattle.lab_match.proofs.matching.walk_to_star.Given as goal

-- the rests match if pattern and text do
abbrev pub invariant-loop-sign : goal.invariant-loop-sign
invariant-loop-sign l = record {
  walked : PatternWalked (plain l.fn.pattern) (plain l.fn.text) (plain l.signs) (plain l.rest);
  fewer : length l.signs ≤ length l.fn.pattern;
  less : length l.rest ≤ length l.fn.text;
}

abbrev pub decreases-loop-sign : goal.decreases-loop-sign
decreases-loop-sign l = length l.signs
