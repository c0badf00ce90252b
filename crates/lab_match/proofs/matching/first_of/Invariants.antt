use Rattle.std.proofs.Common.{◌≡◌, ◌≤◌, length}
use Rattle.model_events.specs.Matching.{plain}
use Rattle.lab_match.proofs.matching.first_of.Given as goal

-- the rest has the same characters
abbrev pub invariant-loop-rest : goal.invariant-loop-rest
invariant-loop-rest l = record {
  same : plain l.rest ≡ plain l.text;
  less : length l.rest ≤ length l.text;
}

abbrev pub decreases-loop-rest : goal.decreases-loop-rest
decreases-loop-rest l = length l.rest
