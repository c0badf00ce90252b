use Rattle.std.proofs.Common.{◌≡◌, ◌+◌, length}
use Rattle.model_events.specs.Matching.{matches, plain, some_rest}
use Rattle.lab_match.proofs.matching.matches_some_rest.Given as goal

-- a match is found in the rest if it is found in the whole
abbrev pub invariant-loop-next_signs : goal.invariant-loop-next_signs
invariant-loop-next_signs l = some_rest (matches (plain l.signs)) (plain l.rest) ≡ some_rest (matches (plain l.fn.pattern)) (plain l.fn.text)

abbrev pub decreases-loop-next_signs : goal.decreases-loop-next_signs
decreases-loop-next_signs l = length l.signs + length l.rest
