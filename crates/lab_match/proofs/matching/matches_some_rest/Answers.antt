use Rattle.std.proofs.Common.{sym, ◌∙◌}
use Rattle.model_events.specs.Matching.{matches, plain}
use Rattle.lab_match.proofs.MatchingLemmas.{some_rest_first}
use Rattle.lab_match.proofs.matching.matches_some_rest.Goals as goal

pub returns-in-Whole : goal.returns-in-Whole
returns-in-Whole c =
    sym (some_rest_first (matches (plain c.loop-next_signs.signs.now)) (plain c.from_match-from.result.now) c.in-Whole.ensures.is) ∙ c.from_match-from.ensures.same ∙ c.loop-next_signs.invariant
