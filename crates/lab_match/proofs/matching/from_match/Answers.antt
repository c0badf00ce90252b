use Rattle.std.proofs.Common.{[]}
use Rattle.model_events.specs.Matching.{plain}
use Rattle.lab_match.proofs.MatchingLemmas.{match_ended, match_of_sign}
use Rattle.lab_match.proofs.matching.from_match.Goals as goal

pub returns-in-Some-clause-same : goal.returns-in-Some-clause-same
returns-in-Some-clause-same c =
    match_of_sign (plain c.args.pattern.now) (plain c.args.text.now) (plain c.from_sign.result.now) c.in-Some.sign _
    c.in-Some.ensures.parts (c.from_sign.ensures.same _)

pub returns-in-None-clause-same : goal.returns-in-None-clause-same
returns-in-None-clause-same c =
    match_ended (plain c.args.pattern.now) (plain c.args.text.now) [] c.in-None.ensures.parts
