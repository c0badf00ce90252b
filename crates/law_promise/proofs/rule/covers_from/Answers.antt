use Rattle.law_promise.proofs.FoundLines.{covered_from}
use Rattle.law_promise.proofs.rule.covers_from.Goals as goal

pub returns : goal.returns
returns g c = covered_from g.D.Analysis.domain g.D.Analysis.sound
