use Rattle.law_promise.proofs.Lines.{covered_along}
use Rattle.law_promise.proofs.rule.covers.Goals as goal

pub returns : goal.returns
returns g c = covered_along g.D.Analysis.domain g.D.Analysis.sound
