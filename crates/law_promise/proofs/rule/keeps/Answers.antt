use Rattle.law_promise.proofs.OutlineDomain.{kept_along}
use Rattle.law_promise.proofs.rule.keeps.Goals as goal

pub returns : goal.returns
returns g c = kept_along g.P.Promise.outline g.P.Promise.shown
