use Rattle.law_promise.proofs.OutlineDomain.{kept_from}
use Rattle.law_promise.proofs.rule.keeps_from.Goals as goal

pub returns : goal.returns
returns g c = kept_from g.P.Promise.outline g.P.Promise.shown
