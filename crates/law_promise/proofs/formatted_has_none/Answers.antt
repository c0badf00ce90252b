use Rattle.law_promise.proofs.FormattedNone.{formatted_law}
use Rattle.law_promise.proofs.formatted_has_none.Goals as goal

pub returns : goal.returns
returns c = formatted_law
