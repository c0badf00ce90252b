use Rattle.law_prove_closed.proofs.Ways.{pattern_law}
use Rattle.law_prove_closed.proofs.patterns_are_followed.Goals as goal

pub returns : goal.returns
returns c = pattern_law
