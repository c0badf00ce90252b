use Rattle.law_explore.proofs.Breaks.{broken_law}
use Rattle.law_explore.proofs.laws.broken_is_shortest.Goals as goal

pub returns : goal.returns
returns c = broken_law
