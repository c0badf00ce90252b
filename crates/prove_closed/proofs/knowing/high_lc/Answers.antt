use Rattle.prove_closed.proofs.RangeLemmas.{five_are}
use Rattle.prove_closed.proofs.knowing.high_lc.Goals as goal

pub returns : goal.returns
returns c = five_are c.below.result.words c.below.ensures
