use Rattle.law_prove_closed.proofs.Counter.{counter_kept}
use Rattle.law_prove_closed.proofs.counter_is_kept.Goals as goal

pub returns : goal.returns
returns c = counter_kept
