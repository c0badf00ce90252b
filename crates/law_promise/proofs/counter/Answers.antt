use Rattle.law_promise.proofs.CounterLaw.{counter_law}
use Rattle.law_promise.proofs.counter.Goals as goal

pub returns : goal.returns
returns c = counter_law
