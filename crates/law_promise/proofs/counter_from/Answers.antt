use Rattle.law_promise.proofs.CounterLaw.{counter_from_law}
use Rattle.law_promise.proofs.counter_from.Goals as goal

pub returns : goal.returns
returns c = counter_from_law
