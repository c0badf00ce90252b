use Rattle.model_device.proofs.CallLemmas.{length_writes}
use Rattle.mc_card_tests.proofs.journals.costs.as_many_as_the_cost.Goals as goal

pub returns : goal.returns
returns c = length_writes
