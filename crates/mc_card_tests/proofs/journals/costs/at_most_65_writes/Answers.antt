use Rattle.model_device.specs.Image.{look_j}
use Rattle.mc_card_tests.proofs.CostLemmas.{as_many, at_most_65}
use Rattle.mc_card_tests.proofs.journals.costs.at_most_65_writes.Goals as goal

pub returns : goal.returns
returns c = record { few = at_most_65; all = λ j m. as_many (look_j j m) }
