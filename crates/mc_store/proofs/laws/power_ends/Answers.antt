use Rattle.mc_words.specs.model_device.specs.Image.{image_with}
use Rattle.mc_store.specs.Power.{power_writes}
use Rattle.mc_store.proofs.PowerLemmas.{power_done, done_base, fault_writes, fault_base}
use Rattle.mc_store.proofs.laws.power_ends.Goals as goal

pub returns-clause-card : goal.returns-clause-card
returns-clause-card c = λ m image f. done_base m image.low image.high f (image_with m (power_writes m)) (power_done m image.low image.high f)

pub returns-clause-fault : goal.returns-clause-fault
returns-clause-fault c = λ m f image h. fault_writes m image.low image.high f h

pub returns-clause-base : goal.returns-clause-base
returns-clause-base c = λ m f image h. fault_base m image.low image.high
