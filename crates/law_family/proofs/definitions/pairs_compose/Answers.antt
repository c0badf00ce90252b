use Rattle.model_play.specs.model_device.proofs.ImageLemmas.{laid_append}
use Rattle.law_family.proofs.definitions.pairs_compose.Goals as goal

pub returns : goal.returns
returns c = laid_append
