use Rattle.law_family.proofs.DefinitionLemmas.{stop_behind}
use Rattle.model_play.specs.model_card.proofs.ItemLemmas.{stop_within}
use Rattle.law_family.proofs.definitions.stops_split.Goals as goal

pub returns : goal.returns
returns c = record { within = stop_within; behind = stop_behind }
