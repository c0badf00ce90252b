use Rattle.mc_store.proofs.StopLemmas.{item_stops}
use Rattle.mc_store.proofs.laws.item_stops.Goals as goal

pub returns : goal.returns
returns c = λ m i k x image closed good allowed low high. item_stops m image closed good i k x allowed low high
