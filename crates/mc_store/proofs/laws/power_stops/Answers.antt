use Rattle.mc_store.proofs.PowerLemmas.{count_writes, power_halted}
use Rattle.mc_store.proofs.laws.power_stops.Goals as goal

pub returns-clause-count : goal.returns-clause-count
returns-clause-count c = λ m image. count_writes m image.low image.high

pub returns-clause-halted : goal.returns-clause-halted
returns-clause-halted c = λ m k x image low high. power_halted m image.low image.high k x low high
