use Rattle.mc_lab.proofs.SweepLawLemmas.{each_stays}
use Rattle.mc_lab.proofs.sweep_laws.no_change_stays_the_same.Goals as goal

pub returns : goal.returns
returns c = each_stays
