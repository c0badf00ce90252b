use Rattle.mc_lab.proofs.SweepLawLemmas.{never_torn}
use Rattle.mc_lab.proofs.sweep_laws.never_torn.Goals as goal

pub returns : goal.returns
returns c = never_torn
