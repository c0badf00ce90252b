use Rattle.mc_lab.proofs.SweepLawLemmas.{each_between}
use Rattle.mc_lab.proofs.sweep_laws.between_two_changes.Goals as goal

pub returns : goal.returns
returns c = each_between
