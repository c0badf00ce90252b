use Rattle.mc_lab.proofs.SweepLawLemmas.{each_splits}
use Rattle.mc_lab.proofs.sweep_laws.one_change_splits_at_its_gate.Goals as goal

pub returns : goal.returns
returns c = each_splits
