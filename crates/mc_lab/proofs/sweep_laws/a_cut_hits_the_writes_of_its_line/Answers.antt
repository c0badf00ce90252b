use Rattle.mc_lab.proofs.SweepHits.{hits_within}
use Rattle.mc_lab.proofs.sweep_laws.a_cut_hits_the_writes_of_its_line.Goals as goal

pub returns : goal.returns
returns c = hits_within
