use Rattle.std.proofs.Common.{ap, arith}
use Rattle.lab_branch.specs.Branches.{BranchState}
use Rattle.mc_lab.proofs.SweepFrontLemmas.{played_no_line}
use Rattle.mc_lab.proofs.sweep_play.Laboratory.new.Goals as goal

pub returns : goal.returns
returns c = record { within = omega arith; kept = played_no_line _ (ap (λ (b : BranchState). b.root) c.in_ok-device.ensures) }
