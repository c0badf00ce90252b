use Rattle.law_residual.proofs.OnDevice.{recovered_law}
use Rattle.law_residual.proofs.recoveries_leave_only_the_card.Goals as goal

pub returns : goal.returns
returns c = record { after_power = recovered_law }
