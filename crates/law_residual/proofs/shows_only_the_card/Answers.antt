use Rattle.law_residual.proofs.Alike.{residual}
use Rattle.law_residual.proofs.OnDevice.{device_law}
use Rattle.law_residual.proofs.shows_only_the_card.Goals as goal

pub returns : goal.returns
returns c = record { texts = residual; on_device = device_law }
