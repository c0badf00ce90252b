use Rattle.mc_trans.proofs.Putting.{pieces_joined}
use Rattle.mc_trans.proofs.laws.joins_pieces.Goals as goal

pub returns : goal.returns
returns c = pieces_joined
