use Rattle.mc_trans.proofs.Putting.{piece_put}
use Rattle.mc_trans.proofs.laws.puts_piece.Goals as goal

pub returns : goal.returns
returns c = piece_put
