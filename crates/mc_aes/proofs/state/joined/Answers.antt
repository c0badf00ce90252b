use Rattle.std.proofs.Common.{arith}
use Rattle.mc_aes.proofs.StateLemmas.{joined_is}
use Rattle.mc_aes.proofs.state.joined.Goals as goal

pub returns : goal.returns
returns c = joined_is c.args.row0 c.args.row1 c.args.row2 c.args.row3 (omega arith) (omega arith) (omega arith) (omega arith)
