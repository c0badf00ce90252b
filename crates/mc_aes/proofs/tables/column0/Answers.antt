use Rattle.std.proofs.Common.{arith}
use Rattle.mc_aes.proofs.TablesLemmas.{columns0_at}
use Rattle.mc_aes.proofs.tables.column0.Goals as goal

pub returns : goal.returns
returns c = columns0_at c.args.byte (omega arith)
