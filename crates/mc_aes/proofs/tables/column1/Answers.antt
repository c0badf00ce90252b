use Rattle.std.proofs.Common.{arith}
use Rattle.mc_aes.proofs.TablesLemmas.{columns1_at}
use Rattle.mc_aes.proofs.tables.column1.Goals as goal

pub returns : goal.returns
returns c = columns1_at c.args.byte (omega arith)
