use Rattle.std.proofs.Common.{arith}
use Rattle.mc_aes.proofs.TablesLemmas.{columns2_at}
use Rattle.mc_aes.proofs.tables.column2.Goals as goal

pub returns : goal.returns
returns c = columns2_at c.args.byte (omega arith)
