use Rattle.std.proofs.Common.{arith}
use Rattle.mc_aes.proofs.TablesLemmas.{columns_back2_at}
use Rattle.mc_aes.proofs.tables.column_back2.Goals as goal

pub returns : goal.returns
returns c = columns_back2_at c.args.byte (omega arith)
