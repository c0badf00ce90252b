use Rattle.std.proofs.Common.{arith}
use Rattle.mc_aes.proofs.TablesLemmas.{columns_back0_at}
use Rattle.mc_aes.proofs.tables.column_back0.Goals as goal

pub returns : goal.returns
returns c = columns_back0_at c.args.byte (omega arith)
