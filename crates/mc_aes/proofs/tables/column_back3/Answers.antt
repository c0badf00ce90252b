use Rattle.std.proofs.Common.{arith}
use Rattle.mc_aes.proofs.TablesLemmas.{columns_back3_at}
use Rattle.mc_aes.proofs.tables.column_back3.Goals as goal

pub returns : goal.returns
returns c = columns_back3_at c.args.byte (omega arith)
