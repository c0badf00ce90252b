use Rattle.std.proofs.Common.{arith}
use Rattle.mc_aes.proofs.TablesLemmas.{columns3_at}
use Rattle.mc_aes.proofs.tables.column3.Goals as goal

pub returns : goal.returns
returns c = columns3_at c.args.byte (omega arith)
