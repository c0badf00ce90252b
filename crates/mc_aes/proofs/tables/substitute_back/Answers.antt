use Rattle.std.proofs.Common.{arith}
use Rattle.mc_aes.proofs.TablesLemmas.{back_at}
use Rattle.mc_aes.proofs.tables.substitute_back.Goals as goal

pub returns : goal.returns
returns c = back_at c.args.byte (omega arith)
