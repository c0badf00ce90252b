use Rattle.std.proofs.Common.{arith}
use Rattle.mc_aes.proofs.TablesLemmas.{substitutes_at}
use Rattle.mc_aes.proofs.tables.substitute.Goals as goal

pub returns : goal.returns
returns c = substitutes_at c.args.byte (omega arith)
