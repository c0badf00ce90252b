use Rattle.mc_des.proofs.TablesLemmas.{initial_at}
use Rattle.mc_des.proofs.tables.initial_of.Goals as goal

pub returns : goal.returns
returns c = initial_at c.args.place c.args.four c.requires.place c.requires.four
