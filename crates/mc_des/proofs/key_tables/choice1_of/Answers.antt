use Rattle.mc_des.proofs.TablesLemmas.{choice1_at}
use Rattle.mc_des.proofs.key_tables.choice1_of.Goals as goal

pub returns : goal.returns
returns c = choice1_at c.args.place c.args.four c.requires.place c.requires.four
