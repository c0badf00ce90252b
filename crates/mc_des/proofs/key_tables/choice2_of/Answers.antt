use Rattle.mc_des.proofs.TablesLemmas.{choice2_at}
use Rattle.mc_des.proofs.key_tables.choice2_of.Goals as goal

pub returns : goal.returns
returns c = choice2_at c.args.place c.args.four c.requires.place c.requires.four
