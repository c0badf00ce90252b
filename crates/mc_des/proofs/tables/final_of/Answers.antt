use Rattle.mc_des.proofs.TablesLemmas.{final_at}
use Rattle.mc_des.proofs.tables.final_of.Goals as goal

pub returns : goal.returns
returns c = final_at c.args.place c.args.four c.requires.place c.requires.four
