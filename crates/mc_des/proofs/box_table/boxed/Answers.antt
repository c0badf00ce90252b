use Rattle.mc_des.proofs.TablesLemmas.{boxes_at}
use Rattle.mc_des.proofs.box_table.boxed.Goals as goal

pub returns : goal.returns
returns c = boxes_at c.args.number c.args.six c.requires.number c.requires.six
