use Rattle.mc_des.proofs.ScheduleLemmas.{turned_low, turned_value}
use Rattle.mc_des.proofs.keys.turned.Goals as goal

pub returns : goal.returns
returns c =
    record {
      low = turned_low c.args.half c.args.by c.requires.half c.requires.by;
      value = turned_value c.args.half c.args.by c.requires.half c.requires.by;
    }
