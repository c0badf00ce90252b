use Rattle.mc_des.proofs.ScheduleLemmas.{shifts_at, shift_size}
use Rattle.mc_des.proofs.keys.shift_of.Goals as goal

pub returns : goal.returns
returns c = record { value = shifts_at c.args.round c.requires; size = shift_size c.args.round c.requires }
