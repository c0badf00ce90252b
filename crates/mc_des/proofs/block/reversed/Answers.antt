use Rattle.std.proofs.Common.{◌∙◌, ap, map}
use Rattle.mc_des.specs.Words.{key_bits}
use Rattle.mc_des.proofs.DesLemmas.{map_reverse}
use Rattle.mc_des.proofs.block.reversed.Goals as goal

pub returns : goal.returns
returns c = ap (map key_bits) c.reverse.ensures.after ∙ map_reverse key_bits c.args.keys
