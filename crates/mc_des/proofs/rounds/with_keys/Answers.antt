use Rattle.mc_des.proofs.PassLemmas.{once_is}
use Rattle.mc_des.proofs.rounds.with_keys.Goals as goal

pub returns : goal.returns
returns c = once_is _ c.args.block c.initial.result c.passed.result c.final_bits.result c.initial.ensures c.passed.ensures c.final_bits.ensures
