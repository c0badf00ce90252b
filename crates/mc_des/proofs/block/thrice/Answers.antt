use Rattle.mc_des.proofs.PassLemmas.{thrice_is}
use Rattle.mc_des.proofs.block.thrice.Goals as goal

pub returns : goal.returns
returns c =
    thrice_is _ _ c.args.block c.initial-start.result c.passed.result c.passed-2.result c.passed-3.result c.final_bits.result
    c.initial-start.ensures c.passed.ensures c.passed-2.ensures c.passed-3.ensures c.final_bits.ensures
