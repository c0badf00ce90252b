use Rattle.mc_aes.proofs.RoundsLemmas.{round_back_is, mixed_back_is}
use Rattle.mc_aes.proofs.rounds.round_back.Goals as goal

pub returns : goal.returns
returns c =
    round_back_is c.args.s c.args.key _ _ _ c.add-sum.ensures
    (mixed_back_is c.add-sum.result c.add-sum.result _ c.mixed_back.ensures c.mixed_back-2.ensures c.mixed_back-3.ensures c.mixed_back-4.ensures)
    c.rows_back.ensures
