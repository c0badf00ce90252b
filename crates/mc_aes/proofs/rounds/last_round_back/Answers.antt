use Rattle.mc_aes.proofs.RoundsLemmas.{last_round_back_is}
use Rattle.mc_aes.proofs.rounds.last_round_back.Goals as goal

pub returns : goal.returns
returns c = last_round_back_is c.args.s c.args.key _ _ c.add.ensures c.rows_back.ensures
