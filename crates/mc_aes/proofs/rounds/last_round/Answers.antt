use Rattle.mc_aes.proofs.RoundsLemmas.{last_round_is}
use Rattle.mc_aes.proofs.rounds.last_round.Goals as goal

pub returns : goal.returns
returns c = last_round_is c.args.s c.args.key _ c.last_column.ensures c.last_column-2.ensures c.last_column-3.ensures c.last_column-4.ensures
