use Rattle.mc_aes.proofs.RoundsLemmas.{round_is}
use Rattle.mc_aes.proofs.rounds.round.Goals as goal

pub returns : goal.returns
returns c = round_is c.args.s c.args.key _ c.round_column.ensures c.round_column-2.ensures c.round_column-3.ensures c.round_column-4.ensures
