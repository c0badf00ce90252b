use Rattle.mc_aes.proofs.RoundsLemmas.{rows_back_is}
use Rattle.mc_aes.proofs.rounds.rows_back.Goals as goal

pub returns : goal.returns
returns c = rows_back_is c.args.s c.args.s _ c.bytes_back.ensures c.bytes_back-2.ensures c.bytes_back-3.ensures c.bytes_back-4.ensures
