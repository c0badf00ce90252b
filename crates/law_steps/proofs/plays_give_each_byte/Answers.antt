use Rattle.law_steps.proofs.ChainSizes.{sizes_law}
use Rattle.law_steps.proofs.PlaySessions.{plays_replay}
use Rattle.law_steps.proofs.plays_give_each_byte.Goals as goal

pub returns : goal.returns
returns c = record { sizes = sizes_law; plays = plays_replay }
