use Rattle.law_steps.proofs.Replaying.{replay}
use Rattle.law_steps.proofs.lines_give_each_byte.Goals as goal

pub returns : goal.returns
returns c = record { replays = replay }
