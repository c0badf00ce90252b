use Rattle.law_steps.proofs.NextFrames.{next_law}
use Rattle.law_steps.proofs.turns_lead_to_the_next_frame.Goals as goal

pub returns : goal.returns
returns c = record { nexts = next_law }
