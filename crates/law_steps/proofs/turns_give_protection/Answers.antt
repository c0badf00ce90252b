use Rattle.law_steps.proofs.Opens.{opens_law}
use Rattle.law_steps.proofs.turns_give_protection.Goals as goal

pub returns : goal.returns
returns c = record { opens = opens_law }
