use Rattle.law_manager.proofs.OnCard.{commands_law}
use Rattle.law_manager.proofs.laws.each_command_is_of_its_order.Goals as goal

pub returns : goal.returns
returns c = commands_law
