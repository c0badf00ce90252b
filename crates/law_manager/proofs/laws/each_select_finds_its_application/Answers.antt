use Rattle.law_manager.proofs.OnCard.{selects_law}
use Rattle.law_manager.proofs.laws.each_select_finds_its_application.Goals as goal

pub returns : goal.returns
returns c = selects_law
