use Rattle.law_manager.proofs.Orders.{answers_law}
use Rattle.law_manager.proofs.laws.each_answer_is_of_its_order.Goals as goal

pub returns : goal.returns
returns c = answers_law
