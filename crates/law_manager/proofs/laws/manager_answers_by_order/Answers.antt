use Rattle.law_manager.proofs.Orders.{order_law}
use Rattle.law_manager.proofs.laws.manager_answers_by_order.Goals as goal

pub returns : goal.returns
returns c = order_law
