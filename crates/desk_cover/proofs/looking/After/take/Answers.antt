use Rattle.desk_cover.proofs.LookLemmas.{operand_seen}
use Rattle.desk_cover.proofs.looking.After.take.Goals as goal

pub returns-in-Some-clause-operand : goal.returns-in-Some-clause-operand
returns-in-Some-clause-operand g c f code next scene shows lies =
    operand_seen g.N.Nvm.state c.args.scene.now c.args.card.now c.in-Some.chain.now f code c.take_chain.new.self.operand.items next c.in-Some.ensures scene shows lies c.take_chain.ensures.operand
