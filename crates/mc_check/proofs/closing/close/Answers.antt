use Rattle.model_stack.specs.StackShape.{begins}
use Rattle.mc_check.specs.Closing.{tables_of}
use Rattle.mc_check.proofs.ClosingDone.{started}
use Rattle.mc_check.proofs.ClosingWhole.{whole}
use Rattle.mc_check.proofs.closing.close.Goals as goal

pub add-requires-clause-reached : goal.add-requires-clause-reached
add-requires-clause-reached c = begins

pub work_all-requires-clause-state : goal.work_all-requires-clause-state
work_all-requires-clause-state c =
    started c.args.code.now (tables_of c.in_ok-closing.closing) (tables_of c.add.new.self) c.in_ok-closing.ensures.empty c.in_ok-add.ensures.adds c.in_ok-add.ensures.fit c.in_ok-add.ensures.there

pub returns-clause-whole : goal.returns-clause-whole
returns-clause-whole c = whole c.args.code.now (tables_of c.work_all.new.self) c.in_ok-work_all.ensures.state
