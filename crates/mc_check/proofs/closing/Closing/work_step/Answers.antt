use Rattle.mc_check.specs.Closing.{tables_of, found_fact}
use Rattle.mc_check.proofs.ClosingDone.{on_ok_three, step_done}
use Rattle.mc_check.proofs.closing.Closing.work_step.Goals as goal

pub jump-requires-clause-here : goal.jump-requires-clause-here
jump-requires-clause-here c = c.in_ok-go_on.ensures.adds.kept (found_fact c.args.found) c.requires.here

pub returns-clause-state : goal.returns-clause-state
returns-clause-state c =
    let after = tables_of c.go_on.new.self in
    let went = c.in_ok-go_on.ensures in
    on_ok_three c.jump.result (step_done c.args.code.now c.args.found (tables_of c.args.self.now) c.requires.state c.requires.here c.requires.found after (tables_of c.jump.new.self) c.requires.plain c.requires.stays went.adds went.goes)
    c.jump.ensures.fit c.jump.ensures.adds c.jump.ensures.jumps
