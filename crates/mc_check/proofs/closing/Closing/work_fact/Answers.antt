use Rattle.std.proofs.Common.{rules}
use Rattle.mc_check.specs.Closing.{tables_of}
use Rattle.mc_check.proofs.ClosingDone.{high_done}
use Rattle.mc_check.proofs.closing.Closing.work_fact.Goals as goal

pub returns-then-found-gt-HIGHEST-clause-state : goal.returns-then-found-gt-HIGHEST-clause-state
returns-then-found-gt-HIGHEST-clause-state c =
    high_done c.args.code.now c.args.found (tables_of c.args.self.now) c.requires.state c.requires.here c.requires.found c.if-found-gt-HIGHEST.true (search rules)
