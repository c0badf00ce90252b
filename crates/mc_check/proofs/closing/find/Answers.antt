use Rattle.std.proofs.Common.{sym}
use Rattle.mc_check.specs.Table.{fact_of}
use Rattle.mc_check.proofs.FactLooks.{refuses_bad}
use Rattle.mc_check.proofs.closing.find.Goals as goal

pub returns-in-Err-clause-due : goal.returns-in-Err-clause-due
returns-in-Err-clause-due c =
    rw c.refusal.ensures (λ session. refuses_bad c.args.code.now session (fact_of c.args.place c.args.entry) c.in-Err.cause c.requires.reached (sym c.in-Err.ensures.seen))
