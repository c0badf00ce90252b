use Rattle.std.proofs.Common.{◌∙◌, Bool, ap, sym}
use Rattle.lab_record.specs.Logs.{log_own}
use Rattle.lab_record.specs.Recorders.{log_of, log_rules}
use Rattle.lab_record.proofs.recorder.Recorder.see_if.Goals as goal

pub returns-then-own-clause-log : goal.returns-then-own-clause-log
returns-then-own-clause-log c o t public agrees is seen short =
    c.see_own.ensures.log o t public agrees is (seen c.if-own.true (c.see_own.ensures.had short)) short
    ∙ ap (λ (own : Bool). log_own own (log_rules c.args.self.now.rules.now) c.args.on public t (log_of c.args.self.now)) (sym c.if-own.true)
