use Rattle.std.proofs.Common.{ap}
use Rattle.lab_record.specs.Recorders.{log_of, log_rules}
use Rattle.lab_record.proofs.LogLemmas.{done_on_ok, not_abend}
use Rattle.lab_record.proofs.recorder.Recorder.see.Goals as goal

pub returns-in-Some-Reply-clause-log : goal.returns-in-Some-Reply-clause-log
returns-in-Some-Reply-clause-log c o t public agrees is seen =
    done_on_ok c.see_done.result (log_of c.see_done.new.self) (log_rules c.args.self.now.rules.now) c.args.on public t c.args.turn.now.end o (log_of c.args.self.now) (not_abend c.args.turn.now.end c.in-Some-Reply.field-0 c.in-Some-Reply.is (rw c.in-Some-Reply.is at c.in-Some-Reply.field-0-is)) agrees (ap (λ u. u.end) is)
    (c.see_done.ensures.log o t public is seen)

pub returns-in-None-clause-log : goal.returns-in-None-clause-log
returns-in-None-clause-log c o t public agrees is seen =
    done_on_ok c.see_done-in-None.result (log_of c.see_done-in-None.new.self) (log_rules c.args.self.now.rules.now) c.args.on public t c.args.turn.now.end o (log_of c.args.self.now) (λ a e. cc (c.in-None.is, e)) agrees (ap (λ u. u.end) is)
    (c.see_done-in-None.ensures.log o t public is seen)
