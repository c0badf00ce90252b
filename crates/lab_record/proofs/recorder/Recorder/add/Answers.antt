use Rattle.std.proofs.Common.{ℕ, List, ap, ◌∙◌}
use Rattle.std.proofs.lemmas.Result.{on_ok_weaker}
use Rattle.lab_record.specs.Logs.{DeedValue, values_of}
use Rattle.lab_record.specs.Recorders.{log_of}
use Rattle.lab_record.proofs.LogLemmas.{values_last}
use Rattle.lab_record.proofs.recorder.Recorder.add.Goals as goal

pub returns-clause-log : goal.returns-clause-log
returns-clause-log c =
    on_ok_weaker c.push.result (λ e.
    ap (λ (ds : List (ℕ × DeedValue)). record (log_of c.args.self.now) { deeds = ds })
    (ap values_of e ∙ values_last c.args.self.now.deeds.items (record { turn = c.args.self.now.turns; deed = c.args.deed }))) c.push.ensures.items
