use Rattle.std.proofs.Common.{◌∙◌, sym}
use Rattle.lab_record.proofs.LogLemmas.{went_well}
use Rattle.lab_record.proofs.recorder.Recorder.see_own.Goals as goal

pub returns-else-is_err-clause-log : goal.returns-else-is_err-clause-log
returns-else-is_err-clause-log c o t public agrees is seen short = went_well c.see.result _ (sym c.is_err.ensures.value ∙ c.if-is_err.false) (c.see.ensures.log o t public agrees is seen)
