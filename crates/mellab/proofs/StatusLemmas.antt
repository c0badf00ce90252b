-- The meaning of the status with which a job ended.
use Rattle.std.proofs.Common.{◌≡◌, Bool, true, false, Option, Some, None, Result, Ok, Err, IfOk, inl, sym, subst}
use Rattle.mc_streams.specs.declared.refusals.WriteFault.{WriteFault as Fault}
use Rattle.mc_text.specs.Texts.{Puts, Sunk}
use Rattle.mc_filter.specs.Inputs.{TookLimited}
use Rattle.mc_filter.specs.Statuses.{RejectionEnds, status_after_writing}
use Rattle.mc_filter.specs.Outside.{IsRead, Outside, SaysNoForm, SaysNoMemory, SaysReadFault, Untouched}
use Rattle.mc_filter.proofs.Outside as filter
use Rattle.mellab.specs.declared.job.Job.{Job}
use Rattle.mellab.specs.declared.job.Job.TheVariants as job
use Rattle.mc_filter.specs.declared.rejection.Rejection.{Rejection}
use Rattle.mc_filter.specs.declared.rejection.Rejection.TheVariants as rejection
use Rattle.mc_filter.specs.declared.status.Status.{Status}
use Rattle.mc_filter.specs.declared.status.Status.TheVariants.{Done, Failed, NoForm, Partial}
use Rattle.mellab.specs.declared.job.Request.{Request}
use Rattle.mellab.specs.declared.job.Request.TheVariants as request
use Rattle.mellab.specs.Jobs.{usage}
use Rattle.mellab.specs.Verdicts.{LabVerdict, Reports, ReportsPart, Refusal, IsVerdictOfJob}
use Rattle.mellab.specs.Running.{RejectsLabJob}
use Rattle.mellab.specs.Statuses.{status_by, IsTextWritten, MellabDone, MellabEnds, MellabSays, MellabStops}

-- ---- what was done

says_by : (work : Job) (a : Outside) (well : Bool) (r : Result (Unit {0}) Fault) (s : Status) → s ≡ status_after_writing (status_by well) r → MellabDone work a s → MellabEnds work a s
says_by work a true r s e d = filter.says_part (MellabDone work a) (SaysReadFault (TookLimited a.input_old a.input) a) (MellabStops work a) Done r s tt e d
says_by work a false r s e d = filter.says_part (MellabDone work a) (SaysReadFault (TookLimited a.input_old a.input) a) (MellabStops work a) Failed r s tt e d

says_verdict : (work : Job) (a : Outside) (v : LabVerdict) (s : Status) → IsRead Refusal (IsVerdictOfJob work) a.input_old a.input v → IsTextWritten v s a → MellabEnds work a s
says_verdict work a (Reports text well) s due d = says_by work a well d.result s d.status (record { verdict = Reports text well; due = due; done = d })
says_verdict work a (ReportsPart text) s due d =
    filter.says_part (MellabDone work a) (SaysReadFault (TookLimited a.input_old a.input) a) (MellabStops work a) Partial d.result s tt d.status (record { verdict = ReportsPart text; due = due; done = d })
says_verdict work a (Refusal line) s due d = says_by work a false d.result s d.status (record { verdict = Refusal line; due = due; done = d })

-- a verdict whose text was written is the meaning of the status with which its writing ended
says_done : (work : Job) (s : Status) (a : Outside) → MellabDone work a s → MellabEnds work a s
says_done work s a d = says_verdict work a d.verdict s d.due d.done

-- so it is of the status of a job that was not rejected
pub ends_done : {E : Type 0} (work : Job) (a : Outside) (r : Result Status E) → IfOk r (MellabDone work a) → IfOk r (MellabEnds work a)
ends_done work a (Ok s) d = says_done work s a d
ends_done work a (Err e) d = tt

-- ---- what was not done

stops_early : (work : Job) (a : Outside) → SaysNoMemory (TookLimited a.input_old a.input) a → MellabStops work a
stops_early job.Expect a h = h
stops_early job.Sweep a h = h
stops_early (job.Explore depth most) a h = inl h
stops_early job.Prove a h = h

-- a job that was rejected ended
pub says_rejected : (work : Job) (a : Outside) (x : Sunk) (e : Rejection) (s : Status) → RejectsLabJob work (record a { out = x }) e → RejectionEnds e a.out_old s a.out → MellabSays s (Some (request.Do work)) a
says_rejected work a x (rejection.Refusal line) s why ends = says_verdict work a (Refusal line.items) s why ends
says_rejected work a x rejection.ReadFault s why ends = subst (λ s. MellabSays s (Some (request.Do work)) a) (sym ends.0) (record { cause = why.0; source = why.1; written = ends.1 })
says_rejected work a x rejection.NoMemory s why ends = subst (λ s. MellabSays s (Some (request.Do work)) a) (sym ends.0) (stops_early work a (record { quiet = why.0; source = why.1; written = ends.1 }))

-- the words select nothing, and the usage line was written
pub says_no_form : (form : Option Request) (a : Outside) (r : Result (Unit {0}) Fault) (s : Status) → form ≡ None → s ≡ status_after_writing NoForm r → Untouched a → Puts a.out_old usage r a.out → MellabSays s form a
says_no_form form a r s is e still put =
    subst (λ o. MellabSays s o a) (sym is)
    (filter.says_no_job (λ (t : Status). SaysNoForm usage t a) r s e (record { source = still; written = record { result = r; status = e; written = put } }))
