-- What is requested is complete if no call of source or sink fails.
use Rattle.std.proofs.Common.{◌≡◌, ℕ, Option, Some, None, IfSome, subst}
use Rattle.mc_words.specs.model_device.specs.Counts.{Rose}
use Rattle.mc_filter.proofs.Statuses.{same_status, written_whole}
use Rattle.mc_filter.proofs.Outside.{all_stands, complete_part}
use Rattle.mc_filter.specs.Inputs.{TookLimited}
use Rattle.mc_filter.specs.Statuses.{number_of}
use Rattle.mc_filter.specs.Outside.{IsWithoutFault, Outside, SaysReadFault}
use Rattle.mellab.specs.declared.job.Job.{Job}
use Rattle.mc_filter.specs.declared.status.Status.{Status}
use Rattle.mc_filter.specs.declared.status.Status.TheVariants.{Done, Failed, Partial}
use Rattle.mellab.specs.declared.job.Request.{Request}
use Rattle.mellab.specs.declared.job.Request.TheVariants as request
use Rattle.mellab.specs.Jobs.{about_text}
use Rattle.mellab.specs.Verdicts.{LabVerdict, Reports, ReportsPart, Refusal, IsVerdictOfJob}
use Rattle.mellab.specs.Statuses.{status_by, status_of, IsTextWritten, MellabCompletes, MellabDone, MellabStops, MellabWhole, MellabSays}

-- the text of the verdict was written completely
done_whole : (v : LabVerdict) (s : Status) (a : Outside) → (Rose a.out_old.faults a.out.faults → ⊥) → IsTextWritten v s a → s ≡ status_of v
done_whole (Reports text well) s a quiet d = written_whole a.out_old a.out text (status_by well) s d.result quiet d.status d.written
done_whole (ReportsPart text) s a quiet d = written_whole a.out_old a.out text Partial s d.result quiet d.status d.written
done_whole (Refusal line) s a quiet d = written_whole a.out_old a.out line Failed s d.result quiet d.status d.written

whole : (work : Job) (a : Outside) (s : Status) → IsWithoutFault a → MellabDone work a s → MellabWhole work a s
whole work a s quiet says =
    record {
      verdict = says.verdict;
      due = all_stands Refusal (IsVerdictOfJob work) a.input_old a.input says.verdict says.due;
      status = done_whole says.verdict s a quiet.writes says.done;
      done = says.done;
    }

completes : (s : Status) (r : Request) (a : Outside) → MellabSays s (Some r) a → MellabCompletes s r a
completes s (request.Describe t) a says =
    let w = says.1 in
    λ quiet. written_whole a.out_old a.out (about_text t) Done s w.result quiet w.status w.written
completes s (request.Do work) a says =
    complete_part (MellabDone work a) (MellabWhole work a) (SaysReadFault (TookLimited a.input_old a.input) a) (MellabStops work a) a s (whole work a) (λ f. f.cause) says

-- what the words select is complete at the number of a status
pub complete_at : (form : Option Request) (s t : Status) (a : Outside) (n : ℕ) → n ≡ number_of s → n ≡ number_of t → MellabSays s form a → IfSome form (λ r. MellabCompletes t r a)
complete_at None s t a n e f says = tt
complete_at (Some r) s t a n e f says = subst (λ t. MellabCompletes t r a) (same_status s t n e f) (completes s r a says)
