-- The relation of the top call to its environment at each of its statuses.
use Rattle.std.specs.Prelude.{◌≡◌, ◌⊎◌, ℕ, ◌==◌, Bool, true, false, List, Option, Some, None, Result, Ok, Err}
use Rattle.mc_words.specs.model_device.specs.Counts.{Rose}
use Rattle.mc_streams.specs.declared.refusals.WriteFault.{WriteFault as Fault}
use Rattle.mc_filter.specs.declared.status.Status.{Status}
use Rattle.mc_filter.specs.declared.status.Status.TheVariants.{Done, Failed, Partial, WriteFault}
use Rattle.lab_search.specs.Endings.{WritesFront}
use Rattle.mc_filter.specs.Inputs.{ReadWhole, TookLimited}
use Rattle.mc_filter.specs.Statuses.{IsWritten}
use Rattle.mc_filter.specs.Outside.{AllStands, Completes, IsRead, IsWhole, NoJobSays, Outside, PartJobSays, SaysDone, SaysNoForm, SaysNoMemory, SaysReadFault}
use Rattle.mellab.specs.declared.job.Job.{Job}
use Rattle.mellab.specs.declared.job.Job.TheVariants as job
use Rattle.mellab.specs.declared.job.About.{About}
use Rattle.mellab.specs.declared.job.Request.{Request}
use Rattle.mellab.specs.declared.job.Request.TheVariants as request
use Rattle.mellab.specs.Jobs.{about_text, usage}
use Rattle.mellab.specs.Verdicts.{LabVerdict, Reports, ReportsPart, Refusal, text_of_verdict, IsVerdictOfJob}

-- ---- what was read, and what was done

-- the status of a complete text, by whether all that is asked of the deck holds
abbrev pub status_by : Bool → Status
status_by true = Done
status_by false = Failed

-- the status after a report of expectations, by the number that failed
abbrev pub status_after : Result ℕ Fault → Status
status_after (Ok n) = status_by (n == 0)
status_after (Err f) = WriteFault

-- the text of the verdict on an input was written
abbrev pub IsTextWritten : LabVerdict → Status → Outside → Type 0
IsTextWritten (Reports text well) s a = IsWritten (status_by well) text s a.out_old a.out
IsTextWritten (ReportsPart text) s a = IsWritten Partial text s a.out_old a.out
IsTextWritten (Refusal line) s a = IsWritten Failed line s a.out_old a.out

-- a job was done, or its input was refused, or the sink failed
abbrev pub MellabDone : Job → Outside → Status → Type 0
MellabDone job a s = SaysDone (IsRead Refusal (IsVerdictOfJob job) a.input_old a.input) (λ (v : LabVerdict). IsTextWritten v s a)

-- ---- statuses

-- out of memory within an exploration: the input was read to its end, a prefix of the text of a verdict that is due was
-- written, and no call of source or sink failed
pub record StopsWithin (depth most : ℕ) (a : Outside) : Type 0 where
  pub input : List ℕ
  pub read : ReadWhole a.input_old a.input input
  pub verdict : LabVerdict
  pub due : IsVerdictOfJob (job.Explore depth most) input verdict
  pub written : WritesFront a.out_old (text_of_verdict verdict) a.out

-- out of memory: before the first byte was written, or for an exploration within its text
abbrev pub MellabStops : Job → Outside → Type 0
MellabStops job.Expect a = SaysNoMemory (TookLimited a.input_old a.input) a
MellabStops job.Sweep a = SaysNoMemory (TookLimited a.input_old a.input) a
MellabStops (job.Explore depth most) a = SaysNoMemory (TookLimited a.input_old a.input) a ⊎ StopsWithin depth most a
MellabStops job.Prove a = SaysNoMemory (TookLimited a.input_old a.input) a

-- the meaning of each status of a job
abbrev pub MellabEnds : Job → Outside → Status → Type 0
MellabEnds job a s = PartJobSays (MellabDone job a) (SaysReadFault (TookLimited a.input_old a.input) a) (MellabStops job a) s

-- what the program says of itself was written, and the source was not touched
abbrev pub SaysAbout : About → Status → Outside → Type 0
SaysAbout t s a = (a.input ≡ a.input_old) × IsWritten Done (about_text t) s a.out_old a.out

-- the meaning of each status, by what the words select
abbrev pub MellabSays : Status → Option Request → Outside → Type 0
MellabSays s (Some (request.Do job)) a = MellabEnds job a s
MellabSays s (Some (request.Describe t)) a = SaysAbout t s a
MellabSays s None a = NoJobSays (λ (t : Status). SaysNoForm usage t a) s

-- ---- completeness

-- the status if the text of a verdict is written completely
abbrev pub status_of : LabVerdict → Status
status_of (Reports text well) = status_by well
status_of (ReportsPart text) = Partial
status_of (Refusal line) = Failed

-- all that is due was written
abbrev pub MellabWhole : Job → Outside → Status → Type 0
MellabWhole job a s = IsWhole (AllStands Refusal (IsVerdictOfJob job) a.input_old.left) status_of (λ (v : LabVerdict). IsTextWritten v s a) s

-- if no call of source or sink fails, all that is due is written, or the call was out of memory
abbrev pub MellabCompletes : Status → Request → Outside → Type 0
MellabCompletes s (request.Do job) a = Completes (MellabWhole job a s) s a
MellabCompletes s (request.Describe t) a = (Rose a.out_old.faults a.out.faults → ⊥) → s ≡ Done
