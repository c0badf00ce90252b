-- The relation of the top call to its environment at each of its statuses.
use Rattle.std.specs.Prelude.{◌≡◌, ℕ, List, Option, Some, None, Result, ⊤}
use Rattle.mc_deck.specs.model_play.specs.DeckGrammar.{DeckLine}
use Rattle.mc_deck.specs.model_play.specs.Generator.{deck_of_number, summary}
use Rattle.mc_deck.specs.model_play.specs.Play as play
use Rattle.mc_deck.specs.model_play.specs.Play.{Step}
use Rattle.mc_base.specs.mc_streams.specs.declared.refusals.WriteFault.{WriteFault as Fault}
use Rattle.mc_base.specs.mc_streams.specs.declared.sink.Sink as sink
use Rattle.mc_base.specs.mc_streams.specs.declared.source.Source as source
use Rattle.mc_text.specs.Texts.{Sunk}
use Rattle.mc_check.specs.Plays.{KeepToVerdicts}
use Rattle.mc_script.specs.Benches.{bench_at, BenchMembers}
use Rattle.mc_script.specs.Plays.{Bench, plain_text, traced_text}
use Rattle.mc_script.specs.StepCounts.{CountsDeck, CountsSum}
use Rattle.mc_filter.specs.declared.status.Status.{Status}
use Rattle.mc_filter.specs.declared.status.Status.TheVariants.{Done, Failed}
use Rattle.mc_filter.specs.Inputs.{TookLimited}
use Rattle.mc_filter.specs.Statuses.{status_after_writing, IsWritten}
use Rattle.mc_filter.specs.Outside.{outside, AllStands, Completes, IsRead, IsWhole, JobSays, NoJobSays, Outside, SaysDone, SaysNoForm, SaysNoMemory, SaysReadFault, Untouched}
use Rattle.melcard.specs.declared.job.Job.{Job}
use Rattle.melcard.specs.declared.job.Job.TheVariants as job
use Rattle.melcard.specs.declared.job.Form.TheVariants.{Listing}
use Rattle.melcard.specs.declared.job.Reporting.{Reporting}
use Rattle.melcard.specs.declared.job.Reporting.TheVariants.{Transcript, Trace}
use Rattle.melcard.specs.Jobs.{usage}
use Rattle.melcard.specs.Verdicts.{JobVerdict, Whole, Refusal, Plays, Sums, StandsFor}

-- ---- the environment

-- the environment of the call: source and sink, the device, and the number of steps, each before and after it
pub record CardOutside : Type 0 where
  pub streams : Outside
  pub dev_old : Bench
  pub dev : Bench
  pub steps_old : ℕ
  pub steps : ℕ

-- the environment, by the values of a call before and after it
abbrev pub card_outside : {S T N : Type 0} → source.Ghosts S → sink.Ghosts T → BenchMembers N → S → S → T → T → N → N → ℕ → ℕ → CardOutside
card_outside s t n in_old in_new out_old out_new dev_old dev_new steps_old steps =
    record {
      streams = outside s t in_old in_new out_old out_new;
      dev_old = bench_at n dev_old;
      dev = bench_at n dev_new;
      steps_old = steps_old;
      steps = steps;
    }

-- ---- what was read

-- the verdict that a job carries out: by its number, or by the input that was read
abbrev pub IsDue : Job → Outside → JobVerdict → Type 0
IsDue (job.Generate n) a v = Untouched a × (v ≡ Sums (deck_of_number n))
IsDue (job.Play t) a v = IsRead Refusal (StandsFor (job.Play t)) a.input_old a.input v
IsDue (job.Write f) a v = IsRead Refusal (StandsFor (job.Write f)) a.input_old a.input v

-- the bytes that a job takes from its source: none if it generates a deck, and else at most the limit and one byte
-- after it
abbrev pub TakesAtMost : Job → Outside → Type 0
TakesAtMost (job.Generate n) a = Untouched a
TakesAtMost (job.Play t) a = TookLimited a.input_old a.input
TakesAtMost (job.Write f) a = TookLimited a.input_old a.input

-- the bytes that a job has taken from its source when it is out of memory: a listing none, since all its memory is taken
-- before
abbrev pub TakesUntilShort : Job → Outside → Type 0
TakesUntilShort (job.Write Listing) a = Untouched a
TakesUntilShort job a = TakesAtMost job a

-- ---- what was done

-- the output text of a step of a play
abbrev pub text_of_step : Reporting → Step → List ℕ
text_of_step Transcript = plain_text
text_of_step Trace = traced_text

-- A deck was played and its output written, completely or up to a fault, with a step for each executed instruction and
-- those of the searches for room. Accepted code on its card keeps to its verdict.
pub record IsPlayed (t : Reporting) (lines : List (ℕ × DeckLine)) (s : Status) (dev_old : Bench) (out_old : Sunk) (dev : Bench) (out : Sunk) (steps_old steps : ℕ) : Type 0 where
  pub result : Result (Unit {0}) Fault
  pub status : s ≡ status_after_writing Done result
  pub counts : CountsDeck (text_of_step t) lines dev_old out_old result dev out steps_old steps
  pub checked : KeepToVerdicts (play.plays (play.start dev_old.device.words) counts.deck.from.lines counts.deck.from.worn)

-- A deck was played and summarised, completely or up to a fault, with its steps. Accepted code on its card keeps to its
-- verdict.
pub record IsSummed (lines : List (ℕ × DeckLine)) (s : Status) (dev_old : Bench) (out_old : Sunk) (dev : Bench) (out : Sunk) (steps_old steps : ℕ) : Type 0 where
  pub result : Result (Unit {0}) Fault
  pub status : s ≡ status_after_writing Done result
  pub counts : CountsSum summary lines dev_old out_old result dev out steps_old steps
  pub checked : KeepToVerdicts (play.plays (play.start dev_old.device.words) lines counts.deck.worn)

-- the verdict on an input was carried out
abbrev pub IsDone : JobVerdict → Status → CardOutside → Type 0
IsDone (Whole text) s a = IsWritten Done text s a.streams.out_old a.streams.out
IsDone (Refusal line) s a = IsWritten Failed line s a.streams.out_old a.streams.out
IsDone (Plays t lines) s a = IsPlayed t lines s a.dev_old a.streams.out_old a.dev a.streams.out a.steps_old a.steps
IsDone (Sums lines) s a = IsSummed lines s a.dev_old a.streams.out_old a.dev a.streams.out a.steps_old a.steps

-- a device on which nothing is played is unchanged
abbrev pub IsKeptUnlessPlayed : Type 0 → JobVerdict → Type 0
IsKeptUnlessPlayed Kept (Whole text) = Kept
IsKeptUnlessPlayed Kept (Refusal line) = Kept
IsKeptUnlessPlayed Kept (Plays t lines) = ⊤
IsKeptUnlessPlayed Kept (Sums lines) = ⊤

-- ---- statuses: `Kept` states that the device is unchanged

-- a job was done, or its input was refused, or the sink failed
abbrev pub MelcardDone : Type 0 → Job → CardOutside → Status → Type 0
MelcardDone Kept job a s = SaysDone (IsDue job a.streams) (λ (v : JobVerdict). IsDone v s a × IsKeptUnlessPlayed Kept v)

-- a job that reads
abbrev pub IsReading : Job → Type 0
IsReading (job.Play t) = ⊤
IsReading (job.Generate n) = ⊥
IsReading (job.Write f) = ⊤

-- the source of a job that reads failed, and the device is unchanged
abbrev pub MelcardReadFault : Type 0 → Job → CardOutside → Type 0
MelcardReadFault Kept job a = IsReading job × SaysReadFault (TakesAtMost job a.streams) a.streams × Kept

-- out of memory, and the device is unchanged
abbrev pub MelcardNoMemory : Type 0 → Job → CardOutside → Type 0
MelcardNoMemory Kept job a = SaysNoMemory (TakesUntilShort job a.streams) a.streams × Kept

-- the usage line was written, and the device is unchanged
abbrev pub MelcardNoForm : Type 0 → CardOutside → Status → Type 0
MelcardNoForm Kept a s = SaysNoForm usage s a.streams × Kept

-- the meaning of each status, by the job that the words select
abbrev pub MelcardSays : Type 0 → Status → Option Job → CardOutside → Type 0
MelcardSays Kept s (Some job) a = JobSays (MelcardDone Kept job a) (MelcardReadFault Kept job a) (MelcardNoMemory Kept job a) s
MelcardSays Kept s None a = NoJobSays (MelcardNoForm Kept a) s

-- ---- completeness

-- the status if a verdict is carried out completely
abbrev pub status_of : JobVerdict → Status
status_of (Whole text) = Done
status_of (Refusal line) = Failed
status_of (Plays t lines) = Done
status_of (Sums lines) = Done

-- the verdict that a job carries out: by its number, or by all bytes that were left in its source
abbrev pub IsAllDue : Job → Outside → JobVerdict → Type 0
IsAllDue (job.Generate n) a v = v ≡ Sums (deck_of_number n)
IsAllDue (job.Play t) a v = AllStands Refusal (StandsFor (job.Play t)) a.input_old.left v
IsAllDue (job.Write f) a v = AllStands Refusal (StandsFor (job.Write f)) a.input_old.left v

-- all that is due was done
abbrev pub MelcardWhole : Job → CardOutside → Status → Type 0
MelcardWhole job a s = IsWhole (IsAllDue job a.streams) status_of (λ (v : JobVerdict). IsDone v s a) s

-- if no call of source or sink fails, all that is due is done, or the call was out of memory before the first byte of
-- output
abbrev pub MelcardCompletes : Status → Job → CardOutside → Type 0
MelcardCompletes s job a = Completes (MelcardWhole job a s) s a.streams
