-- The parts of a job, and why a job is not done.
use Rattle.std.specs.Prelude.{◌≡◌, ℕ, List}
use Rattle.mc_base.specs.mc_streams.specs.Streams.{one_more}
use Rattle.mc_deck.specs.model_play.specs.DeckGrammar.{DeckLine}
use Rattle.melcard.specs.declared.job.Job.{Job}
use Rattle.melcard.specs.declared.job.Job.TheVariants as job
use Rattle.melcard.specs.declared.job.Reporting.{Reporting}
use Rattle.melcard.specs.declared.job.Form.{Form}
use Rattle.mc_filter.specs.declared.rejection.Rejection.{Rejection}
use Rattle.mc_filter.specs.declared.rejection.Rejection.TheVariants as rejection
use Rattle.mc_filter.specs.declared.status.Status.{Status}
use Rattle.mc_filter.specs.declared.status.Status.TheVariants.{Done}
use Rattle.melcard.specs.Verdicts.{Whole, Refusal, Plays}
use Rattle.mc_filter.specs.Statuses.{IsWritten}
use Rattle.mc_filter.specs.Outside.{Outside}
use Rattle.melcard.specs.Statuses.{CardOutside, IsDue, IsPlayed, IsReading, TakesAtMost, TakesUntilShort}

-- why a job was not done: a line that refuses its input, one call of its source that failed, or out of memory, in which
-- case none did
abbrev pub RejectsJob : Job → Outside → Rejection → Type 0
RejectsJob job a (rejection.Refusal line) = IsDue job a (Refusal line.items)
RejectsJob job a rejection.ReadFault = IsReading job × (a.input.faults ≡ one_more a.input_old.faults) × TakesAtMost job a
RejectsJob job a rejection.NoMemory = (a.input.faults ≡ a.input_old.faults) × TakesUntilShort job a

-- the deck that an input spells was played
pub record PlaysInput (t : Reporting) (s : Status) (a : CardOutside) : Type 0 where
  pub lines : List (ℕ × DeckLine)
  pub due : IsDue (job.Play t) a.streams (Plays t lines)
  pub played : IsPlayed t lines s a.dev_old a.streams.out_old a.dev a.streams.out a.steps_old a.steps

-- the text of an input was written
pub record WritesInput (f : Form) (s : Status) (a : Outside) : Type 0 where
  pub text : List ℕ
  pub due : IsDue (job.Write f) a (Whole text)
  pub written : IsWritten Done text s a.out_old a.out
