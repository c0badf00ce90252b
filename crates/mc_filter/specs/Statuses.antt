-- The statuses of a filter, and the status after a text is written.
use Rattle.std.specs.Prelude.{◌≡◌, ℕ, List, Result, Ok, Err}
use Rattle.mc_streams.specs.declared.refusals.WriteFault.{WriteFault as Fault}
use Rattle.mc_text.specs.Texts.{Sunk, Puts}
use Rattle.mc_filter.specs.declared.rejection.Rejection.{Rejection}
use Rattle.mc_filter.specs.declared.rejection.Rejection.TheVariants as rejection
use Rattle.mc_filter.specs.declared.status.Status.{Status}
use Rattle.mc_filter.specs.declared.status.Status.TheVariants.{Done, Failed, NoForm, ReadFault, WriteFault, NoMemory, Partial}

-- the exit status of a program, as a number
abbrev pub number_of : Status → ℕ
number_of Done = 0
number_of Failed = 1
number_of NoForm = 2
number_of ReadFault = 3
number_of WriteFault = 4
number_of NoMemory = 5
number_of Partial = 6

-- the number of a status of which this holds
abbrev pub IsNumberOf : (Status → Type 0) → ℕ → Type 0
IsNumberOf Says n = (s : Status) × (n ≡ number_of s) × Says s

-- the status after a write: the given one, or `WriteFault` if the sink failed
abbrev pub status_after_writing : Status → Result (Unit {0}) Fault → Status
status_after_writing good (Ok u) = good
status_after_writing good (Err f) = WriteFault

-- a text was written, whole or up to a fault
pub record IsWritten (good : Status) (text : List ℕ) (s : Status) (before after : Sunk) : Type 0 where
  pub result : Result (Unit {0}) Fault
  pub status : s ≡ status_after_writing good result
  pub written : Puts before text result after

-- the end of a job that is rejected: the line of a refusal is written, and nothing at a fault of the source or out of
-- memory
abbrev pub RejectionEnds : Rejection → Sunk → Status → Sunk → Type 0
RejectionEnds (rejection.Refusal line) before s after = IsWritten Failed line.items s before after
RejectionEnds rejection.ReadFault before s after = (s ≡ ReadFault) × (after ≡ before)
RejectionEnds rejection.NoMemory before s after = (s ≡ NoMemory) × (after ≡ before)
