-- The source and the sink of a program, and its promises about them at each of its statuses. The type V is that of a
-- program's verdicts on an input, of which a refusal by a line is one; the program supplies which verdicts an input
-- has, which is due, and when a verdict is done.
use Rattle.std.specs.Prelude.{◌≡◌, ℕ, ◌≤◌, ◌<◌, ◌⊎◌, List, length, Option}
use Rattle.model_device.specs.Counts.{Rose}
use Rattle.mc_streams.specs.Streams.{one_more, TookMore}
use Rattle.mc_streams.specs.declared.sink.Sink as sink
use Rattle.mc_streams.specs.declared.source.Source as source
use Rattle.mc_text.specs.Texts.{sunk, Sunk}
use Rattle.mc_filter.specs.declared.status.Status.{Status}
use Rattle.mc_filter.specs.declared.status.Status.TheVariants.{Done, Failed, NoForm, ReadFault, WriteFault, NoMemory, Partial}
use Rattle.mc_filter.specs.Inputs.{input_limit, stream, IsAll, ReadsLimited, ReadWhole, Stream}
use Rattle.mc_filter.specs.Lines.{too_long}
use Rattle.mc_filter.specs.Statuses.{IsWritten}

-- ---- the outside

-- source and sink before and after the call
pub record Outside : Type 0 where
  pub input_old : Stream
  pub input : Stream
  pub out_old : Sunk
  pub out : Sunk

-- the outside of a call, from its values before and after it
abbrev pub outside : {S T : Type 0} → source.Ghosts S → sink.Ghosts T → S → S → T → T → Outside
outside s t in_old in_new out_old out_new =
    record {
      input_old = stream s in_old;
      input = stream s in_new;
      out_old = sunk t out_old;
      out = sunk t out_new;
    }

-- the source was not called
abbrev pub Untouched : Outside → Type 0
Untouched a = a.input ≡ a.input_old

-- no call of source or sink failed
pub record IsWithoutFault (a : Outside) : Type 0 where
  pub reads : Rose a.input_old.faults a.input.faults → ⊥
  pub writes : Rose a.out_old.faults a.out.faults → ⊥

-- ---- the verdict on an input

-- the input was read to its end and has the verdict v
pub record InputStands {V : Type 0} (Stand : List ℕ → V → Type 0) (a b : Stream) (v : V) : Type 0 where
  pub input : List ℕ
  pub read : ReadWhole a b input
  pub is : Stand input v

-- the input is too long: more was read than the limit, and at most one byte after it, and no call failed; the verdict
-- is its refusal
pub record IsTooLong {V : Type 0} (refusal : List ℕ → V) (a b : Stream) (v : V) : Type 0 where
  pub over : TookMore a.left b.left input_limit
  pub no_further : ReadsLimited a b
  pub is : v ≡ refusal too_long

-- the verdict v on what was read: too long, or a verdict of the input
abbrev pub IsRead : {V : Type 0} → (List ℕ → V) → (List ℕ → V → Type 0) → Stream → Stream → V → Type 0
IsRead refusal Stand a b v = IsTooLong refusal a b v ⊎ InputStands Stand a b v

-- the verdict on all that a source had left
pub data AllStands {V : Type 0} (refusal : List ℕ → V) (Stand : List ℕ → V → Type 0) (left : Option (List ℕ)) : V → Type 0 where
  long : (input : List ℕ) → IsAll left input → input_limit < length input → AllStands refusal Stand left (refusal too_long)
  short : (input : List ℕ) (v : V) → IsAll left input → length input ≤ input_limit → Stand input v → AllStands refusal Stand left v

-- ---- statuses

-- at the statuses `Done`, `Failed`, `Partial` and `WriteFault`: there is a verdict that is due, and it was done
pub record SaysDone {V : Type 0} (Due Did : V → Type 0) : Type 0 where
  pub verdict : V
  pub due : Due verdict
  pub done : Did verdict

-- at the status `ReadFault`: one call of the source failed, after no more was read than `Took` states, and nothing was
-- written
pub record SaysReadFault (Took : Type 0) (a : Outside) : Type 0 where
  pub cause : a.input.faults ≡ one_more a.input_old.faults
  pub source : Took
  pub written : a.out ≡ a.out_old

-- at the status `NoMemory`: out of memory before the first byte was written, after no more was read than `Took` states;
-- no call of the source failed
pub record SaysNoMemory (Took : Type 0) (a : Outside) : Type 0 where
  pub quiet : a.input.faults ≡ a.input_old.faults
  pub source : Took
  pub written : a.out ≡ a.out_old

-- at the status of the usage line: it was written, and the source was not touched
pub record SaysNoForm (usage : List ℕ) (s : Status) (a : Outside) : Type 0 where
  pub source : Untouched a
  pub written : IsWritten NoForm usage s a.out_old a.out

-- the promise at each status of a job: it was done with this status, the source failed, or out of memory; a status that
-- never comes has the empty promise
abbrev pub JobSays : (Status → Type 0) → Type 0 → Type 0 → Status → Type 0
JobSays Did Fault Short ReadFault = Fault
JobSays Did Fault Short NoMemory = Short
JobSays Did Fault Short NoForm = ⊥
JobSays Did Fault Short Done = Did Done
JobSays Did Fault Short Failed = Did Failed
JobSays Did Fault Short WriteFault = Did WriteFault
JobSays Did Fault Short Partial = ⊥

-- the same for a job that may also be done in part: all of its text is written then, too
abbrev pub PartJobSays : (Status → Type 0) → Type 0 → Type 0 → Status → Type 0
PartJobSays Did Fault Short ReadFault = Fault
PartJobSays Did Fault Short NoMemory = Short
PartJobSays Did Fault Short NoForm = ⊥
PartJobSays Did Fault Short Done = Did Done
PartJobSays Did Fault Short Failed = Did Failed
PartJobSays Did Fault Short WriteFault = Did WriteFault
PartJobSays Did Fault Short Partial = Did Partial

-- the promise at each status if the arguments select no job
abbrev pub NoJobSays : (Status → Type 0) → Status → Type 0
NoJobSays Wrote ReadFault = ⊥
NoJobSays Wrote NoMemory = ⊥
NoJobSays Wrote Done = ⊥
NoJobSays Wrote Failed = ⊥
NoJobSays Wrote NoForm = Wrote NoForm
NoJobSays Wrote WriteFault = Wrote WriteFault
NoJobSays Wrote Partial = ⊥

-- ---- completeness

-- a verdict that is due was done whole, with its status
pub record IsWhole {V : Type 0} (Due : V → Type 0) (good : V → Status) (Did : V → Type 0) (s : Status) : Type 0 where
  pub verdict : V
  pub due : Due verdict
  pub status : s ≡ good verdict
  pub done : Did verdict

-- if no call of source or sink fails, `Whole` holds, or the status is `NoMemory`
abbrev pub Completes : Type 0 → Status → Outside → Type 0
Completes Whole s a = IsWithoutFault a → Whole ⊎ (s ≡ NoMemory)
