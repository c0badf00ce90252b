-- The program: the job that the words of its command line select, on a blank device, or out of memory for these.
use Rattle.std.specs.Prelude.{◌≡◌, ◌⊎◌, ℕ, List, Option, Result, Ok, Err}
use Rattle.std.specs.declared.alloc.Global.{Global}
use Rattle.std.specs.declared.string.String.{String}
use Rattle.std.specs.Global.{Vec}
use Rattle.mc_words.specs.model_device.specs.Device.{device_words}
use Rattle.mc_words.specs.model_device.specs.declared.memory.NoMemory.{NoMemory as Memory}
use Rattle.mc_nvm.specs.Sim.{blank_sim, Sim}
use Rattle.mc_script.specs.Benches.{bench_at}
use Rattle.mc_streams.specs.declared.sink.Sink as sink
use Rattle.mc_streams.specs.declared.source.Source as source
use Rattle.mc_text.specs.Texts.{sunk, Sunk}
use Rattle.mc_filter.specs.declared.status.Status.{Status}
use Rattle.mc_filter.specs.Outside.{outside, Outside}
use Rattle.mc_filter.specs.Programs.{sim_members, IsShort}
use Rattle.mc_filter.specs.Statuses.{IsNumberOf}
use Rattle.mc_filter.specs.Words.{readable_words}
use Rattle.meldesk.specs.Jobs.{job_of}
use Rattle.meldesk.specs.Statuses.{DeskOutside, MeldeskCompletes, MeldeskSays}

-- source and sinks before and after the call
pub record Streams : Type 0 where
  pub plain : Outside
  pub err_old : Sunk
  pub err : Sunk

-- source and sinks of a call, from their values before and after it
abbrev pub streams : {S T E : Type 0} → source.Ghosts S → sink.Ghosts T → sink.Ghosts E → S → S → T → T → E → E → Streams
streams s t e in_old in_new out_old out_new err_old err_new =
    record { plain = outside s t in_old in_new out_old out_new; err_old = sunk e err_old; err = sunk e err_new }

-- source and sinks, and a device before and after the call
abbrev pub on_device : Streams → Sim → Sim → DeskOutside
on_device a dev_old dev_new =
    record { streams = a.plain; err_old = a.err_old; err = a.err; dev_old = bench_at sim_members dev_old; dev = bench_at sim_members dev_new }

-- what is done for words, on a blank device of 8,192 words
pub record DoesDeskJob (words : List (String Global)) (a : Streams) (s : Status) : Type 0 where
  pub dev_old : Sim
  pub dev : Sim
  pub blank : dev_old ≡ blank_sim device_words
  pub says : MeldeskSays (dev ≡ dev_old) s (job_of words) (on_device a dev_old dev)
  pub completes : MeldeskCompletes (dev ≡ dev_old) s (job_of words) (on_device a dev_old dev)

-- out of memory before anything was read or written
abbrev pub IsShortOf : Streams → Status → Type 0
IsShortOf a s = IsShort a.plain s × (a.err ≡ a.err_old)

-- the meaning of the number of the status, by the words, or that memory was out before they were read, or for the
-- device
abbrev pub ProgramSays : Result (Option (Vec (String Global))) Memory → Streams → ℕ → Type 0
ProgramSays (Err e) a n = IsNumberOf (IsShortOf a) n
ProgramSays (Ok words) a n = IsNumberOf (λ s. DoesDeskJob (readable_words words) a s ⊎ IsShortOf a s) n
