-- The program: the job that the words of its command line select, on a blank device, or out of memory for these.
use Rattle.std.specs.Prelude.{◌≡◌, ◌⊎◌, ℕ, List, Option, Result, Ok, Err, IfSome}
use Rattle.std.specs.declared.alloc.Global.{Global}
use Rattle.std.specs.declared.string.String.{String}
use Rattle.std.specs.Global.{Vec}
use Rattle.mc_base.specs.mc_words.specs.model_device.specs.Device.{device_words}
use Rattle.mc_base.specs.mc_words.specs.model_device.specs.declared.memory.NoMemory.{NoMemory as Memory}
use Rattle.mc_nvm.specs.Sim.{blank_sim, Sim}
use Rattle.mc_script.specs.Benches.{bench_at}
use Rattle.mc_filter.specs.declared.status.Status.{Status}
use Rattle.mc_filter.specs.Outside.{Outside}
use Rattle.mc_filter.specs.Programs.{sim_members, IsShort}
use Rattle.mc_filter.specs.Statuses.{IsNumberOf}
use Rattle.mc_filter.specs.Words.{readable_words}
use Rattle.melcard.specs.Jobs.{job_of}
use Rattle.melcard.specs.Statuses.{CardOutside, MelcardCompletes, MelcardSays}

-- source and sink, and a device and the number of steps before and after the call
abbrev pub on_device : Outside → Sim → Sim → ℕ → ℕ → CardOutside
on_device a dev_old dev_new steps_old steps =
    record { streams = a; dev_old = bench_at sim_members dev_old; dev = bench_at sim_members dev_new; steps_old = steps_old; steps = steps }

-- what is done for words, on a blank device of 8,192 words, with the steps after those that were counted before
pub record DoesCardJob (words : List (String Global)) (a : Outside) (steps_old : ℕ) (s : Status) : Type 0 where
  pub dev_old : Sim
  pub dev : Sim
  pub blank : dev_old ≡ blank_sim device_words
  pub steps : ℕ
  pub says : MelcardSays (dev ≡ dev_old) s (job_of words) (on_device a dev_old dev steps_old steps)
  pub completes : IfSome (job_of words) (λ job. MelcardCompletes s job (on_device a dev_old dev steps_old steps))

-- the meaning of the number of the status, by the words, or that memory was out before they were read, or for the
-- device
abbrev pub ProgramSays : Result (Option (Vec (String Global))) Memory → Outside → ℕ → Type 0
ProgramSays (Err e) a n = IsNumberOf (IsShort a) n
ProgramSays (Ok words) a n = IsNumberOf (λ s. DoesCardJob (readable_words words) a 0 s ⊎ IsShort a s) n
