-- The program: what the words of its command line select, or out of memory before they were read.
use Rattle.std.specs.Prelude.{ℕ, List, Option, Result, Ok, Err, IfSome}
use Rattle.std.specs.declared.alloc.Global.{Global}
use Rattle.std.specs.declared.string.String.{String}
use Rattle.std.specs.Global.{Vec}
use Rattle.mc_words.specs.model_device.specs.declared.memory.NoMemory.{NoMemory as Memory}
use Rattle.mc_filter.specs.declared.status.Status.{Status}
use Rattle.mc_filter.specs.Outside.{Outside}
use Rattle.mc_filter.specs.Programs.{IsShort}
use Rattle.mc_filter.specs.Statuses.{IsNumberOf}
use Rattle.mc_filter.specs.Words.{readable_words}
use Rattle.mellab.specs.Jobs.{request_of}
use Rattle.mellab.specs.Statuses.{MellabCompletes, MellabSays}

-- what is done for words
pub record DoesLabJob (words : List (String Global)) (a : Outside) (s : Status) : Type 0 where
  pub says : MellabSays s (request_of words) a
  pub completes : IfSome (request_of words) (λ r. MellabCompletes s r a)

-- the meaning of the number of the status, by the words, or that memory was out before they were read
abbrev pub ProgramSays : Result (Option (Vec (String Global))) Memory → Outside → ℕ → Type 0
ProgramSays (Err e) a n = IsNumberOf (IsShort a) n
ProgramSays (Ok words) a n = IsNumberOf (DoesLabJob (readable_words words) a) n
