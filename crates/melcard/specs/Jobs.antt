-- The jobs that the words of the command line select.
use Rattle.std.specs.Prelude.{ℕ, ◌≤◌, List, [], ◌∷◌, length, nat_le, bytes_eq, codes, cond, string_bytes, Option, Some, None}
use Rattle.std.specs.declared.alloc.Global.{Global}
use Rattle.std.specs.declared.string.String.{String}
use Rattle.mc_text.specs.model_text.specs.Text.{decimal_number}
use Rattle.melcard.specs.declared.job.Job.{Job}
use Rattle.melcard.specs.declared.job.Job.TheVariants as job
use Rattle.melcard.specs.declared.job.Reporting.TheVariants.{Transcript, Trace}
use Rattle.melcard.specs.declared.job.Form.TheVariants.{Code, Listing, Verdicts}

-- the greatest number of a generated deck
abbrev pub greatest_number : ℕ
greatest_number = 2147483647

-- a number that generates a deck
abbrev pub generator_number : Option ℕ → Option ℕ
generator_number None = None
generator_number (Some n) = cond (nat_le n greatest_number) (Some n) None

-- the number that 1 to 10 decimal digits spell, if it generates a deck
abbrev pub generated_number : List ℕ → Option ℕ
generated_number w = cond (nat_le (length w) 10) (generator_number (decimal_number w)) None

-- the job that one word selects
abbrev pub job_named : List ℕ → Option Job
job_named w =
    cond (bytes_eq w (codes "play")) (Some (job.Play Transcript)) (
    cond (bytes_eq w (codes "trace")) (Some (job.Play Trace)) (
    cond (bytes_eq w (codes "asm")) (Some (job.Write Code)) (
    cond (bytes_eq w (codes "list")) (Some (job.Write Listing)) (
    cond (bytes_eq w (codes "check")) (Some (job.Write Verdicts)) None))))

-- the job of a number, if there is one
abbrev pub generating_job : Option ℕ → Option Job
generating_job None = None
generating_job (Some n) = Some (job.Generate n)

-- the job that two words select
abbrev pub job_numbered : List ℕ → List ℕ → Option Job
job_numbered w n = cond (bytes_eq w (codes "gen")) (generating_job (generated_number n)) None

-- the job that the words of the command line select
abbrev pub job_of : List (String Global) → Option Job
job_of [] = None
job_of (w ∷ []) = job_named (string_bytes w)
job_of (w ∷ n ∷ []) = job_numbered (string_bytes w) (string_bytes n)
job_of (w ∷ n ∷ x ∷ ws) = None

-- the number of a job generates a deck
abbrev pub JobFits : Job → Type 0
JobFits (job.Play t) = Unit {0}
JobFits (job.Generate n) = n ≤ greatest_number
JobFits (job.Write f) = Unit {0}

-- the text that is written if the words select no job
abbrev pub usage : List ℕ
usage = codes "usage: melcard play | asm | list | gen N | check | trace\n"
