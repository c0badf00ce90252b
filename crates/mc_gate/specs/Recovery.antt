-- How a recovery ended, by the result of its call.
use Rattle.std.specs.Prelude.{ℕ, Result, Ok, Err}
use Rattle.mc_words.specs.model_device.specs.Stopped.{RecoveryOutcome, Recovered, Interrupted, BadAt}
use Rattle.mc_gate.specs.declared.failures.Recover.{Recover}
use Rattle.mc_gate.specs.declared.failures.Recover.TheVariants.{Stop as RecoverStop, BadJournal as RecoverBad}

-- the outcome of a recovery, by the result of its call
abbrev pub outcome_of : Result ℕ Recover → RecoveryOutcome
outcome_of (Ok n) = Recovered n
outcome_of (Err (RecoverStop s)) = Interrupted s
outcome_of (Err (RecoverBad p)) = BadAt p
