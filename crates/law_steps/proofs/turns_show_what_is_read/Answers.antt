use Rattle.law_steps.proofs.AfterTurns.{abended_reading, ended_writes, exited_reading, going_reading}
use Rattle.law_steps.proofs.turns_show_what_is_read.Goals as goal

pub returns : goal.returns
returns c = record { after = record { abends = abended_reading; exits = exited_reading; goes = going_reading; quiet = ended_writes } }
