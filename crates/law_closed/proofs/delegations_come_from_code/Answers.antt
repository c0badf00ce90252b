use Rattle.law_family.specs.model_play.specs.Play.{start}
use Rattle.law_closed.proofs.Places.{test_law}
use Rattle.law_closed.proofs.Runs.{runs_law}
use Rattle.law_closed.proofs.Callers.{plays_law}
use Rattle.law_closed.proofs.delegations_come_from_code.Goals as goal

pub returns : goal.returns
returns c = record { code = record { test = test_law; runs = runs_law; plays = λ ls m ws n. plays_law n (start m) ls ws } }
