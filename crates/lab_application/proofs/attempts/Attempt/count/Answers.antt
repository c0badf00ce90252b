use Rattle.std.proofs.Common.{refl}
use Rattle.lab_search.proofs.AttemptLemmas.{keeps_self}
use Rattle.lab_application.proofs.SearchLemmas.{on_ok}
use Rattle.lab_application.proofs.attempts.Attempt.count.Goals as goal

pub returns-in-Some : goal.returns-in-Some
returns-in-Some c = record { keeps = keeps_self c.args.search.now.laboratory c.args.search.now.rosters; room = refl; states = refl; steps = refl }

pub returns : goal.returns
returns c = on_ok c.stands.result _ (record { keeps = keeps_self c.args.search.now.laboratory c.args.search.now.rosters; room = refl; states = refl; steps = refl })
