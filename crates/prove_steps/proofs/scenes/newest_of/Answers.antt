use Rattle.prove_steps.proofs.SceneLemmas.{newest_is_last}
use Rattle.prove_steps.proofs.scenes.newest_of.Goals as goal

pub returns-in-len1-up : goal.returns-in-len1-up
returns-in-len1-up c = newest_is_last c.args.calls.now (record { end = 0; lb = 0; place = 0 }) c.in-len1-up.len_at_least
