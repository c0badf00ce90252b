use Rattle.prove_arrivals.proofs.OutcomeLemmas.{some_call}
use Rattle.prove_arrivals.proofs.rows.are_none.Goals as goal

pub returns-in-len1-up : goal.returns-in-len1-up
returns-in-len1-up c = some_call c.args.calls.now c.in-len1-up.len_at_least
