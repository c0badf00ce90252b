use Rattle.prove_spots.proofs.ListLemmas.{last_below}
use Rattle.prove_spots.proofs.parts.are_below.Goals as goal

pub returns-in-len1-up : goal.returns-in-len1-up
returns-in-len1-up c h = last_below c.list.result.now _ c.args.facts.now c.args.end c.in-len1-up.len_at_least c.list.ensures.sparse c.list.ensures.facts h
