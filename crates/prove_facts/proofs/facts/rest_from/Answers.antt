use Rattle.prove_facts.proofs.FactLemmas.{slice_rest}
use Rattle.prove_facts.proofs.facts.rest_from.Goals as goal

pub returns : goal.returns
returns c = slice_rest c.args.list.now c.args.place
