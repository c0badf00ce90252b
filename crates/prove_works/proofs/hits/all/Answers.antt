use Rattle.prove_facts.proofs.SetLemmas.{full_is}
use Rattle.prove_works.proofs.hits.all.Goals as goal

pub returns : goal.returns
returns c = full_is
