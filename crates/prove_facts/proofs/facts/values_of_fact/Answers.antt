use Rattle.std.proofs.Common.{◌∙◌, sym, arith}
use Rattle.prove_facts.specs.Facts.{fact_of}
use Rattle.prove_facts.proofs.SetLemmas.{full_is}
use Rattle.prove_facts.proofs.FactLemmas.{other_at}
use Rattle.prove_facts.proofs.facts.values_of_fact.Goals as goal

pub returns : goal.returns
returns c = full_is ∙ sym (other_at (fact_of c.args.fact.now) c.args.at (λ i. omega (arith, i)))
