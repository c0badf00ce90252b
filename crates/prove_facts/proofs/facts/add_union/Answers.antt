use Rattle.std.proofs.lemmas.Result.{on_ok_weaker}
use Rattle.prove_facts.specs.Facts.{fact_of, facts_of}
use Rattle.prove_facts.proofs.CoverLemmas.{first_joined}
use Rattle.prove_facts.proofs.facts.add_union.Goals as goal

pub returns-in-len1-up : goal.returns-in-len1-up
returns-in-len1-up c s =
    on_ok_weaker c.add_both.result
    (λ i. first_joined c.args.rest.now _ (fact_of c.args.fact.now) (facts_of c.args.list.now.items) _ c.in-len1-up.len_at_least s i) c.add_both.ensures
