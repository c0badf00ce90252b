use Rattle.std.proofs.Common.{◌∙◌, false}
use Rattle.std.proofs.lemmas.Bool.{ne_eqb}
use Rattle.prove_facts.specs.Facts.{fact_of}
use Rattle.prove_facts.specs.Sets.{set_of}
use Rattle.prove_facts.proofs.SetLemmas.{not_full}
use Rattle.prove_facts.proofs.FactLemmas.{within_by}
use Rattle.prove_facts.proofs.facts.is_fact_within.Goals as goal

pub returns-else-fact-at : goal.returns-else-fact-at
returns-else-fact-at c u =
    let n = ne_eqb c.args.fact.now.at c.args.at c.if-fact-at.false in
    n ∙ within_by false (fact_of c.args.fact.now) c.args.at (set_of c.args.values.now) n (not_full c.args.values.now.words u)
