use Rattle.std.proofs.Common.{◌∙◌, sym, ap, List}
use Rattle.prove_facts.specs.declared.facts.Fact.{Fact}
use Rattle.prove_facts.specs.Facts.{facts_of}
use Rattle.prove_facts.proofs.FactLemmas.{inserted_is}
use Rattle.prove_facts.proofs.facts.insert.Goals as goal

pub returns-in-Ok-clause-ok : goal.returns-in-Ok-clause-ok
returns-in-Ok-clause-ok c h =
    ap (λ (l : List Fact). facts_of l) c.in-Ok.ensures.items
    ∙ inserted_is c.args.list.now.items c.args.place c.args.fact (sym c.is_all.ensures.set ∙ c.if-is_all.false)
