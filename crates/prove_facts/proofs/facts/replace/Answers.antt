use Rattle.std.proofs.Common.{◌∙◌, sym, ap, List}
use Rattle.prove_facts.specs.declared.facts.Fact.{Fact}
use Rattle.prove_facts.specs.Facts.{fact_of, facts_of}
use Rattle.prove_facts.proofs.FactLemmas.{removed_is, stored_is}
use Rattle.prove_facts.proofs.facts.replace.Goals as goal

pub returns-then-is_all : goal.returns-then-is_all
returns-then-is_all c h =
    ap (λ (l : List Fact). facts_of l) c.remove.ensures.items
    ∙ removed_is c.args.list.now.items c.args.place (fact_of c.args.fact) (sym c.is_all.ensures.set ∙ c.if-is_all.true)

pub returns-else-is_all : goal.returns-else-is_all
returns-else-is_all c h = stored_is c.args.list.now.items c.args.place c.args.fact h (sym c.is_all.ensures.set ∙ c.if-is_all.false)
