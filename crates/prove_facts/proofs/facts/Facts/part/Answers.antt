use Rattle.std.proofs.Common.{◌∙◌, sym, ap, subst, arith, List}
use Rattle.model_prove.specs.Facts as known
use Rattle.prove_facts.specs.declared.facts.Fact.{Fact}
use Rattle.prove_facts.specs.Facts.{facts_of, AreSparse}
use Rattle.prove_facts.proofs.FactLemmas.{sparse_lower, sparse_within}
use Rattle.prove_facts.proofs.facts.Facts.part.Goals as goal

pub invariant_of-result : goal.invariant_of-result
invariant_of-result c =
    let f = facts_of c.as_slice.result.now in
    let s : AreSparse 0 f = subst (λ (l : List Fact). AreSparse 0 (facts_of l)) (sym c.as_slice.ensures.value) c.self.invariant in
    subst (λ (g : known.Facts). AreSparse 0 g) (sym (ap (λ (l : List Fact). facts_of l) c.in_ok-from_slice.ensures.items ∙ c.part_of.ensures s))
    (sparse_lower 0 c.args.from (known.within c.args.from c.args.to f) (omega arith) (sparse_within c.args.from c.args.to f 0 s))
