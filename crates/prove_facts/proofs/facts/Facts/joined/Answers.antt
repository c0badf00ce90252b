use Rattle.std.proofs.Common.{sym, subst, List}
use Rattle.model_prove.specs.Facts as known
use Rattle.prove_facts.specs.declared.facts.Fact.{Fact}
use Rattle.prove_facts.specs.Facts.{facts_of, AreSparse}
use Rattle.prove_facts.proofs.FactLemmas.{join_sparse}
use Rattle.prove_facts.proofs.facts.Facts.joined.Goals as goal

pub invariant_of-result : goal.invariant_of-result
invariant_of-result c =
    let f = facts_of c.as_slice.result.now in
    let g = facts_of c.list.result.now in
    let s : AreSparse 0 f = subst (λ (l : List Fact). AreSparse 0 (facts_of l)) (sym c.as_slice.ensures.value) c.self.invariant in
    let t : AreSparse 0 g = subst (λ (h : known.Facts). AreSparse 0 h) (sym c.list.ensures.facts) c.list.ensures.sparse in
    subst (λ (h : known.Facts). AreSparse 0 h) (sym (c.in_ok-list.ensures s t)) (join_sparse 0 f g s)
