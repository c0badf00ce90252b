use Rattle.std.proofs.Common.{◌∙◌, sym, ap, subst, List}
use Rattle.model_prove.specs.Facts as known
use Rattle.prove_facts.specs.declared.facts.Fact.{Fact}
use Rattle.prove_facts.specs.declared.packed.One.{One}
use Rattle.prove_facts.specs.Facts.{facts_of, AreSparse}
use Rattle.prove_facts.specs.Packed.{ones_of, among, AreApart}
use Rattle.prove_facts.proofs.PackedLemmas.{sparse_among}
use Rattle.prove_facts.proofs.packed.PackedFacts.facts.Goals as goal

pub invariant_of-result : goal.invariant_of-result
invariant_of-result c =
    let a = sym c.as_slice.ensures.value in
    let b = sym c.as_slice-2.ensures.value in
    let s : AreSparse 0 (ones_of c.as_slice.result.now) = subst (λ (l : List One). AreSparse 0 (ones_of l)) a c.self.invariant.0 in
    let t : AreSparse 0 (facts_of c.as_slice-2.result.now) = subst (λ (l : List Fact). AreSparse 0 (facts_of l)) b c.self.invariant.1 in
    let u : AreApart (ones_of c.as_slice.result.now) (facts_of c.as_slice-2.result.now) =
    subst (λ (l : List One). AreApart (ones_of l) (facts_of c.as_slice-2.result.now)) a
    (subst (λ (l : List Fact). AreApart (ones_of c.self.inside.ones.items) (facts_of l)) b c.self.invariant.2) in
    subst (λ (h : known.Facts). AreSparse 0 h) (sym (c.in_ok-list.ensures s t u)) (sparse_among 0 (ones_of c.as_slice.result.now) (facts_of c.as_slice-2.result.now) s t u)

pub returns : goal.returns
returns c =
    let a = sym c.as_slice.ensures.value in
    let b = sym c.as_slice-2.ensures.value in
    let s : AreSparse 0 (ones_of c.as_slice.result.now) = subst (λ (l : List One). AreSparse 0 (ones_of l)) a c.self.invariant.0 in
    let t : AreSparse 0 (facts_of c.as_slice-2.result.now) = subst (λ (l : List Fact). AreSparse 0 (facts_of l)) b c.self.invariant.1 in
    let u : AreApart (ones_of c.as_slice.result.now) (facts_of c.as_slice-2.result.now) =
    subst (λ (l : List One). AreApart (ones_of l) (facts_of c.as_slice-2.result.now)) a
    (subst (λ (l : List Fact). AreApart (ones_of c.self.inside.ones.items) (facts_of l)) b c.self.invariant.2) in
    c.in_ok-list.ensures s t u
    ∙ ap (λ (l : List One). among (ones_of l) (facts_of c.as_slice-2.result.now)) (sym a)
    ∙ ap (λ (l : List Fact). among (ones_of c.self.inside.ones.items) (facts_of l)) (sym b)
    ∙ c.self.view_is
