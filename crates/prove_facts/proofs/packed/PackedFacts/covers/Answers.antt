use Rattle.std.proofs.Common.{◌∙◌, ◌≡◌, true, false, sym, ap, subst, refl, List}
use Rattle.model_prove.specs.Facts as known
use Rattle.prove_facts.specs.declared.facts.Fact.{Fact}
use Rattle.prove_facts.specs.declared.packed.One.{One}
use Rattle.prove_facts.specs.Facts.{facts_of, AreSparse}
use Rattle.prove_facts.specs.Packed.{ones_of}
use Rattle.prove_facts.proofs.PackedLemmas.{covers_by}
use Rattle.prove_facts.proofs.packed.PackedFacts.covers.Goals as goal

pub returns-then-ones : goal.returns-then-ones
returns-then-ones c =
    let g = c.args.other.now in
    let os = ones_of c.self.inside.ones.items in
    let ss = facts_of c.self.inside.sets.items in
    let s : AreSparse 0 (ones_of c.as_slice.result.now) = subst (λ (l : List One). AreSparse 0 (ones_of l)) (sym c.as_slice.ensures.value) c.self.invariant.0 in
    let t : AreSparse 0 (facts_of c.list.result.now) = subst (λ (h : known.Facts). AreSparse 0 h) (sym c.list.ensures.facts) c.list.ensures.sparse in
    let u : AreSparse 0 (facts_of c.as_slice-then-ones.result.now) =
    subst (λ (l : List Fact). AreSparse 0 (facts_of l)) (sym c.as_slice-then-ones.ensures.value) c.self.invariant.1 in
    let v : AreSparse 0 (facts_of c.list-then-ones.result.now) =
    subst (λ (h : known.Facts). AreSparse 0 h) (sym c.list-then-ones.ensures.facts) c.list-then-ones.ensures.sparse in
    let i : c.cover_ones-ones.result ≡ known.follow g os =
    c.cover_ones-ones.ensures s t ∙ ap (λ (h : known.Facts). known.follow h (ones_of c.as_slice.result.now)) c.list.ensures.facts
    ∙ ap (λ (l : List One). known.follow g (ones_of l)) c.as_slice.ensures.value in
    let j : c.are_covered.result ≡ known.follow g ss =
    c.are_covered.ensures u v ∙ ap (λ (h : known.Facts). known.follow h (facts_of c.as_slice-then-ones.result.now)) c.list-then-ones.ensures.facts
    ∙ ap (λ (l : List Fact). known.follow g (facts_of l)) c.as_slice-then-ones.ensures.value in
    covers_by g os ss c.args.self.now true c.are_covered.result (sym c.if-ones.true ∙ i) j c.self.view_is

pub returns-else-ones : goal.returns-else-ones
returns-else-ones c =
    let g = c.args.other.now in
    let os = ones_of c.self.inside.ones.items in
    let ss = facts_of c.self.inside.sets.items in
    let s : AreSparse 0 (ones_of c.as_slice.result.now) = subst (λ (l : List One). AreSparse 0 (ones_of l)) (sym c.as_slice.ensures.value) c.self.invariant.0 in
    let t : AreSparse 0 (facts_of c.list.result.now) = subst (λ (h : known.Facts). AreSparse 0 h) (sym c.list.ensures.facts) c.list.ensures.sparse in
    let i : c.cover_ones-ones.result ≡ known.follow g os =
    c.cover_ones-ones.ensures s t ∙ ap (λ (h : known.Facts). known.follow h (ones_of c.as_slice.result.now)) c.list.ensures.facts
    ∙ ap (λ (l : List One). known.follow g (ones_of l)) c.as_slice.ensures.value in
    c.if-ones.false ∙ covers_by g os ss c.args.self.now false (known.follow g ss) (sym c.if-ones.false ∙ i) refl c.self.view_is
