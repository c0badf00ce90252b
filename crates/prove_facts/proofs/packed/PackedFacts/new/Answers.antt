use Rattle.std.proofs.Common.{sym, subst, arith, List, []}
use Rattle.model_prove.specs.Facts as known
use Rattle.prove_facts.specs.declared.facts.Fact.{Fact}
use Rattle.prove_facts.specs.declared.packed.One.{One}
use Rattle.prove_facts.specs.Facts.{facts_of, AreSparse}
use Rattle.prove_facts.specs.Packed.{ones_of}
use Rattle.prove_facts.specs.Packing.{Packs}
use Rattle.prove_facts.proofs.PackedLemmas.{packs_none, packs_turn}
use Rattle.prove_facts.proofs.packed.PackedFacts.new.Goals as goal

pub loop-fact-init : goal.loop-fact-init
loop-fact-init c =
    let f = facts_of c.list-list.result.now in
    subst (λ (l : List One). Packs [] f (ones_of l) (facts_of c.new-sets.result.items)) (sym c.new-ones.ensures.items)
    (subst (λ (l : List Fact). Packs [] f [] (facts_of l)) (sym c.new-sets.ensures.items) (packs_none f))

pub loop-fact-preserved : goal.loop-fact-preserved
loop-fact-preserved c =
    let s = subst (λ (h : known.Facts). AreSparse 0 h) (sym c.list-list.ensures.facts) c.list-list.ensures.sparse in
    packs_turn c.list-list.result.now c.loop-fact.fact-index _ (ones_of c.loop-fact.ones.items) (facts_of c.loop-fact.sets.items) _ _ (omega arith) s c.loop-fact.invariant
    c.in_ok-add_fact.ensures
