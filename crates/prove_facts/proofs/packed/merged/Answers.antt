use Rattle.std.proofs.Common.{◌∙◌, ◌++◌, ◌≡◌, sym, ap, arith, List, [], drop}
use Rattle.std.proofs.lemmas.List.{map-append, drop_all, length-map}
use Rattle.model_prove.specs.Facts as known
use Rattle.prove_facts.specs.declared.facts.Fact.{Fact}
use Rattle.prove_facts.specs.Facts.{fact_of, facts_of}
use Rattle.prove_facts.specs.Packed.{one_of, ones_of, among}
use Rattle.prove_facts.proofs.CoverLemmas.{rest_sparse}
use Rattle.prove_facts.proofs.PackedLemmas.{drop_one, merge_step}
use Rattle.prove_facts.proofs.packed.merged.Goals as goal

pub loop-one-preserved : goal.loop-one-preserved
loop-one-preserved c s t u =
    let inv = c.loop-one.invariant s t u in
    let e = drop_one c.args.ones.now c.loop-one.one-index _ (omega arith) in
    let r = rest_sparse (ones_of c.args.ones.now) _ c.loop-one.one-index _ s e in
    let p = merge_step _ _ _ (among (ones_of c.args.ones.now) (facts_of c.args.sets.now)) c.loop-one.rest.now c.loop-one.list.items c.extend_from_slice.new.self.items
    c.push.new.list.items _ _ c.passed-before.result e r inv.1 c.passed-before.ensures.below (c.passed-before.ensures.above 0 inv.0)
    c.in_ok-extend_from_slice.ensures.items c.in_ok-push.ensures c.fact_of_one.ensures c.rest_from-rest.ensures inv.2 in
    (p.sparse, p.apart, p.same)

pub returns : goal.returns
returns c s t u =
    let inv = c.loop-one.invariant s t u in
    let z : drop c.loop-one.one-index (ones_of c.args.ones.now) ≡ [] =
    drop_all c.loop-one.one-index (ones_of c.args.ones.now) (omega (arith, length-map c.args.ones.now one_of)) in
    ap (λ (l : List Fact). facts_of l) c.in_ok-extend_from_slice-2.ensures.items ∙ map-append fact_of c.loop-one.list.items c.loop-one.rest.now
    ∙ ap (λ (g : known.Facts). facts_of c.loop-one.list.items ++ among g (facts_of c.loop-one.rest.now)) (sym z) ∙ inv.2
