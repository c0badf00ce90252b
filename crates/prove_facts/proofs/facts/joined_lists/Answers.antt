use Rattle.std.proofs.Common.{arith}
use Rattle.prove_facts.specs.Facts.{facts_of}
use Rattle.model_prove.specs.Facts.{join}
use Rattle.prove_facts.proofs.FactLemmas.{drop_fact}
use Rattle.prove_facts.proofs.CoverLemmas.{rest_sparse, turn_of, join_turn}
use Rattle.prove_facts.proofs.facts.joined_lists.Goals as goal

pub loop-fact-preserved : goal.loop-fact-preserved
loop-fact-preserved c s t =
    let inv = c.loop-fact.invariant s t in
    let n = c.from_address-rest.ensures.sparse 0 inv.0 in
    let l = c.args.list.now in
    let g = facts_of c.args.other.now in
    let rest = facts_of c.loop-fact.rest.now in
    let next = facts_of c.from_address-rest.result.now in
    let e = drop_fact l c.loop-fact.fact-index _ (omega arith) in
    let r = rest_sparse (facts_of l) _ c.loop-fact.fact-index _ s e in
    let p = turn_of _ _ g rest next _ e r inv.1 c.from_address-rest.ensures.same n in
    let q = join_turn _ _ (facts_of c.loop-fact.both.items) (facts_of c.add_union.new.list.items) g rest next (join (facts_of l) g) _ e inv.1
    c.from_address-rest.ensures.same (c.in_ok-add_union.ensures n) inv.2 in
    (p.sparse, p.agree, q)
