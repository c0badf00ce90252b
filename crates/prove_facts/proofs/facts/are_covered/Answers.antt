use Rattle.std.proofs.Common.{◌∙◌, true, false, sym, arith}
use Rattle.prove_facts.specs.Facts.{facts_of}
use Rattle.prove_facts.proofs.FactLemmas.{drop_fact}
use Rattle.prove_facts.proofs.CoverLemmas.{rest_sparse, turn_of, cover_turn}
use Rattle.prove_facts.proofs.facts.are_covered.Goals as goal

pub returns-then-not-is_covered : goal.returns-then-not-is_covered
returns-then-not-is_covered c s t =
    let inv = c.loop-fact.invariant s t in
    let n = c.from_address-rest.ensures.sparse 0 inv.0 in
    let e = drop_fact c.args.facts.now c.loop-fact.fact-index _ (omega arith) in
    let r = rest_sparse (facts_of c.args.facts.now) _ c.loop-fact.fact-index _ s e in
    sym (inv.2 ∙ cover_turn _ _ (facts_of c.args.list.now) (facts_of c.loop-fact.rest.now) (facts_of c.from_address-rest.result.now) _ false
    e r inv.1 c.from_address-rest.ensures.same n (λ o u. sym c.if-not-is_covered.true ∙ c.is_covered.ensures o u))

pub loop-fact-preserved : goal.loop-fact-preserved
loop-fact-preserved c s t =
    let inv = c.loop-fact.invariant s t in
    let n = c.from_address-rest.ensures.sparse 0 inv.0 in
    let g = facts_of c.args.list.now in
    let rest = facts_of c.loop-fact.rest.now in
    let next = facts_of c.from_address-rest.result.now in
    let e = drop_fact c.args.facts.now c.loop-fact.fact-index _ (omega arith) in
    let r = rest_sparse (facts_of c.args.facts.now) _ c.loop-fact.fact-index _ s e in
    let p = turn_of _ _ g rest next _ e r inv.1 c.from_address-rest.ensures.same n in
    let q = cover_turn _ _ g rest next _ true e r inv.1 c.from_address-rest.ensures.same n (λ o u. sym c.if-not-is_covered.false ∙ c.is_covered.ensures o u) in
    (p.sparse, p.agree, inv.2 ∙ q)
