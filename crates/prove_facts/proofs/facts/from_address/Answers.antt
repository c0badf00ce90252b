use Rattle.std.proofs.Common.{◌∙◌, sym, ap, subst, take}
use Rattle.model_prove.specs.Facts as known
use Rattle.prove_facts.specs.Facts.{facts_of, AreSparse}
use Rattle.prove_facts.proofs.FactLemmas.{at_rest, below_higher, slice_rest}
use Rattle.prove_facts.proofs.facts.from_address.Goals as goal

pub returns-clause-same : goal.returns-clause-same
returns-clause-same c a h =
    let l = c.args.list.now in
    let n = c.passed.result in
    ap (λ (f : known.Facts). known.fact_at f a) (slice_rest l n)
    ∙ sym (at_rest (facts_of l) n a (below_higher c.args.at a (take n (facts_of l)) h c.passed.ensures.below))

pub returns-clause-sparse : goal.returns-clause-sparse
returns-clause-sparse c k s =
    subst (λ (f : known.Facts). AreSparse c.args.at f) (sym (slice_rest c.args.list.now c.passed.result)) (c.passed.ensures.above k s)
