use Rattle.std.proofs.Common.{◌∙◌, sym, subst, List}
use Rattle.std.proofs.lemmas.Result.{on_ok_weaker}
use Rattle.prove_facts.specs.Facts.{fact_of, facts_of, AreSparse}
use Rattle.prove_facts.proofs.FactLemmas.{put_there, put_new, starts_within, by_result}
use Rattle.prove_facts.specs.declared.facts.Fact.{Fact}
use Rattle.prove_facts.proofs.facts.put.Goals as goal

pub returns-then-there-clause-ok : goal.returns-then-there-clause-ok
returns-then-there-clause-ok c s =
    let below = rw c.as_slice.ensures.value at c.place_of-place.ensures.below in
    let above = rw c.as_slice.ensures.value at c.place_of-place.ensures.above in
    let first = rw c.as_slice-2.ensures.value at c.is_at-there.ensures in
    let there = sym first ∙ c.if-there.true in
    (put_there (facts_of c.args.list.now.items) _ c.place_of-place.result (fact_of c.args.fact) s (below s) (above s) there
    (c.replace.ensures (starts_within c.args.list.now.items c.place_of-place.result c.args.fact.at there))).0

pub returns-then-there-clause-sparse : goal.returns-then-there-clause-sparse
returns-then-there-clause-sparse c s =
    let below = rw c.as_slice.ensures.value at c.place_of-place.ensures.below in
    let above = rw c.as_slice.ensures.value at c.place_of-place.ensures.above in
    let first = rw c.as_slice-2.ensures.value at c.is_at-there.ensures in
    let there = sym first ∙ c.if-there.true in
    (put_there (facts_of c.args.list.now.items) _ c.place_of-place.result (fact_of c.args.fact) s (below s) (above s) there
    (c.replace.ensures (starts_within c.args.list.now.items c.place_of-place.result c.args.fact.at there))).1

pub returns-clause-ok : goal.returns-clause-ok
returns-clause-ok c s =
    let below = rw c.as_slice.ensures.value at c.place_of-place.ensures.below in
    let above = rw c.as_slice.ensures.value at c.place_of-place.ensures.above in
    let bound = rw c.as_slice.ensures.value at c.place_of-place.ensures.bound in
    let first = rw c.as_slice-2.ensures.value at c.is_at-there.ensures in
    let there = sym first ∙ c.if-there.false in
    on_ok_weaker c.insert.result
    (λ i. (put_new (facts_of c.args.list.now.items) _ c.place_of-place.result (fact_of c.args.fact) s (below s) (above s) there i).0) (c.insert.ensures.ok bound)

pub returns-clause-sparse : goal.returns-clause-sparse
returns-clause-sparse c s =
    let below = rw c.as_slice.ensures.value at c.place_of-place.ensures.below in
    let above = rw c.as_slice.ensures.value at c.place_of-place.ensures.above in
    let bound = rw c.as_slice.ensures.value at c.place_of-place.ensures.bound in
    let first = rw c.as_slice-2.ensures.value at c.is_at-there.ensures in
    let there = sym first ∙ c.if-there.false in
    by_result c.insert.result _ _ (AreSparse 0 (facts_of c.insert.new.list.items)) (c.insert.ensures.ok bound) c.insert.ensures.err
    (λ i. (put_new (facts_of c.args.list.now.items) _ c.place_of-place.result (fact_of c.args.fact) s (below s) (above s) there i).1)
    (λ e. subst (λ (l : List Fact). AreSparse 0 (facts_of l)) (sym e) s)
