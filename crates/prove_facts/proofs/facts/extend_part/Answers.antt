use Rattle.std.proofs.Common.{◌∙◌, ◌++◌, sym, ap, subst, List}
use Rattle.std.proofs.lemmas.List.{take-map}
use Rattle.model_prove.specs.Facts as known
use Rattle.prove_facts.specs.declared.facts.Fact.{Fact}
use Rattle.prove_facts.specs.Facts.{fact_of, facts_of, AreSparse}
use Rattle.prove_facts.proofs.FactLemmas.{sparse_take, extended_is}
use Rattle.prove_facts.proofs.facts.extend_part.Goals as goal

pub returns-in_err-extend_from_slice-clause-sparse : goal.returns-in_err-extend_from_slice-clause-sparse
returns-in_err-extend_from_slice-clause-sparse c s t =
    let l = c.args.list.now.items in
    let m = c.place_of-low.result in
    subst (λ (r : List Fact). AreSparse 0 (facts_of r)) (sym (c.in_err-extend_from_slice.ensures.items ∙ c.truncate.ensures.items))
    (subst (λ (f : known.Facts). AreSparse 0 f) (take-map fact_of m l) (sparse_take 0 m (facts_of l) s))

pub returns-clause-ok : goal.returns-clause-ok
returns-clause-ok c s t =
    let below = rw c.as_slice.ensures.value at c.place_of-low.ensures.below in
    let above = rw c.as_slice.ensures.value at c.place_of-low.ensures.above in
    (extended_is c.args.list.now.items c.args.more.now _ c.part_of.result.now c.args.from c.args.to c.place_of-low.result s t (below s) (above s) (c.part_of.ensures t)
    (c.in_ok-extend_from_slice.ensures.items ∙ ap (λ (r : List Fact). r ++ c.part_of.result.now) c.truncate.ensures.items)).0

pub returns-clause-sparse : goal.returns-clause-sparse
returns-clause-sparse c s t =
    let below = rw c.as_slice.ensures.value at c.place_of-low.ensures.below in
    let above = rw c.as_slice.ensures.value at c.place_of-low.ensures.above in
    (extended_is c.args.list.now.items c.args.more.now _ c.part_of.result.now c.args.from c.args.to c.place_of-low.result s t (below s) (above s) (c.part_of.ensures t)
    (c.in_ok-extend_from_slice.ensures.items ∙ ap (λ (r : List Fact). r ++ c.part_of.result.now) c.truncate.ensures.items)).1
