use Rattle.std.proofs.Common.{◌∙◌, ◌≡◌, ◌++◌, ◌-◌, ap, arith, List, length, take, drop}
use Rattle.std.proofs.lemmas.List.{take_rest}
use Rattle.prove_facts.specs.declared.facts.Fact.{Fact}
use Rattle.prove_facts.proofs.FactLemmas.{around_is, around_all}
use Rattle.prove_facts.proofs.facts.remove_part.Goals as goal

pub returns-then-low-high-clause-ok : goal.returns-then-low-high-clause-ok
returns-then-low-high-clause-ok c s =
    let below = rw c.as_slice.ensures.value at c.place_of-low.ensures.below in
    let above = rw c.as_slice.ensures.value at c.place_of-low.ensures.above in
    let last = rw c.as_slice-2.ensures.value at c.place_of-high.ensures.above in
    around_all c.args.list.now.items c.args.from c.args.to c.place_of-low.result c.place_of-high.result c.if-low-high.true (below s) (above s) (last s)

-- what is left of the list
left : (c : goal.After-drop-after-2) → c.extend_from_slice.new.self.items ≡ take c.place_of-low.result c.args.list.now.items ++ drop c.place_of-high.result c.args.list.now.items
left c =
    c.in_ok-extend_from_slice.ensures.items ∙ ap (λ (r : List Fact). r ++ c.as_slice-4.result.now) c.truncate.ensures.items
    ∙ ap (λ (r : List Fact). take c.place_of-low.result c.args.list.now.items ++ r)
    (c.as_slice-4.ensures.value ∙ c.in_ok-after.ensures.items
    ∙ ap (λ (r : List Fact). take (length r - c.place_of-high.result) (drop c.place_of-high.result r)) c.as_slice-3.ensures.value
    ∙ take_rest c.args.list.now.items c.place_of-high.result)

pub returns-clause-ok : goal.returns-clause-ok
returns-clause-ok c s =
    let below = rw c.as_slice.ensures.value at c.place_of-low.ensures.below in
    let above = rw c.as_slice.ensures.value at c.place_of-low.ensures.above in
    let bound = rw c.as_slice-2.ensures.value at c.place_of-high.ensures.bound in
    let first = rw c.as_slice-2.ensures.value at c.place_of-high.ensures.below in
    let last = rw c.as_slice-2.ensures.value at c.place_of-high.ensures.above in
    (around_is c.args.list.now.items _ c.args.from c.args.to c.place_of-low.result c.place_of-high.result (omega arith) bound s (below s) (above s) (first s) (last s) (left c)).0

pub returns-clause-sparse : goal.returns-clause-sparse
returns-clause-sparse c s =
    let below = rw c.as_slice.ensures.value at c.place_of-low.ensures.below in
    let above = rw c.as_slice.ensures.value at c.place_of-low.ensures.above in
    let bound = rw c.as_slice-2.ensures.value at c.place_of-high.ensures.bound in
    let first = rw c.as_slice-2.ensures.value at c.place_of-high.ensures.below in
    let last = rw c.as_slice-2.ensures.value at c.place_of-high.ensures.above in
    (around_is c.args.list.now.items _ c.args.from c.args.to c.place_of-low.result c.place_of-high.result (omega arith) bound s (below s) (above s) (first s) (last s) (left c)).1
