use Rattle.lab_branch.proofs.BranchLemmas.{none_marked}
use Rattle.lab_branch.proofs.places.Places.new.Goals as goal

pub invariant_of-result : goal.invariant_of-result
invariant_of-result c =
    none_marked c.in_ok-no_marks.field-0.items c.in_ok-with_capacity.field-0.items c.in_ok-with_capacity.field-0.cap c.in_ok-no_marks.ensures c.in_ok-with_capacity.ensures.items c.in_ok-with_capacity.ensures.capacity
