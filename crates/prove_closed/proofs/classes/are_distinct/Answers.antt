use Rattle.std.proofs.Common.{◌≡◌, ◌+◌, ◌-◌, Bool, false, List, length, take, drop, subst}
use Rattle.std.specs.declared.alloc.Global.{Global}
use Rattle.std.specs.declared.vec.Vec.{Vec}
use Rattle.prove_keys.specs.Tables.{AreDistinct}
use Rattle.prove_closed.specs.Classes.{lists_of, is_among}
use Rattle.prove_closed.proofs.ClassLemmas.{distinct_next, rest_is}
use Rattle.prove_closed.proofs.LoopLemmas.{loop_next}
use Rattle.prove_closed.proofs.classes.are_distinct.Goals as goal

pub loop-number-preserved : goal.loop-number-preserved
loop-number-preserved c =
    let cs = c.args.classes.now in
    let i = c.loop-number.number in
    let item = c.index-classes-number.result in
    let other : is_among item.items (lists_of (drop (i + 1) cs)) ≡ false =
    subst (λ (ds : List (Vec Bool Global)). is_among item.items (lists_of ds) ≡ false) (rest_is cs (i + 1))
    (subst (λ (l : List Bool). is_among l (lists_of (take (length cs - (i + 1)) (drop (i + 1) cs))) ≡ false) c.as_slice.ensures.value
    (c.is_among.ensures c.if-is_among.false))
    in
    loop_next (λ (ds : List (Vec Bool Global)). AreDistinct (lists_of ds)) cs i item c.loop-number-test.true c.index-classes-number.is
    (λ rest. distinct_next item.items (lists_of (drop (i + 1) cs)) other rest) c.loop-number.invariant
