use Rattle.std.proofs.Common.{◌∙◌, ap, arith}
use Rattle.std.specs.Prelude.{Bool, cond, [], ◌∷◌, ◌++◌}
use Rattle.prove_works.proofs.SetSteps.{value_first, value_next, value_last}
use Rattle.prove_works.proofs.lists.list_of.Goals as goal

pub loop-value-init : goal.loop-value-init
loop-value-init c = value_first c.args.values.now c.new-list.result.items c.new-list.ensures.items

pub loop-value-preserved : goal.loop-value-preserved
loop-value-preserved c =
    value_next c.args.values.now c.loop-value.value c.loop-value.list.items c.push_if.new.list.items c.loop-value-test.true
    (c.in_ok-push_if.ensures ∙ ap (λ (b : Bool). c.loop-value.list.items ++ cond b (c.loop-value.value ∷ []) []) c.has.ensures)
    c.loop-value.invariant

pub returns : goal.returns
returns c = value_last c.args.values.now c.loop-value.value c.loop-value.list.items (omega arith) c.loop-value.invariant
