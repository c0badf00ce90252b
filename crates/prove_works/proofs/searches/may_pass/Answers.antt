use Rattle.prove_works.proofs.SearchLemmas.{pass_not, pass_next}
use Rattle.prove_works.proofs.searches.may_pass.Goals as goal

pub returns-then-is_only : goal.returns-then-is_only
returns-then-is_only c =
    pass_not c.args.table.now c.loop-values.values-index _ c.args.value c.is_only.result _ c.loop-values-test.true c.is_only.ensures c.if-is_only.true c.loop-values.invariant

pub loop-values-preserved : goal.loop-values-preserved
loop-values-preserved c =
    pass_next c.args.table.now c.loop-values.values-index _ c.args.value c.is_only.result _ c.loop-values-test.true c.is_only.ensures c.if-is_only.false c.loop-values.invariant
