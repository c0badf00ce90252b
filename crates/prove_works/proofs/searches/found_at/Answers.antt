use Rattle.prove_works.specs.Searches.{sets_of}
use Rattle.std.proofs.Common.{arith}
use Rattle.prove_works.proofs.SearchLemmas.{found_is, found_last, found_next, found_end, sets_few}
use Rattle.prove_works.proofs.searches.found_at.Goals as goal

pub returns-then-is_only : goal.returns-then-is_only
returns-then-is_only c =
    found_is c.with_if-found.result c.args.value (sets_of c.args.table.now) (sets_few c.args.table.now 256 (omega (arith, c.requires)))
    (found_last c.args.table.now c.loop-index.index _ c.args.value c.loop-index.found c.with_if-found.result c.has.result c.is_only.result c.loop-index-test.true
    c.has.ensures c.is_only.ensures c.if-is_only.true c.with_if-found.ensures c.loop-index.invariant)

pub loop-index-preserved : goal.loop-index-preserved
loop-index-preserved c =
    found_next c.args.table.now c.loop-index.index _ c.args.value c.loop-index.found c.with_if-found.result c.has.result c.is_only.result c.loop-index-test.true
    c.has.ensures c.is_only.ensures c.if-is_only.false c.with_if-found.ensures c.loop-index.invariant

pub returns : goal.returns
returns c =
    found_is c.loop-index.found c.args.value (sets_of c.args.table.now) (sets_few c.args.table.now 256 (omega (arith, c.requires)))
    (λ w l. found_end c.args.table.now c.loop-index.index c.args.value w _ _ (omega arith) (c.loop-index.invariant w l))
