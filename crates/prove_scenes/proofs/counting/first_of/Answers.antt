use Rattle.prove_scenes.proofs.CountingLemmas.{first_found, first_not}
use Rattle.prove_scenes.proofs.counting.first_of.Goals as goal

pub returns-then-and : goal.returns-then-and
returns-then-and c = first_found c.args.counted c.args.causes.now c.loop-abend.abend-index c.and.result c.counts.result c.loop-abend-test.true c.and.ensures c.counts.ensures c.if-and.true c.loop-abend.invariant

pub loop-abend-preserved : goal.loop-abend-preserved
loop-abend-preserved c = first_not c.args.counted c.args.causes.now c.loop-abend.abend-index c.and.result c.counts.result c.loop-abend-test.true c.and.ensures c.counts.ensures c.if-and.false c.loop-abend.invariant
