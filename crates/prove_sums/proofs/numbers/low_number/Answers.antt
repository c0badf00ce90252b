use Rattle.prove_sums.proofs.NumberLemmas.{low_next}
use Rattle.prove_sums.proofs.numbers.low_number.Goals as goal

pub loop-byte-preserved : goal.loop-byte-preserved
loop-byte-preserved c = low_next c.args.bytes.now c.loop-byte.number c.loop-byte.byte-index _ c.loop-byte-test.true c.loop-byte.invariant
