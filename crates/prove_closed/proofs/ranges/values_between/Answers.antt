use Rattle.prove_closed.proofs.RangeLemmas.{range_is}
use Rattle.prove_closed.proofs.ranges.values_between.Goals as goal

pub returns : goal.returns
returns c = range_is c.range.result.words c.args.low c.args.high c.ranges.high.fits c.range.ensures
