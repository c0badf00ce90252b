use Rattle.std.proofs.Common.{arith}
use Rattle.prove_patterns.proofs.WayLemmas.{openings_step}
use Rattle.prove_patterns.proofs.ways.openings.Goals as goal

pub loop-i-preserved : goal.loop-i-preserved
loop-i-preserved c =
    record {
      within = omega arith;
      ways = openings_step c.args.pattern.now c.loop-i.i _ _ (omega arith) (omega arith) (c.stars_of-i.ensures.stars _ (omega arith)) c.loop-i.invariant.ways c.in_ok-add_way.ensures;
    }
