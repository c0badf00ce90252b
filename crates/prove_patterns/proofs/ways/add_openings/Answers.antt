use Rattle.std.proofs.Common.{arith}
use Rattle.prove_patterns.proofs.WayLemmas.{added_first, added_step}
use Rattle.prove_patterns.proofs.ways.add_openings.Goals as goal

pub loop-i-init : goal.loop-i-init
loop-i-init c =
    record {
      within = omega arith;
      ways = added_first c.args.pattern.now c.stars_of-i.result _ _ c.stars_of-i.ensures.within c.stars_of-i.ensures.other c.in_ok-add_way.ensures;
    }

pub loop-i-preserved : goal.loop-i-preserved
loop-i-preserved c =
    record {
      within = omega arith;
      ways =
          added_step c.args.pattern.now c.loop-i.i _ _ _ (omega arith) (omega arith) (c.stars_of-i.ensures.stars _ (omega arith)) c.loop-i.invariant.ways
          c.in_ok-add_way-2.ensures;
    }
