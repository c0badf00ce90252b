use Rattle.std.proofs.Common.{arith}
use Rattle.prove_facts.proofs.FactLemmas.{below_next, sparse_from_here}
use Rattle.prove_facts.proofs.facts.place_of.Goals as goal

pub loop-low-preserved-then-list-middle : goal.loop-low-preserved-then-list-middle
loop-low-preserved-then-list-middle c =
    record {
      order = omega arith;
      bound = omega arith;
      below = λ s. below_next _ c.args.at c.args.list.now _ s (omega arith) c.if-list-middle.true;
      above = c.loop-low.invariant.above;
    }

pub loop-low-preserved : goal.loop-low-preserved
loop-low-preserved c =
    record {
      order = omega arith;
      bound = omega arith;
      below = c.loop-low.invariant.below;
      above = λ s. sparse_from_here _ c.args.at c.args.list.now _ s (omega arith) c.if-list-middle.false;
    }
