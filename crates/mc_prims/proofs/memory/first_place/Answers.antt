use Rattle.std.proofs.Common.{arith}
use Rattle.mc_prims.proofs.PlacesLemmas.{found_at, found_nowhere, not_before}
use Rattle.mc_prims.proofs.memory.first_place.Goals as goal

pub returns-then-b-value : goal.returns-then-b-value
returns-then-b-value c = rw c.loop-b.invariant.place (found_at c.args.bytes.now c.args.value c.loop-b.b-index c.loop-b-test.true c.loop-b.invariant.before c.if-b-value.true)

pub loop-b-preserved : goal.loop-b-preserved
loop-b-preserved c =
    record {
      place = grind arith;
      before = not_before c.args.bytes.now c.args.value c.loop-b.b-index c.loop-b.invariant.before c.if-b-value.false;
    }

pub returns : goal.returns
returns c =
    found_nowhere c.args.bytes.now c.args.value (λ k lt. c.loop-b.invariant.before k (omega arith))
