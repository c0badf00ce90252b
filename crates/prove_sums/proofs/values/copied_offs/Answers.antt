use Rattle.std.proofs.Common.{arith}
use Rattle.prove_sums.proofs.ValueLemmas.{copied_end, copied_next}
use Rattle.prove_sums.proofs.values.copied_offs.Goals as goal

pub loop-off-preserved : goal.loop-off-preserved
loop-off-preserved c fs are =
    copied_next fs c.args.offs.now c.loop-off.off-index c.off-item.result c.loop-off.copies.items c.add_off.new.offs.items c.in_ok-copy.copy c.off-item.is (omega arith)
    c.in_ok-copy.ensures c.in_ok-add_off.ensures (c.loop-off.invariant fs are)

pub returns : goal.returns
returns c fs are = copied_end fs c.args.offs.now c.loop-off.off-index c.loop-off.copies.items (omega arith) (c.loop-off.invariant fs are)
