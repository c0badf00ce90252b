use Rattle.std.proofs.Common.{arith}
use Rattle.prove_sums.proofs.WalkLemmas.{evens_end, evens_next}
use Rattle.prove_sums.proofs.values.evens.Goals as goal

pub loop-balance-preserved : goal.loop-balance-preserved
loop-balance-preserved c names ts are =
    evens_next names ts c.args.balances.now c.loop-balance._balance-index c._balance-item.result c.loop-balance.offs.items c.add_off.new.offs.items c._balance-item.is (omega arith)
    (c.loop-balance.invariant names ts are) (λ fs a. c.in_ok-add_off.ensures fs _ a c.number.ensures)

pub returns : goal.returns
returns c names ts are =
    evens_end names ts c.args.balances.now c.loop-balance._balance-index c.loop-balance.offs.items (omega arith) (c.loop-balance.invariant names ts are)
