use Rattle.std.proofs.Common.{arith}
use Rattle.prove_sums.proofs.WalkLemmas.{blocks_end, blocks_here, blocks_next}
use Rattle.prove_sums.proofs.stack.is_total_block.Goals as goal

pub returns-then-is_block : goal.returns-then-is_block
returns-then-is_block c names ts are =
    blocks_here c.args.at c.args.n names ts c.args.balances.now c.loop-balance.balance-index c.balance-item.result c.is_block.result c.balance-item.is (omega arith) c.is_block.ensures
    c.if-is_block.true (c.loop-balance.invariant names ts are)

pub loop-balance-preserved : goal.loop-balance-preserved
loop-balance-preserved c names ts are =
    blocks_next c.args.at c.args.n names ts c.args.balances.now c.loop-balance.balance-index c.balance-item.result c.is_block.result c.balance-item.is (omega arith) c.is_block.ensures
    c.if-is_block.false (c.loop-balance.invariant names ts are)

pub returns : goal.returns
returns c names ts are =
    blocks_end c.args.at c.args.n names ts c.args.balances.now c.loop-balance.balance-index (omega arith) (c.loop-balance.invariant names ts are)
