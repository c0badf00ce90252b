use Rattle.std.proofs.Common.{arith}
use Rattle.prove_sums.proofs.FollowLemmas.{even_end, even_next}
use Rattle.prove_sums.proofs.follows.offs_even.Goals as goal

pub loop-balance-preserved : goal.loop-balance-preserved
loop-balance-preserved c names ts fs are offs =
    even_next names ts fs c.args.balances.now c.loop-balance.balance-index c.balance-item.result c.loop-balance.rest.now c.in-Some.left.now c.in-Some.off.now c.balance-item.is
    (omega arith) c.in-Some.ensures (λ t f i o. c.is_even.ensures c.if-not-is_even.false names t f i o) (c.loop-balance.invariant names ts fs are offs)

pub returns : goal.returns
returns c h names ts fs are offs =
    even_end names ts fs c.args.balances.now c.loop-balance.balance-index c.loop-balance.rest.now (omega arith) (c.loop-balance.invariant names ts fs are offs)
