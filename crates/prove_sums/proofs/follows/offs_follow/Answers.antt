use Rattle.std.proofs.Common.{arith}
use Rattle.prove_sums.proofs.FollowLemmas.{offs_end, offs_next, offs_stop}
use Rattle.prove_sums.proofs.follows.offs_follow.Goals as goal

pub returns-in_default : goal.returns-in_default
returns-in_default c h names ts fs gs are offs others =
    offs_stop names ts fs gs _ c.loop-balance.rest.now c.loop-balance.left.now c.in_default.ensures (c.loop-balance.invariant names ts fs gs are offs others)

pub loop-balance-preserved : goal.loop-balance-preserved
loop-balance-preserved c names ts fs gs are offs others =
    offs_next names ts fs gs c.args.balances.now c.loop-balance.balance-index c.balance-item.result c.loop-balance.rest.now c.loop-balance.left.now c.in-Some-first_off.more.now
    c.in-Some.most.now c.in-Some-first_off.off.now c.in-Some.other.now c.balance-item.is (omega arith) c.in-Some-first_off.ensures c.in-Some.ensures
    (λ t f g i o p. c.in_ok-off_follows.ensures c.if-not-branch.false names t f g i o p) (c.loop-balance.invariant names ts fs gs are offs others)

pub returns : goal.returns
returns c h names ts fs gs are offs others =
    offs_end names ts fs gs c.args.balances.now c.loop-balance.balance-index c.loop-balance.rest.now c.loop-balance.left.now (omega arith)
    (c.loop-balance.invariant names ts fs gs are offs others)
