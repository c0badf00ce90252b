use Rattle.std.proofs.Common.{arith}
use Rattle.prove_sums.proofs.FollowLemmas.{has_here, has_next}
use Rattle.prove_sums.proofs.follows.has_more.Goals as goal

pub returns-then-branch : goal.returns-then-branch
returns-then-branch c h rs q are is =
    has_here rs q c.args.mores.now c.loop-more.more-index c.more-item.result c.more-item.is (omega arith) (λ r i. c.in_ok-is_more.ensures c.if-branch.true r q i is)
    (c.loop-more.invariant rs q are is)

pub loop-more-preserved : goal.loop-more-preserved
loop-more-preserved c rs q are is =
    has_next rs q c.args.mores.now c.loop-more.more-index c.more-item.result c.more-item.is (omega arith) (c.loop-more.invariant rs q are is)
