use Rattle.std.proofs.Common.{arith}
use Rattle.prove_sums.proofs.FollowLemmas.{follow_end, follow_next}
use Rattle.prove_sums.proofs.follows.mores_follow.Goals as goal

pub loop-other-preserved : goal.loop-other-preserved
loop-other-preserved c rs qs are others =
    follow_next rs qs c.args.others.now c.loop-other.other-index c.other-item.result c.other-item.is (omega arith) (λ q i. c.in_ok-has_more.ensures c.if-not-branch.false rs q are i)
    (c.loop-other.invariant rs qs are others)

pub returns : goal.returns
returns c h rs qs are others = follow_end rs qs c.args.others.now c.loop-other.other-index (omega arith) (c.loop-other.invariant rs qs are others)
