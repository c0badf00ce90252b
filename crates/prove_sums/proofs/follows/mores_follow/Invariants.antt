use Rattle.std.proofs.Common.{drop}
use Rattle.prove_sums.specs.Values.{MoresAre}
use Rattle.prove_sums.proofs.FollowLemmas.{Follow}
use Rattle.prove_sums.proofs.MoreLemmas.{Mores}
use Rattle.prove_sums.proofs.follows.mores_follow.Given as goal

-- if the blocks that are left are among the first, all are
abbrev pub invariant-loop-other : goal.invariant-loop-other
invariant-loop-other l = (rs qs : Mores) → MoresAre l.mores rs → MoresAre l.others qs → Follow rs qs (drop l.other-index l.others)
