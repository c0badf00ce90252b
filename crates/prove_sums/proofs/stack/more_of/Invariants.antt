use Rattle.std.proofs.Common.{drop}
use Rattle.prove_sums.specs.Values.{MoresAre}
use Rattle.prove_sums.proofs.MoreLemmas.{Mores, Of}
use Rattle.prove_sums.proofs.stack.more_of.Given as goal

-- the blocks that are left decide
abbrev pub invariant-loop-more : goal.invariant-loop-more
invariant-loop-more l = (rs : Mores) → MoresAre l.mores rs → Of l.at l.from l.n rs (drop l.more-index l.mores)
