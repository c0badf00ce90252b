use Rattle.std.proofs.Common.{drop}
use Rattle.prove_forms.specs.model_sums.specs.Sums as sums
use Rattle.prove_sums.specs.Values.{MoreIs, MoresAre}
use Rattle.prove_sums.proofs.FollowLemmas.{Has}
use Rattle.prove_sums.proofs.MoreLemmas.{Mores}
use Rattle.prove_sums.proofs.follows.has_more.Given as goal

-- if one of the blocks that are left is the other, one of all is
abbrev pub invariant-loop-more : goal.invariant-loop-more
invariant-loop-more l = (rs : Mores) (q : sums.More) → MoresAre l.mores rs → MoreIs l.other q → Has rs q (drop l.more-index l.mores)
