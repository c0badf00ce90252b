use Rattle.std.proofs.Common.{drop}
use Rattle.prove_sums.specs.Kept.{if_kept}
use Rattle.prove_sums.specs.Values.{MoresAre}
use Rattle.prove_sums.proofs.MoreLemmas.{Flat, Mores}
use Rattle.prove_sums.proofs.kept.kept_mores.Given as goal

-- those so far that are kept are there
abbrev pub invariant-loop-more : goal.invariant-loop-more
invariant-loop-more l = (rs : Mores) → MoresAre l.mores rs → Flat (if_kept l.kept) rs (drop l.more-index l.mores) l.left.items
