use Rattle.std.proofs.Common.{[], ◌∷◌, drop}
use Rattle.prove_sums.specs.Values.{MoresAre}
use Rattle.prove_sums.proofs.MoreLemmas.{Flat, Mores}
use Rattle.prove_sums.proofs.values.copied_mores.Given as goal

-- copies of those so far are there
abbrev pub invariant-loop-more : goal.invariant-loop-more
invariant-loop-more l = (rs : Mores) → MoresAre l.mores rs → Flat (λ r. r ∷ []) rs (drop l.more-index l.mores) l.copies.items
