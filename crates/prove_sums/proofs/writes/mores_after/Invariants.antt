use Rattle.std.proofs.Common.{drop}
use Rattle.prove_forms.specs.model_sums.specs.Writes.{more_after}
use Rattle.prove_forms.specs.Forms.{OptionalIs}
use Rattle.prove_sums.specs.Values.{MoresAre}
use Rattle.prove_sums.proofs.MoreLemmas.{Flat, Mores}
use Rattle.prove_sums.proofs.WalkLemmas.{Off}
use Rattle.prove_sums.proofs.writes.mores_after.Given as goal

-- what is left of the blocks so far is there
abbrev pub invariant-loop-more : goal.invariant-loop-more
invariant-loop-more l =
    (rs : Mores) (g : Off) → MoresAre l.mores rs → OptionalIs l.by g → Flat (more_after l.at l.n g) rs (drop l.more-index l.mores) l.after.items
