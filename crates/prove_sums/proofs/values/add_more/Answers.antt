use Rattle.std.proofs.Common.{◌++◌, ◌∷◌, [], List, subst, sym}
use Rattle.prove_sums.specs.declared.values.More.{More}
use Rattle.prove_sums.specs.Values.{MoresAre}
use Rattle.prove_sums.proofs.MoreLemmas.{mores_append}
use Rattle.prove_sums.proofs.values.add_more.Goals as goal

pub returns : goal.returns
returns c rs r a i =
    subst (λ (x : List More). MoresAre x (rs ++ r ∷ [])) (sym c.in_ok-push.ensures) (mores_append c.args.mores.now.items (c.args.more ∷ []) rs (r ∷ []) a (i, tt))
