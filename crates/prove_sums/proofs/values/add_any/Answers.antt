use Rattle.std.proofs.Common.{◌++◌, ◌∷◌, [], List, Option, subst, sym}
use Rattle.prove_sums.specs.declared.values.More.{More}
use Rattle.prove_sums.specs.Values.{MoresAre, if_any}
use Rattle.prove_sums.proofs.MoreLemmas.{mores_append}
use Rattle.prove_sums.proofs.values.add_any.Goals as goal

pub returns : goal.returns
returns c rs qs a b =
    subst (λ (x : List More). MoresAre x (rs ++ qs)) (sym c.in_ok-push.ensures)
    (mores_append c.args.mores.now.items (c.in-Some.one ∷ []) rs qs a (subst (λ (o : Option More). MoresAre (if_any o) qs) c.in-Some.is b))
