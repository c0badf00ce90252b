use Rattle.std.proofs.Common.{◌++◌, ◌∷◌, [], List, Option, subst, sym}
use Rattle.prove_forms.specs.declared.forms.Form.{Form}
use Rattle.prove_forms.specs.Forms.{OptionalsAre}
use Rattle.prove_sums.proofs.WalkLemmas.{optionals_push}
use Rattle.prove_sums.proofs.values.add_off.Goals as goal

pub returns : goal.returns
returns c fs f a i =
    subst (λ (x : List (Option Form)). OptionalsAre x (fs ++ f ∷ [])) (sym c.in_ok-push.ensures) (optionals_push c.args.offs.now.items fs c.args.off f a i)
