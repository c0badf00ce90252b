use Rattle.std.proofs.Common.{refl}
use Rattle.std.proofs.lemmas.Result.{IfOk-weaker}
use Rattle.prove_forms.proofs.forms.Form.times.Goals as goal

pub returns : goal.returns
returns c = IfOk-weaker c.multiple.result _ _ (λ many m f h. m c.args.factor f refl h) c.multiple.ensures
