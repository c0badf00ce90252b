use Rattle.std.proofs.Common.{◌∙◌, ◌-◌, ℕ, ap}
use Rattle.std.specs.Prelude.{◌%◌, ◌^◌}
use Rattle.std.proofs.Math.Nat.{mod-mod}
use Rattle.std.proofs.lemmas.Result.{IfOk-weaker}
use Rattle.prove_forms.specs.Forms.{modulus}
use Rattle.prove_forms.proofs.forms.Form.negative.Goals as goal

pub returns : goal.returns
returns c =
    IfOk-weaker c.multiple.result _ _
    (λ less m f h. m (256 ^ c.args.n - 1) f (ap (λ (x : ℕ). x % modulus) c.mask.ensures ∙ mod-mod (256 ^ c.args.n - 1) modulus) h) c.multiple.ensures
