use Rattle.std.proofs.Common.{◌∙◌, List, ap, refl}
use Rattle.prove_forms.specs.declared.forms.Term.{Term}
use Rattle.prove_forms.specs.Forms.{terms_value, multiples}
use Rattle.prove_forms.proofs.FormLemmas.{multiple_is}
use Rattle.prove_forms.proofs.forms.Form.multiple.Goals as goal

pub returns : goal.returns
returns c k f u h =
    multiple_is c.args.self.now _ f k c.args.factor refl
    (c.in_ok-multiplied.ensures ∙ ap (λ (l : List Term). multiples c.args.factor (terms_value l)) c.as_slice.ensures.value) c.is_nothing.ensures u h
