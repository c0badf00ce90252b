use Rattle.std.proofs.Common.{◌≡◌, List, subst, true}
use Rattle.model_sums.specs.Forms as forms
use Rattle.prove_forms.specs.declared.forms.Term.{Term}
use Rattle.prove_forms.specs.Forms.{terms_value}
use Rattle.prove_forms.proofs.FormLemmas.{zero_is}
use Rattle.prove_forms.proofs.forms.Form.is_zero.Goals as goal

pub returns-then-is_multiple : goal.returns-then-is_multiple
returns-then-is_multiple c e f h =
    zero_is c.args.self.now f c.args.n (c.decides.ensures c.if-not-decides.false) (c.is_multiple.ensures c.if-is_multiple.true)
    (subst (λ (l : List Term). forms.are_zero c.args.n (terms_value l) ≡ true) c.as_slice.ensures.value (c.are_zero.ensures e)) h
