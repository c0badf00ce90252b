use Rattle.std.proofs.Common.{◌∙◌, List, ap}
use Rattle.prove_forms.specs.declared.forms.Term.{Term}
use Rattle.prove_forms.specs.Forms.{terms_value, wrapped_terms}
use Rattle.prove_forms.proofs.FormLemmas.{sum_is}
use Rattle.prove_forms.proofs.forms.Form.plus.Goals as goal

pub returns : goal.returns
returns c f g h i =
    let terms =
    c.in_ok-add_terms.ensures
    ∙ ap (λ (l : List Term). wrapped_terms (terms_value l) (terms_value c.in_ok-terms.terms.items)) c.as_slice-2.ensures.value
    ∙ ap (λ (l : List Term). wrapped_terms (terms_value c.args.other.now.terms.items) (terms_value l)) (c.in_ok-terms.ensures.items ∙ c.as_slice.ensures.value) in
    sum_is c.args.self.now c.args.other.now _ f g c.sum.ensures.same c.sum.ensures.sum terms c.is_kept_by.ensures h i
