use Rattle.std.proofs.Common.{ap, ◌∙◌, true, false}
use Rattle.prove_facts.specs.model_prove.specs.Digits.{Digits}
use Rattle.prove_digits.specs.States.{with_edges, found_digits}
use Rattle.prove_digits.proofs.GrowLemmas.{none_value}
use Rattle.prove_digits.proofs.steps.Step.found.Goals as goal

pub returns : goal.returns
unfolding found_digits
returns c =
    let s = c.args.self.now in
    let a = c.args.after.now in
    c.join_from-4.ensures
    ∙ ap (λ (d : Digits). with_edges s a true true d) (c.join_from-3.ensures
    ∙ ap (λ (d : Digits). with_edges s a true false d) (c.join_from-2.ensures
    ∙ ap (λ (d : Digits). with_edges s a false true d) (c.join_from.ensures ∙ ap (λ (d : Digits). with_edges s a false false d) none_value)))
