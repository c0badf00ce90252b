use Rattle.std.proofs.Common.{◌≡◌, List, map, ap, ◌∙◌}
use Rattle.lab_app_rules.specs.declared.rules.Named.{Named}
use Rattle.prove_closed.proofs.ClosingLemmas.{amount_of, creation_there}
use Rattle.prove_closed.proofs.creation.creation_with.Goals as goal

pub returns : goal.returns
returns c e a g are is facts =
    let list = c.as_slice-2.result.now in
    let amounts : list ≡ map amount_of c.args.rules.now.allowances.items =
    c.as_slice-2.ensures.value ∙ c.in_ok-amounts.ensures ∙ ap (λ (ns : List Named). map amount_of ns) c.as_slice.ensures.value
    in
    creation_there a g c.args.rules.now c.args.subject.now list c.args.facts.now are is amounts facts (c.in_ok-holds.ensures e)
