use Rattle.std.proofs.Common.{◌++◌, ◌∙◌, List, ap, refl, sym}
use Rattle.std.proofs.lemmas.Bool.{eqb-true}
use Rattle.prove_facts.specs.model_prove.specs.Arrivals.{Arrival}
use Rattle.prove_facts.specs.model_prove.specs.Splits.{Choice, combinations, later_deciders, with_values}
use Rattle.prove_facts.specs.model_prove.specs.Steps as steps
use Rattle.prove_arrivals.specs.Subjects.{tables_in}
use Rattle.prove_steps.specs.Choices.{choices_of}
use Rattle.prove_steps.specs.Steps.{by_choice, scene_of}
use Rattle.prove_steps.proofs.StepLemmas.{alone_included, choices_included, later_of}
use Rattle.prove_steps.proofs.branching.first_holds.Goals as goal

pub returns-then-is_empty : goal.returns-then-is_empty
returns-then-is_empty c h names s o =
    let u = c.args.subject.now in
    let f = c.args.fetched.now in
    let first = c.args.first.now in
    let e = with_values (scene_of names s u f) first in
    let k = f.before.now.bytes in
    let next : Choice → List Arrival = λ d. by_choice names s u f (first ++ d) in
    choices_included (tables_in names u) next (combinations k c.inside-places.result.items) (combinations k (steps.inside e (later_deciders f.ins.now e.frame)))
    (later_of k k c.args.scene.now e f.ins.now _ _ refl c.inside-places.ensures c.later_deciders.ensures (c.requires.scene names s o.subject.sized))
    (alone_included (tables_in names u) (by_choice names s u f) k first c.inside-places.result.items (eqb-true _ _ (sym c.is_empty.ensures ∙ c.if-is_empty.true)) (c.in_ok-holds.ensures h names s o))

pub returns : goal.returns
returns c h names s o =
    let u = c.args.subject.now in
    let f = c.args.fetched.now in
    let first = c.args.first.now in
    let e = with_values (scene_of names s u f) first in
    let k = f.before.now.bytes in
    let next : Choice → List Arrival = λ d. by_choice names s u f (first ++ d) in
    choices_included (tables_in names u) next _ (combinations k (steps.inside e (later_deciders f.ins.now e.frame)))
    (ap choices_of c.as_slice-2.ensures.value
    ∙ c.in_ok-list.ensures
    ∙ later_of k _ c.args.scene.now e f.ins.now _ _ c.bytes.ensures (c.as_slice.ensures.value ∙ c.inside-places.ensures) c.later_deciders.ensures
    (c.requires.scene names s o.subject.sized))
    (c.in_ok-holds-2.ensures h names s o)
