use Rattle.std.proofs.Common.{◌≡◌, ◌++◌, ◌∙◌, Bool, true, List, ap, refl, subst, sym}
use Rattle.std.proofs.lemmas.Bool.{eqb-true}
use Rattle.prove_facts.specs.model_prove.specs.Splits.{Choice, Scene, with_values}
use Rattle.prove_sums.specs.model_sums.specs.Closed.{all_pass, choice_closed}
use Rattle.prove_steps.specs.Choices.{choices_of}
use Rattle.prove_steps.proofs.StepLemmas.{later_of}
use Rattle.prove_sum_steps.specs.Walks.{scene_closed, scene_of, turn_in, turn_of}
use Rattle.prove_sum_steps.proofs.PassLemmas.{alone_passes}
use Rattle.prove_sum_steps.proofs.branching.first_holds.Goals as goal

pub returns-then-is_empty : goal.returns-then-is_empty
returns-then-is_empty c h names s u is =
    let t = c.args.turn.now in
    let first = c.args.first.now in
    let e = with_values (scene_of names s t) first in
    let k = t.spot.now.bytes in
    let test : Choice → Bool = choice_closed s u (turn_of names s t) in
    let same : c.args.scene.now ≡ e = c.requires.scene names s is.over.subject.sized in
    subst (λ (ds : List Choice). all_pass (λ d. test (first ++ d)) ds ≡ true)
    (later_of k k c.args.scene.now e t.ins.now _ _ refl c.inside-places.ensures c.later_deciders.ensures same)
    (alone_passes test k first c.inside-places.result.items (eqb-true _ _ (sym c.is_empty.ensures ∙ c.if-is_empty.true))
    (subst (λ (x : Scene). scene_closed s u (turn_in names t x) ≡ true) same (c.in_ok-holds.ensures h names s u is)))

pub returns : goal.returns
returns c h names s u is =
    let t = c.args.turn.now in
    let first = c.args.first.now in
    let e = with_values (scene_of names s t) first in
    let k = t.spot.now.bytes in
    let test : Choice → Bool = choice_closed s u (turn_of names s t) in
    subst (λ (ds : List Choice). all_pass (λ d. test (first ++ d)) ds ≡ true)
    (ap choices_of c.as_slice-2.ensures.value
    ∙ c.in_ok-list.ensures
    ∙ later_of k _ c.args.scene.now e t.ins.now _ _ c.bytes.ensures (c.as_slice.ensures.value ∙ c.inside-places.ensures) c.later_deciders.ensures
    (c.requires.scene names s is.over.subject.sized))
    (c.in_ok-holds-2.ensures h names s u is)
