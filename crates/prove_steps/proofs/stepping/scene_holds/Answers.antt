use Rattle.std.proofs.Common.{◌∙◌, ap, map}
use Rattle.prove_facts.specs.model_prove.specs.Splits.{with_values}
use Rattle.prove_facts.specs.model_prove.specs.Steps as steps
use Rattle.prove_arrivals.specs.Subjects.{classes_in, spot_in, start_in, tables_in}
use Rattle.prove_scenes.specs.Heads.{around_value}
use Rattle.prove_steps.specs.Steps.{after_fetch, before, scene_of}
use Rattle.prove_steps.proofs.StepLemmas.{choice_included}
use Rattle.prove_steps.proofs.stepping.scene_holds.Goals as goal

pub returns : goal.returns
returns c h names s o =
    let u = c.args.subject.now in
    let f = c.args.fetched.now in
    let choice = c.args.choice.now in
    choice_included (tables_in names u) (λ e. steps.instruction s f.ins.now e (before names u f)) _ (with_values (scene_of names s u f) choice)
    (spot_in names u f.begun f.amounts.now c.in_ok-after.after) (steps.chosen choice (after_fetch names u f)) _
    (steps.arounds (start_in u f.begun) (steps.primitive_of f.ins.now))
    (c.requires.scene names s o.subject.sized) (c.in_ok-after.ensures names u)
    (ap (map around_value) c.as_slice.ensures.value ∙ c.in_ok-list.ensures (classes_in u)) (c.in_ok-holds.ensures h names s o)
