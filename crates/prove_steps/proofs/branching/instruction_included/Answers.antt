use Rattle.std.proofs.Common.{◌∙◌, List, Option, refl, subst}
use Rattle.prove_facts.specs.model_prove.specs.Splits.{Choice}
use Rattle.prove_arrivals.specs.Subjects.{Accepts, start_in}
use Rattle.prove_keys.specs.Keys.{amounts_of}
use Rattle.prove_steps.specs.Steps.{by_choices, scene_of}
use Rattle.prove_steps.proofs.StepLemmas.{few_of, from_some}
use Rattle.prove_steps.proofs.branching.instruction_included.Goals as goal

pub decided_holds-requires-clause-scene : goal.decided_holds-requires-clause-scene
decided_holds-requires-clause-scene c names s sized =
    let f = c.args.fetched.now in
    (from_some _ _ _ c.in-Some.is c.in_ok-scene.ensures) s.app (start_in c.args.subject.now f.begun) (amounts_of names f.amounts.now) sized

pub returns : goal.returns
returns c h names s o =
    let u = c.args.subject.now in
    let f = c.args.fetched.now in
    let same = (from_some _ _ _ c.in-Some.is c.in_ok-scene.ensures) s.app (start_in u f.begun) (amounts_of names f.amounts.now) o.subject.sized in
    subst (λ (few : Option (List Choice)). Accepts names u (by_choices names s u f few))
    (few_of f.before.now.bytes f.before.now.bytes _ (scene_of names s u f) f.ins.now _ _ refl (c.as_slice.ensures.value ∙ c.inside-places.ensures) c.deciders.ensures same)
    (c.in_ok-holds.ensures h names s o)
