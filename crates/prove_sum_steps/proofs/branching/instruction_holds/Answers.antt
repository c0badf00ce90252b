use Rattle.std.proofs.Common.{◌≡◌, ◌∙◌, List, Option, refl, subst, true}
use Rattle.prove_facts.specs.model_prove.specs.Reach.{takes_target}
use Rattle.prove_facts.specs.model_prove.specs.Splits.{Choice}
use Rattle.prove_sums.specs.model_sums.specs.Closed.{choices_closed}
use Rattle.prove_arrivals.specs.Subjects.{start_in}
use Rattle.prove_keys.specs.Keys.{amounts_of}
use Rattle.prove_steps.proofs.StepLemmas.{few_of, from_some}
use Rattle.prove_sum_steps.specs.Walks.{scene_of, turn_of}
use Rattle.prove_sum_steps.proofs.branching.instruction_holds.Goals as goal

pub decided_holds-requires-clause-scene : goal.decided_holds-requires-clause-scene
decided_holds-requires-clause-scene c names s sized =
    let t = c.args.turn.now in
    (from_some _ _ _ c.in-Some.is c.in_ok-scene.ensures) s.app (start_in t.subject.now t.key.now.begun) (amounts_of names t.key.now.amounts.items) sized

pub returns : goal.returns
returns c h names s u is =
    let t = c.args.turn.now in
    let same = (from_some _ _ _ c.in-Some.is c.in_ok-scene.ensures) s.app (start_in t.subject.now t.key.now.begun) (amounts_of names t.key.now.amounts.items) is.over.subject.sized in
    subst (λ (few : Option (List Choice)). choices_closed few (takes_target t.ins.now) s u (turn_of names s t) ≡ true)
    (few_of t.spot.now.bytes t.spot.now.bytes _ (scene_of names s t) t.ins.now _ _ refl (c.as_slice.ensures.value ∙ c.inside-places.ensures) c.deciders.ensures same)
    (c.in_ok-holds.ensures h names s u is)
