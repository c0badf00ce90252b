use Rattle.prove_arrivals.specs.Subjects.{start_in}
use Rattle.prove_keys.specs.Keys.{amounts_of}
use Rattle.prove_steps.proofs.StepLemmas.{from_some}
use Rattle.prove_steps.proofs.stepping.choice_holds.Goals as goal

pub scene_holds-requires-clause-scene : goal.scene_holds-requires-clause-scene
scene_holds-requires-clause-scene c names s sized =
    let f = c.args.fetched.now in
    (from_some _ _ _ c.in-Some.is c.in_ok-scene.ensures) s.app (start_in c.args.subject.now f.begun) (amounts_of names f.amounts.now) sized
