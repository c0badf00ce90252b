use Rattle.std.proofs.Common.{◌∙◌, ap, map, sym}
use Rattle.prove_facts.specs.model_prove.specs.Steps as steps
use Rattle.prove_arrivals.specs.Subjects.{spot_in, start_in}
use Rattle.prove_keys.specs.Keys.{amounts_of}
use Rattle.prove_scenes.specs.Coarse.{coarse_value}
use Rattle.prove_scenes.specs.Scenes.{frame_to}
use Rattle.prove_steps.specs.Steps.{after_fetch}
use Rattle.prove_steps.proofs.CrudeLemmas.{coarse_places, coarse_reaches}
use Rattle.prove_steps.proofs.StepLemmas.{from_some}
use Rattle.prove_steps.proofs.crude.done_holds.Goals as goal

pub returns : goal.returns
returns c h names s o =
    let u = c.args.subject.now in
    let f = c.args.fetched.now in
    let d = frame_to c.args.scene.now c.args.shape.now.dt in
    let k = f.before.now.bytes in
    let q = after_fetch names u f in
    c.in_ok-holds.ensures h names s d (coarse_value k c.args.crude) q o
    (coarse_reaches s d c.args.crude c.bytes-facts.result.now k c.bytes-facts.ensures _ (c.in-Some.ensures s o.subject.sized.fixed))
    (coarse_places d c.args.shape.now.flags c.args.crude c.bytes-facts.result.now k c.bytes-facts.ensures _ (steps.lowered c.args.shape.now.dt q)
    (c.in_ok-low.ensures names u) _ (from_some _ _ _ c.in-Some-2.is c.in_ok-list.ensures (start_in u f.begun) (amounts_of names f.amounts.now))
    ∙ ap (map (spot_in names u f.begun f.amounts.now)) (sym c.as_slice.ensures.value))
