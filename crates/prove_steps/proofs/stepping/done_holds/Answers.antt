use Rattle.std.proofs.Common.{◌∙◌, ap, map, sym}
use Rattle.mc_isa.specs.model_machine.specs.Shapes.{shape}
use Rattle.prove_facts.specs.model_prove.specs.Work.{work}
use Rattle.prove_arrivals.specs.Subjects.{spot_in, start_in, tables_in}
use Rattle.prove_keys.specs.Keys.{amounts_of}
use Rattle.prove_scenes.specs.Heads.{around_value}
use Rattle.prove_scenes.specs.ShapeValues.{shape_value}
use Rattle.prove_scenes.specs.Works.{work_value}
use Rattle.prove_steps.specs.Steps.{before}
use Rattle.prove_steps.proofs.StepLemmas.{from_some, outline_included, spots_of_work}
use Rattle.prove_steps.proofs.stepping.done_holds.Goals as goal

pub returns : goal.returns
returns c h names s o =
    let u = c.args.subject.now in
    let f = c.args.fetched.now in
    let e = c.args.scene.now in
    let i = f.ins.now in
    let g = shape_value c.in-Some.shape in
    let w = work i e.frame e.public in
    let q = spot_in names u f.begun f.amounts.now c.args.after.now in
    outline_included (tables_in names u) c.outlines_lead_alike.ensures s i (shape i e.frame e.public (around_value c.args.around.now)) g w (before names u f) q
    c.in-Some.ensures
    (c.in_ok-holds.ensures h names s w q o
    (spots_of_work s g (work_value c.work_of-work.result) w q _ c.work_of-work.ensures
    (from_some _ _ _ c.in-Some-2.is c.in_ok-list.ensures s (start_in u f.begun) (amounts_of names f.amounts.now) o.subject.sized.fixed)
    ∙ ap (map (spot_in names u f.begun f.amounts.now)) (sym c.as_slice.ensures.value)))
