use Rattle.std.proofs.Common.{◌∙◌, ap, Option}
use Rattle.mc_isa.specs.model_machine.specs.Primitives as model
use Rattle.prove_facts.specs.model_prove.specs.Reach as reach
use Rattle.prove_facts.specs.model_prove.specs.Steps as steps
use Rattle.prove_arrivals.specs.Subjects.{classes_in, start_in, tables_in}
use Rattle.prove_scenes.specs.Coarse.{coarse_value}
use Rattle.prove_scenes.specs.ShapeValues.{shape_value}
use Rattle.prove_steps.specs.Steps.{after_fetch, before}
use Rattle.prove_steps.proofs.CrudeLemmas.{cause_is, crude_included, shape_is}
use Rattle.prove_steps.proofs.crude.crude_holds.Goals as goal

pub returns : goal.returns
returns c h names s o =
    let u = c.args.subject.now in
    let f = c.args.fetched.now in
    let e = c.args.scene.now in
    let k = f.before.now.bytes in
    crude_included (tables_in names u) c.coarse_outlines_lead_alike.ensures s f.ins.now e (before names u f) (after_fetch names u f)
    (steps.coarse_around (start_in u f.begun)) (shape_value c.in-Some.shape) (coarse_value k c.crude_for-crude.result) c.may_miss-misses.result
    c.may_have_bad_length-bad.result c.cause-known.result
    (shape_is f.ins.now e k _ _ _ (c.crude_around-around.ensures (classes_in u)) (c.in-Some.ensures k))
    (c.crude_for-crude.ensures k ∙ ap (steps.coarse_for (shape_value c.in-Some.shape).act) (c.coarse_of.ensures k))
    (c.may_miss-misses.ensures k ∙ ap (λ (p : Option model.Primitive). reach.may_miss p (coarse_value k c.crude_for-crude.result)) c.primitive_of-primitive.ensures)
    (c.may_have_bad_length-bad.ensures ∙ ap reach.may_have_bad_length c.primitive_of-primitive.ensures)
    (cause_is f.ins.now e c.may_have_bad_length-bad.result _ _ _ (c.crude_around-around.ensures (classes_in u)) c.cause-known.ensures)
    (c.in_ok-fails_if.ensures c.if-not-branch.false names s o) (c.in_ok-fails_if-2.ensures c.if-not-branch-2.false names s o) (c.in_ok-holds.ensures h names s o)
