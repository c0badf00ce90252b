use Rattle.std.proofs.Common.{arith, flat_map, map}
use Rattle.prove_arrivals.specs.Subjects.{Accepts, tables_in}
use Rattle.prove_scenes.specs.Heads.{around_value}
use Rattle.prove_steps.specs.Steps.{in_scene}
use Rattle.prove_steps.proofs.StepLemmas.{value_next, values_all, values_whole}
use Rattle.prove_steps.proofs.stepping.each_around_holds.Goals as goal

pub loop-around-init : goal.loop-around-init
loop-around-init c names s o h =
    let f = in_scene names s c.args.subject.now c.args.fetched.now c.args.scene.now c.args.after.now in
    values_whole (tables_in names c.args.subject.now) f around_value c.args.list.now h

pub loop-around-preserved : goal.loop-around-preserved
loop-around-preserved c names s o =
    let u = c.args.subject.now in
    let f = in_scene names s u c.args.fetched.now c.args.scene.now c.args.after.now in
    let xs = c.args.list.now in
    value_next (tables_in names u) f around_value xs c.loop-around.around-index _ (Accepts names u (flat_map f (map around_value xs))) (omega arith)
    (c.in_ok-instruction_holds.ensures c.if-not-branch.false names s o) (c.loop-around.invariant names s o)

pub returns : goal.returns
returns c h names s o =
    let u = c.args.subject.now in
    let f = in_scene names s u c.args.fetched.now c.args.scene.now c.args.after.now in
    values_all (tables_in names u) f around_value c.args.list.now c.loop-around.around-index (omega arith) (c.loop-around.invariant names s o)
