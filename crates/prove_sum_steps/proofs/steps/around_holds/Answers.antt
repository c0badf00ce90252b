use Rattle.std.proofs.Common.{ap, map, sym}
use Rattle.mc_isa.specs.model_machine.specs.Shapes.{Shape, shape}
use Rattle.prove_facts.specs.model_prove.specs.Work.{work}
use Rattle.prove_sums.specs.model_sums.specs.Moves.{moved}
use Rattle.lab_app_rules.specs.Rules.{name_of}
use Rattle.prove_scenes.specs.Heads.{around_value}
use Rattle.prove_scenes.specs.ShapeValues.{shape_value}
use Rattle.prove_scenes.specs.Works.{work_value}
use Rattle.prove_steps.proofs.StepLemmas.{from_some}
use Rattle.prove_sums.specs.Values.{sums_value}
use Rattle.prove_sum_steps.specs.Walks.{place_in}
use Rattle.prove_sum_steps.proofs.StepLemmas.{moved_is, totals_at}
use Rattle.prove_sum_steps.proofs.steps.around_holds.Goals as goal

pub returns : goal.returns
returns c h names s u is =
    let t = c.args.turn.now in
    let i = t.ins.now in
    let e = c.args.scene.now in
    let w = work i e.frame e.public in
    let g = shape i e.frame e.public (around_value c.args.around.now) in
    let k = (place_in names t).key in
    let v = sums_value t.sums.now in
    let ts = s.rules.totals in
    let sums = map name_of t.rules.now.sums.items in
    let found = from_some _ _ _ c.in-Some-2.is c.in_ok-after.ensures in
    c.in_ok-holds.ensures h names s u e g (moved ts k i g w v) is (sym (ap (λ (x : Shape). x.next) c.in-Some.ensures)) (sym (ap (λ (x : Shape). x.dt) c.in-Some.ensures))
    (moved_is c.outlines_move_alike.ensures ts k i (shape_value c.in-Some.shape) g (work_value c.work_of-work.result) w v _ c.in-Some.ensures c.work_of-work.ensures
    (found sums ts k v (totals_at sums ts t.rules.now.balances.items _ c.as_slice-balances.ensures.value is.sums.totals) (c.before_of-before.ensures names) c.fits.ensures))
