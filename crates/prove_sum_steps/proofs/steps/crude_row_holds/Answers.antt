use Rattle.std.proofs.Common.{◌∙◌, ap, map, sym}
use Rattle.mc_isa.specs.model_machine.specs.Shapes.{Shape}
use Rattle.prove_facts.specs.model_prove.specs.Facts.{Facts}
use Rattle.prove_facts.specs.model_prove.specs.Steps.{coarse_for}
use Rattle.prove_sums.specs.model_sums.specs.Moves.{moved_coarsely}
use Rattle.lab_app_rules.specs.Rules.{name_of}
use Rattle.prove_scenes.specs.Coarse.{coarse_value}
use Rattle.prove_scenes.specs.Scenes.{frame_to}
use Rattle.prove_scenes.specs.ShapeValues.{shape_value}
use Rattle.prove_steps.proofs.StepLemmas.{from_some}
use Rattle.prove_sums.specs.Values.{sums_value}
use Rattle.prove_sum_steps.proofs.StepLemmas.{coarsely_is, totals_at}
use Rattle.prove_sum_steps.proofs.steps.crude_row_holds.Goals as goal

pub returns : goal.returns
returns c e h k same crude names s u is =
    let t = c.args.turn.now in
    let f = c.args.scene.now.frame in
    let v = sums_value t.sums.now in
    let ts = s.rules.totals in
    let sums = map name_of t.rules.now.sums.items in
    let found = from_some _ _ _ c.in-Some.is c.in_ok-after.ensures in
    c.in_ok-holds.ensures e names s u c.args.scene.now h (moved_coarsely ts (frame_to c.args.scene.now h.dt) (coarse_for h.act k) v) is
    (sym (ap (λ (x : Shape). x.next) same)) (sym (ap (λ (x : Shape). x.dt) same))
    (coarsely_is c.coarse_outlines_move_alike.ensures ts f (shape_value c.args.shape.now) h k (coarse_value c.bytes-facts.result.now c.args.crude) v _ same
    (ap (λ (facts : Facts). coarse_value facts c.args.crude) c.bytes-facts.ensures ∙ crude)
    (found sums ts v (totals_at sums ts t.rules.now.balances.items _ c.as_slice-balances.ensures.value is.sums.totals) c.fits.ensures))
