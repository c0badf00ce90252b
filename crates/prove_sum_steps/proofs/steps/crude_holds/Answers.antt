use Rattle.std.proofs.Common.{◌≡◌, ◌∙◌, true, ap, subst}
use Rattle.mc_isa.specs.model_machine.specs.Shapes.{shape}
use Rattle.mc_isa.specs.model_machine.specs.Primitives.{Around}
use Rattle.prove_facts.specs.model_prove.specs.Reach.{coarse}
use Rattle.prove_facts.specs.model_prove.specs.Steps.{coarse_for}
use Rattle.prove_sums.specs.model_sums.specs.Closed.{coarse_closed}
use Rattle.prove_arrivals.specs.Subjects.{classes_in}
use Rattle.prove_scenes.specs.Heads.{around_value}
use Rattle.prove_scenes.specs.ShapeValues.{shape_value}
use Rattle.prove_sum_steps.specs.Walks.{turn_in}
use Rattle.prove_sum_steps.proofs.steps.crude_holds.Goals as goal

pub returns : goal.returns
returns c h names s u is =
    let t = c.args.turn.now in
    let e = c.args.scene.now in
    let k = t.spot.now.bytes in
    subst (λ (x : Around). coarse_closed s u (turn_in names t e) x ≡ true) (c.crude_around-around.ensures (classes_in t.subject.now))
    (c.in_ok-holds.ensures h (shape t.ins.now e.frame e.public (around_value c.crude_around-around.result)) (coarse t.ins.now e.frame k) (c.in-Some.ensures k)
    (c.crude_for-crude.ensures k ∙ ap (coarse_for (shape_value c.in-Some.shape).act) (c.coarse_of.ensures k)) names s u is)
