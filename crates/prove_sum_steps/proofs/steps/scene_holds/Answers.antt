use Rattle.std.proofs.Common.{◌≡◌, ◌∙◌, List, true, ap, map, subst}
use Rattle.mc_isa.specs.model_machine.specs.Primitives.{Around}
use Rattle.prove_sums.specs.model_sums.specs.Closed.{all_pass, turn_closed}
use Rattle.prove_arrivals.specs.Subjects.{classes_in}
use Rattle.prove_scenes.specs.Heads.{around_value}
use Rattle.prove_sum_steps.specs.Walks.{turn_in}
use Rattle.prove_sum_steps.proofs.steps.scene_holds.Goals as goal

pub returns : goal.returns
returns c h names s u is =
    let t = c.args.turn.now in
    subst (λ (xs : List Around). all_pass (turn_closed s u (turn_in names t c.args.scene.now)) xs ≡ true)
    (ap (map around_value) c.as_slice.ensures.value ∙ c.in_ok-list.ensures (classes_in t.subject.now)) (c.in_ok-holds.ensures h names s u is)
