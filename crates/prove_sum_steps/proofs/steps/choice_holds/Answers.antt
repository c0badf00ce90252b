use Rattle.std.proofs.Common.{◌≡◌, true, subst}
use Rattle.prove_facts.specs.model_prove.specs.Splits.{Scene}
use Rattle.prove_arrivals.specs.Subjects.{start_in}
use Rattle.prove_keys.specs.Keys.{amounts_of}
use Rattle.prove_steps.proofs.StepLemmas.{from_some}
use Rattle.prove_sum_steps.specs.Walks.{scene_closed, turn_in}
use Rattle.prove_sum_steps.proofs.steps.choice_holds.Goals as goal

pub returns : goal.returns
returns c h names s u is =
    let t = c.args.turn.now in
    subst (λ (e : Scene). scene_closed s u (turn_in names t e) ≡ true)
    ((from_some _ _ _ c.in-Some.is c.in_ok-scene.ensures) s.app (start_in t.subject.now t.key.now.begun) (amounts_of names t.key.now.amounts.items) is.over.subject.sized)
    (c.in_ok-holds.ensures h names s u is)
