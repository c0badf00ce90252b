use Rattle.std.proofs.Common.{◌≡◌, true, subst}
use Rattle.prove_facts.specs.model_prove.specs.Splits.{Choice}
use Rattle.prove_sums.specs.model_sums.specs.Closed.{first_choice_closed}
use Rattle.prove_arrivals.specs.Subjects.{start_in}
use Rattle.prove_keys.specs.Keys.{amounts_of}
use Rattle.prove_steps.proofs.StepLemmas.{from_some}
use Rattle.prove_sum_steps.specs.Walks.{turn_of}
use Rattle.prove_sum_steps.proofs.branching.first_included.Goals as goal

pub first_holds-requires-clause-scene : goal.first_holds-requires-clause-scene
first_holds-requires-clause-scene c names s sized =
    let t = c.args.turn.now in
    (from_some _ _ _ c.in-Some.is c.in_ok-scene.ensures) s.app (start_in t.subject.now t.key.now.begun) (amounts_of names t.key.now.amounts.items) sized

pub returns : goal.returns
returns c h names s u is =
    subst (λ (d : Choice). first_choice_closed s u (turn_of names s c.args.turn.now) d ≡ true) c.as_slice-first.ensures.value (c.in_ok-holds.ensures h names s u is)
