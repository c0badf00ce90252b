use Rattle.std.proofs.Common.{◌≡◌, ◌∙◌, true, subst}
use Rattle.prove_facts.specs.model_prove.specs.Splits.{Choice}
use Rattle.prove_sums.specs.model_sums.specs.Closed.{choice_closed}
use Rattle.prove_sum_steps.specs.Walks.{turn_of}
use Rattle.prove_sum_steps.proofs.branching.both_hold.Goals as goal

pub returns : goal.returns
returns c h names s u is =
    subst (λ (d : Choice). choice_closed s u (turn_of names s c.args.turn.now) d ≡ true) (c.as_slice.ensures.value ∙ c.in_ok-choice.ensures)
    (c.in_ok-holds.ensures h names s u is)
