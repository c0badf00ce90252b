use Rattle.std.proofs.Common.{◌∙◌, ◌+◌, ◌*◌, ℕ, suc, Bool, ap}
use Rattle.prove_facts.specs.model_prove.specs.Facts.{Facts, values_at}
use Rattle.prove_facts.specs.model_prove.specs.Reach.{address_choice, greatest_value}
use Rattle.prove_sums.specs.model_sums.specs.Closed.{choice_closed}
use Rattle.prove_sum_steps.specs.Walks.{turn_of}
use Rattle.prove_sum_steps.proofs.PassLemmas.{last_passes}
use Rattle.prove_sum_steps.proofs.branching.last_target_holds.Goals as goal

pub returns : goal.returns
returns c h names s u is =
    let t = c.args.turn.now in
    let test : ℕ → Bool = λ v. choice_closed s u (turn_of names s t) (address_choice c.args.at v) in
    last_passes test t.spot.now.bytes c.args.at c.args.limit c.greatest_target-most.result
    (c.greatest_target-most.ensures
    ∙ ap (λ (k : Facts). greatest_value (values_at k c.args.at) * 256 + greatest_value (values_at k (suc c.args.at))) c.bytes.ensures)
    (c.in_ok-holds.ensures h names s u is)
