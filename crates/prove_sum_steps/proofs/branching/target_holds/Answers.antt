use Rattle.std.proofs.Common.{◌≡◌, ℕ, ◌/◌, ◌%◌, ◌∷◌, [], true, subst}
use Rattle.std.proofs.Math.Numerals.{add-one}
use Rattle.prove_sums.specs.model_sums.specs.Closed.{choice_closed}
use Rattle.prove_sum_steps.specs.Walks.{turn_of}
use Rattle.prove_sum_steps.proofs.branching.target_holds.Goals as goal

pub returns : goal.returns
returns c h names s u is =
    let v = c.args.target in
    subst (λ (a : ℕ). choice_closed s u (turn_of names s c.args.turn.now) ((c.args.at, v / 256) ∷ (a, v % 256) ∷ []) ≡ true) (add-one c.args.at)
    (c.in_ok-holds.ensures h names s u is)
