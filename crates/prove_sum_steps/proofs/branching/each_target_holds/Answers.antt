use Rattle.std.proofs.Common.{◌≡◌, ℕ, Bool, true, arith, filter}
use Rattle.prove_facts.specs.model_prove.specs.Reach.{address_choice}
use Rattle.prove_facts.specs.model_prove.specs.Sets.{numbers_from}
use Rattle.prove_sums.specs.model_sums.specs.Closed.{all_pass, choice_closed}
use Rattle.prove_steps.specs.Steps.{is_target}
use Rattle.prove_sum_steps.specs.Walks.{turn_of}
use Rattle.prove_sum_steps.proofs.PassLemmas.{number_passes, numbers_end}
use Rattle.prove_sum_steps.proofs.branching.each_target_holds.Goals as goal

pub loop-target-preserved : goal.loop-target-preserved
loop-target-preserved c names s u is =
    let test : ℕ → Bool = λ v. choice_closed s u (turn_of names s c.args.turn.now) (address_choice c.args.at v) in
    let p = is_target c.args.turn.now.spot.now.bytes c.args.at in
    number_passes test p c.loop-target.target c.args.limit (all_pass test (filter p (numbers_from 0 c.args.limit)) ≡ true) (omega arith)
    (c.in_ok-allowed_target_holds.ensures c.if-not-branch.false names s u is) (c.loop-target.invariant names s u is)

pub returns : goal.returns
returns c h names s u is =
    let test : ℕ → Bool = λ v. choice_closed s u (turn_of names s c.args.turn.now) (address_choice c.args.at v) in
    let p = is_target c.args.turn.now.spot.now.bytes c.args.at in
    c.loop-target.invariant names s u is (numbers_end test p c.loop-target.target c.args.limit (omega arith))
