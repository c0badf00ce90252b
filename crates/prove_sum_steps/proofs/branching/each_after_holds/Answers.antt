use Rattle.std.proofs.Common.{◌≡◌, ◌++◌, Bool, true, arith}
use Rattle.prove_facts.specs.model_prove.specs.Splits as splits
use Rattle.prove_sums.specs.model_sums.specs.Closed.{all_pass, choice_closed}
use Rattle.prove_steps.specs.Choices.{choice_of, choices_of}
use Rattle.prove_sum_steps.specs.Walks.{turn_of}
use Rattle.prove_sum_steps.proofs.PassLemmas.{all_passed, item_passes, whole_passes}
use Rattle.prove_sum_steps.proofs.branching.each_after_holds.Goals as goal

pub loop-second-init : goal.loop-second-init
loop-second-init c names s u is h =
    let test : splits.Choice → Bool = λ d. choice_closed s u (turn_of names s c.args.turn.now) (c.args.first.now ++ d) in
    whole_passes test choice_of c.args.list.now h

pub loop-second-preserved : goal.loop-second-preserved
loop-second-preserved c names s u is =
    let test : splits.Choice → Bool = λ d. choice_closed s u (turn_of names s c.args.turn.now) (c.args.first.now ++ d) in
    let xs = c.args.list.now in
    item_passes test choice_of xs c.loop-second.second-index c.second-item.result (all_pass test (choices_of xs) ≡ true) c.loop-second-test.true c.second-item.is
    (c.in_ok-both_hold.ensures c.if-not-branch.false names s u is) (c.loop-second.invariant names s u is)

pub returns : goal.returns
returns c h names s u is =
    let test : splits.Choice → Bool = λ d. choice_closed s u (turn_of names s c.args.turn.now) (c.args.first.now ++ d) in
    all_passed test choice_of c.args.list.now c.loop-second.second-index (omega arith) (c.loop-second.invariant names s u is)
