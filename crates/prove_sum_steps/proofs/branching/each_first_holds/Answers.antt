use Rattle.std.proofs.Common.{◌≡◌, true, arith}
use Rattle.prove_sums.specs.model_sums.specs.Closed.{all_pass, first_choice_closed}
use Rattle.prove_steps.specs.Choices.{choice_of, choices_of}
use Rattle.prove_sum_steps.specs.Walks.{turn_of}
use Rattle.prove_sum_steps.proofs.PassLemmas.{all_passed, item_passes, whole_passes}
use Rattle.prove_sum_steps.proofs.branching.each_first_holds.Goals as goal

pub loop-first-init : goal.loop-first-init
loop-first-init c names s u is h = whole_passes (first_choice_closed s u (turn_of names s c.args.turn.now)) choice_of c.args.list.now h

pub loop-first-preserved : goal.loop-first-preserved
loop-first-preserved c names s u is =
    let test = first_choice_closed s u (turn_of names s c.args.turn.now) in
    let xs = c.args.list.now in
    item_passes test choice_of xs c.loop-first.first-index c.first-item.result (all_pass test (choices_of xs) ≡ true) c.loop-first-test.true c.first-item.is
    (c.in_ok-first_included.ensures c.if-not-branch.false names s u is) (c.loop-first.invariant names s u is)

pub returns : goal.returns
returns c h names s u is =
    all_passed (first_choice_closed s u (turn_of names s c.args.turn.now)) choice_of c.args.list.now c.loop-first.first-index (omega arith)
    (c.loop-first.invariant names s u is)
