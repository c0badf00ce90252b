use Rattle.std.proofs.Common.{arith}
use Rattle.prove_facts.specs.model_prove.specs.Steps as steps
use Rattle.prove_spots.specs.Grounds.{spot_of}
use Rattle.prove_steps.proofs.StepLemmas.{chosen_next, chosen_last}
use Rattle.prove_steps.proofs.stepping.know_chosen.Goals as goal

pub loop-at-preserved : goal.loop-at-preserved
loop-at-preserved c s a =
    let xs = c.args.choice.now in
    let r = steps.chosen xs (spot_of s a c.args.spot.now) in
    chosen_next xs c.loop-at.at-index _ (spot_of s a c.loop-at.spot) _ r (omega arith) (c.in_ok-known.ensures.spot s a) (c.loop-at.invariant s a)

pub returns : goal.returns
returns c s a =
    let xs = c.args.choice.now in
    chosen_last xs c.loop-at.at-index (spot_of s a c.loop-at.spot) (steps.chosen xs (spot_of s a c.args.spot.now)) (omega arith) (c.loop-at.invariant s a)
