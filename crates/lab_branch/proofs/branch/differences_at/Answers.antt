use Rattle.lab_branch.specs.Branches.{differences_at}
use Rattle.lab_branch.proofs.BranchLemmas.{differences_all, differences_on, differs_at_place, err_is}
use Rattle.lab_branch.proofs.branch.differences_at.Goals as goal

pub loop-place-preserved : goal.loop-place-preserved
loop-place-preserved c =
    let words = c.args.device.now.words in
    let places = c.args.places.now in
    differences_on words c.args.root.now places c.loop-place.place-index c.loop-place.differences.items c.add_difference.new.differences.items (differences_at words c.args.root.now places) 0 c.loop-place-test.true c.loop-place.invariant
    c.in_ok-add_difference.ensures.added

pub returns-clause-differ : goal.returns-clause-differ
returns-clause-differ c =
    let words = c.args.device.now.words in
    let places = c.args.places.now in
    differences_all words c.args.root.now places c.loop-place.place-index c.loop-place.differences.items (differences_at words c.args.root.now places) c.loop-place-test.false c.loop-place.invariant

pub returns-in_err-add_difference-clause-memory : goal.returns-in_err-add_difference-clause-memory
returns-in_err-add_difference-clause-memory c = err_is c.from_residual.result (differs_at_place c.args.device.now.words c.args.root.now _ c.in_err-add_difference.ensures.memory)
