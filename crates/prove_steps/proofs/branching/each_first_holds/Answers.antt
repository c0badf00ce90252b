use Rattle.std.proofs.Common.{arith, flat_map}
use Rattle.prove_arrivals.specs.Subjects.{Accepts, tables_in}
use Rattle.prove_steps.specs.Choices.{choice_of, choices_of}
use Rattle.prove_steps.specs.Steps.{by_first_choice}
use Rattle.prove_steps.proofs.StepLemmas.{item_next, values_all, values_whole}
use Rattle.prove_steps.proofs.branching.each_first_holds.Goals as goal

pub loop-first-init : goal.loop-first-init
loop-first-init c names s o h =
    values_whole (tables_in names c.args.subject.now) (by_first_choice names s c.args.subject.now c.args.fetched.now) choice_of c.args.list.now h

pub loop-first-preserved : goal.loop-first-preserved
loop-first-preserved c names s o =
    let u = c.args.subject.now in
    let f = by_first_choice names s u c.args.fetched.now in
    let xs = c.args.list.now in
    item_next (tables_in names u) f choice_of xs c.loop-first.first-index c.first-item.result (Accepts names u (flat_map f (choices_of xs))) c.loop-first-test.true c.first-item.is
    (c.in_ok-first_included.ensures c.if-not-branch.false names s o) (c.loop-first.invariant names s o)

pub returns : goal.returns
returns c h names s o =
    let u = c.args.subject.now in
    values_all (tables_in names u) (by_first_choice names s u c.args.fetched.now) choice_of c.args.list.now c.loop-first.first-index (omega arith) (c.loop-first.invariant names s o)
