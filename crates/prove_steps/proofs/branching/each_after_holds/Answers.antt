use Rattle.std.proofs.Common.{arith, ◌++◌, List, flat_map}
use Rattle.prove_facts.specs.model_prove.specs.Arrivals.{Arrival}
use Rattle.prove_facts.specs.model_prove.specs.Splits as splits
use Rattle.prove_arrivals.specs.Subjects.{Accepts, tables_in}
use Rattle.prove_steps.specs.Choices.{choice_of, choices_of}
use Rattle.prove_steps.specs.Steps.{by_choice}
use Rattle.prove_steps.proofs.StepLemmas.{item_next, values_all, values_whole}
use Rattle.prove_steps.proofs.branching.each_after_holds.Goals as goal

pub loop-second-init : goal.loop-second-init
loop-second-init c names s o h =
    let f : splits.Choice → List Arrival = λ d. by_choice names s c.args.subject.now c.args.fetched.now (c.args.first.now ++ d) in
    values_whole (tables_in names c.args.subject.now) f choice_of c.args.list.now h

pub loop-second-preserved : goal.loop-second-preserved
loop-second-preserved c names s o =
    let u = c.args.subject.now in
    let f : splits.Choice → List Arrival = λ d. by_choice names s u c.args.fetched.now (c.args.first.now ++ d) in
    let xs = c.args.list.now in
    item_next (tables_in names u) f choice_of xs c.loop-second.second-index c.second-item.result (Accepts names u (flat_map f (choices_of xs))) c.loop-second-test.true c.second-item.is
    (c.in_ok-both_hold.ensures c.if-not-branch.false names s o) (c.loop-second.invariant names s o)

pub returns : goal.returns
returns c h names s o =
    let u = c.args.subject.now in
    let f : splits.Choice → List Arrival = λ d. by_choice names s u c.args.fetched.now (c.args.first.now ++ d) in
    values_all (tables_in names u) f choice_of c.args.list.now c.loop-second.second-index (omega arith) (c.loop-second.invariant names s o)
