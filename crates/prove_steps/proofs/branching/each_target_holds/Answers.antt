use Rattle.std.proofs.Common.{arith, filter, flat_map}
use Rattle.prove_facts.specs.model_prove.specs.Sets.{numbers_from}
use Rattle.prove_arrivals.specs.Subjects.{Accepts, tables_in}
use Rattle.prove_steps.specs.Steps.{by_target, is_target}
use Rattle.prove_steps.proofs.TargetLemmas.{number_next, numbers_end}
use Rattle.prove_steps.proofs.branching.each_target_holds.Goals as goal

pub loop-target-preserved : goal.loop-target-preserved
loop-target-preserved c names s o =
    let u = c.args.subject.now in
    let f = by_target names s u c.args.fetched.now c.args.at in
    let p = is_target c.args.fetched.now.before.now.bytes c.args.at in
    number_next (tables_in names u) f p c.loop-target.target c.args.limit (Accepts names u (flat_map f (filter p (numbers_from 0 c.args.limit)))) (omega arith)
    (c.in_ok-allowed_target_holds.ensures c.if-not-branch.false names s o) (c.loop-target.invariant names s o)

pub returns : goal.returns
returns c h names s o =
    let u = c.args.subject.now in
    let f = by_target names s u c.args.fetched.now c.args.at in
    let p = is_target c.args.fetched.now.before.now.bytes c.args.at in
    c.loop-target.invariant names s o (numbers_end (tables_in names u) f p c.loop-target.target c.args.limit (omega arith))
