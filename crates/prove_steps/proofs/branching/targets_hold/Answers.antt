use Rattle.std.proofs.Common.{◌-◌, length, rules}
use Rattle.prove_arrivals.specs.Subjects.{tables_in}
use Rattle.prove_steps.specs.Steps.{by_choice}
use Rattle.prove_steps.proofs.TargetLemmas.{targets_at}
use Rattle.prove_steps.proofs.branching.targets_hold.Goals as goal

pub returns : goal.returns
returns c h names s o =
    let u = c.args.subject.now in
    let f = c.args.fetched.now in
    targets_at (tables_in names u) (by_choice names s u f) f.before.now.bytes c.saturating_sub-at.result (f.before.now.dt - 2) (length u.code.now) (search rules)
    (c.in_ok-each_target_holds.ensures c.if-not-branch.false names s o) (c.in_ok-holds.ensures h names s o)
