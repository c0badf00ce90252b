use Rattle.std.proofs.Common.{ap}
use Rattle.prove_scenes.specs.ShapeValues.{next_value}
use Rattle.prove_arrivals.specs.Following.{spot_after, spot_before}
use Rattle.prove_patterns.specs.Lengths.{lengths_value}
use Rattle.prove_arrivals.specs.Subjects.{start_in, tables_in}
use Rattle.prove_arrivals.proofs.OutcomeLemmas.{command_exit_included}
use Rattle.prove_arrivals.proofs.exits.command_exits.Goals as goal

pub returns : goal.returns
returns c t number b n names s i o x =
    let u = c.args.subject.now in
    let r = c.args.row.now in
    let g = c.args.after.now in
    let amounts = c.args.amounts.now in
    command_exit_included (tables_in names u) s i r.writes (spot_before names u r amounts) (spot_after names u r amounts g) (next_value r.next) _
    (lengths_value c.lengths_at-lengths.result) (ap next_value n) (ap (start_in u) b) c.lengths_at-lengths.ensures
    (c.in_ok-long_included.ensures c.if-not-branch.false names s o) (c.in_ok-holds.ensures t names s i o x)
