use Rattle.std.proofs.lemmas.Bool.{and_from}
use Rattle.prove_sum_steps.specs.Walks.{event_sums, turn_in}
use Rattle.prove_sum_steps.proofs.settling.event_holds.Goals as goal

pub returns : goal.returns
returns c h names s u e n v is at same are =
    let w = turn_in names c.args.turn.now e in
    let x = event_sums s w v c.args.line.now in
    let held = c.in_ok-sums.ensures names s u e v is are in
    and_from _ _ (c.is_settled.ensures c.if-not-is_settled.false names s u e x is held) (c.in_ok-holds.ensures h names s u e n x is at same held)
