use Rattle.std.proofs.Common.{◌≢◌, length, rules}
use Rattle.mc_lab.specs.SweepBodies.{held_value}
use Rattle.mc_lab.proofs.SweepAccounts.{mapped_apart}
use Rattle.mc_lab.proofs.sweep_account.are_same_held.Goals as goal

pub returns-then-a-b : goal.returns-then-a-b
returns-then-a-b c =
    let apart : length c.args.a.now ≢ length c.args.b.now = search rules in
    mapped_apart held_value c.args.a.now c.args.b.now apart
