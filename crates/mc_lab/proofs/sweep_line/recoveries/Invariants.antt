use Rattle.std.proofs.Common.{◌≡◌}
use Rattle.mc_lab.specs.SweepBodies.{account_value, front_of, AccountFits}
use Rattle.mc_lab.proofs.SweepLoops.{Recovering}
use Rattle.mc_lab.proofs.sweep_line.recoveries.Given as goal

-- the recoveries that were cut already
abbrev pub invariant-loop-made : goal.invariant-loop-made
invariant-loop-made g l =
    record {
      recovering : Recovering l.place l.k l.fill (account_value l.fn.pair.first) l.made l.same;
      first : l.pair.first ≡ l.fn.pair.first;
      room : AccountFits l.pair.now l.place;
      played : g.D.Trials.has_played l.trials (front_of l.place);
    }
