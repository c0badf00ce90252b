use Rattle.std.proofs.Common.{length, ◌-◌, ◌<◌, ◌≤◌}
use Rattle.mc_lab.specs.SweepBodies.{front_of, AccountsHaveRoom}
use Rattle.mc_lab.proofs.sweep_line.LineSweeper.bound.Given as goal

-- the bounds that were exceeded already
abbrev pub invariant-loop-most : goal.invariant-loop-most
invariant-loop-most g l =
    record {
      low : l.most ≤ l.bound;
      small : l.bound < 4294967295;
      room : AccountsHaveRoom l.self.ends l.self.pair (length l.place.names.now);
      played : g.D.Trials.has_played l.self.trials (front_of l.place);
    }

abbrev pub decreases-loop-most : goal.decreases-loop-most
decreases-loop-most g l = 4294967295 - l.bound
