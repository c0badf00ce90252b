use Rattle.std.proofs.Common.{length, take, ◌<◌}
use Rattle.mc_lab.specs.SweepBodies.{AccountsHaveRoom}
use Rattle.mc_lab.specs.SweepEnds.{AtMost}
use Rattle.mc_lab.proofs.sweeping.most_writes.Given as goal

-- a bound of the writes of the lines up to here
abbrev pub invariant-loop-at : goal.invariant-loop-at
invariant-loop-at g l =
    record {
      most : AtMost l.deck l.at l.most;
      small : l.most < 4294967295;
      room : AccountsHaveRoom l.sweeper.ends l.sweeper.pair (length l.names);
      played : g.D.Trials.has_played l.sweeper.trials (take l.at l.deck);
    }
