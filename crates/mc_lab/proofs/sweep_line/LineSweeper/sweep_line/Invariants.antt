use Rattle.std.proofs.Common.{◌≡◌, length}
use Rattle.mc_lab.specs.SweepBodies.{account_value, front_of, state_at_place, AccountsHaveRoom}
use Rattle.mc_lab.specs.declared.sweep_trial.TrialLines.TheVariants as trial
use Rattle.mc_lab.proofs.SweepLoops.{Sweeping}
use Rattle.mc_lab.proofs.sweep_line.LineSweeper.sweep_line.Given as goal

-- the writes that were cut already
abbrev pub invariant-loop-writes : goal.invariant-loop-writes
invariant-loop-writes g l =
    record {
      sweeping : Sweeping l.place l.writes l.words l.plays;
      before : account_value l.self.ends.before ≡ state_at_place l.place trial.Nothing;
      after : account_value l.self.ends.after ≡ state_at_place l.place trial.Whole;
      room : AccountsHaveRoom l.self.ends l.self.pair (length l.place.names.now);
      size : length l.words ≡ length l.fn.words;
      played : g.D.Trials.has_played l.self.trials (front_of l.place);
    }
