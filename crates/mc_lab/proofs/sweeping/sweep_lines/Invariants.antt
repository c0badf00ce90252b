use Rattle.std.proofs.Common.{◌≡◌, length, take, Bool, Result}
use Rattle.mc_streams.specs.declared.refusals.WriteFault.{WriteFault}
use Rattle.mc_text.specs.Texts.{Sunk, Puts, sunk_in}
use Rattle.mc_lab.specs.declared.sweep_text.Sums.{Sums}
use Rattle.mc_lab.specs.Remarked.{remark_values}
use Rattle.mc_lab.specs.Sweeps.{marks_after, rows_text, rows_to, MarksLeft}
use Rattle.mc_lab.specs.SweepBodies.{AccountsHaveRoom}
use Rattle.mc_lab.specs.SweepEnds.{pending_value, sweeps_from, AddsFine, AddsSums, IsSmall}
use Rattle.mc_lab.proofs.sweeping.sweep_lines.Given as goal

-- a writer of the text of the rest of the lines writes all from the start
abbrev pub invariant-loop-at : goal.invariant-loop-at
invariant-loop-at g l =
    record {
      reported : (r : Result (Unit {0}) WriteFault) (b : Sunk)
          → Puts (sunk_in g.T.Sink.taken g.T.Sink.faults l.out) (rows_text (remark_values l.marks) (rows_to (pending_value (remark_values l.marks) l.pending) (sweeps_from l.names l.deck l.at))) r b
          → Puts (sunk_in g.T.Sink.taken g.T.Sink.faults l.fn.out) (rows_text (remark_values l.marks) (rows_to (pending_value (remark_values l.marks) l.fn.pending) (sweeps_from l.names l.deck 0))) r b;
      adds : (b : Sums) → AddsSums l.sums (sweeps_from l.names l.deck l.at) b → AddsSums l.fn.sums (sweeps_from l.names l.deck 0) b;
      fine : (b : Bool) → AddsFine (remark_values l.marks) l.sums.whole (rows_to (pending_value (remark_values l.marks) l.pending) (sweeps_from l.names l.deck l.at)) b
          → AddsFine (remark_values l.marks) l.fn.sums.whole (rows_to (pending_value (remark_values l.marks) l.fn.pending) (sweeps_from l.names l.deck 0)) b;
      left : (q : MarksLeft) → q ≡ marks_after (pending_value (remark_values l.marks) l.pending) (sweeps_from l.names l.deck l.at) → q ≡ marks_after (pending_value (remark_values l.marks) l.fn.pending) (sweeps_from l.names l.deck 0);
      small : IsSmall l.sums l.at;
      size : length l.words ≡ length l.fn.words;
      room : AccountsHaveRoom l.sweeper.ends l.sweeper.pair (length l.names);
      played : g.D.Trials.has_played l.sweeper.trials (take l.at l.deck);
    }
