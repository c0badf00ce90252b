use Rattle.std.proofs.Common.{length, drop, ◌-◌, ◌+◌, ◌≤◌, Result}
use Rattle.mc_streams.specs.declared.refusals.WriteFault.{WriteFault}
use Rattle.mc_text.specs.Texts.{Sunk, sunk_in, Puts}
use Rattle.mc_lab.specs.Sweeps.{runs, runs_text}
use Rattle.mc_lab.proofs.sweep_text.put_runs.Given as goal

-- a writer of the rest of the runs writes all from the start
abbrev pub invariant-loop-at : goal.invariant-loop-at
invariant-loop-at g l =
    record {
      within : l.at ≤ length l.words;
      rest : (r : Result (Unit {0}) WriteFault) (b : Sunk) → Puts (sunk_in g.T.Sink.taken g.T.Sink.faults l.out) (runs_text (runs (1 + l.at) (drop l.at l.words))) r b
          → Puts (sunk_in g.T.Sink.taken g.T.Sink.faults l.fn.out) (runs_text (runs 1 l.words)) r b;
    }

abbrev pub decreases-loop-at : goal.decreases-loop-at
decreases-loop-at g l = length l.words - l.at
