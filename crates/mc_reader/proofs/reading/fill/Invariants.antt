use Rattle.std.proofs.Common.{length, ◌-◌, ◌≤◌, take}
use Rattle.mc_streams.specs.Streams.{Took}
use Rattle.mc_reader.proofs.reading.fill.Given as goal

abbrev pub invariant-loop-done : goal.invariant-loop-done
invariant-loop-done g l =
    let left = g.S.Source.left in
    let faults = g.S.Source.faults in
    record {
      within : l.done ≤ length l.into;
      took : Took (left l.fn.source) (left l.source) (take l.done l.into);
      counted : faults l.fn.source ≤ faults l.source;
    }

abbrev pub decreases-loop-done : goal.decreases-loop-done
decreases-loop-done g l = length l.into - l.done
