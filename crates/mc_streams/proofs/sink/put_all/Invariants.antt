use Rattle.std.proofs.Common.{◌≡◌, ◌+◌, ◌-◌, ◌<◌, ◌≤◌, true, length, take}
use Rattle.mc_streams.specs.Streams.{one_more, Grew}
use Rattle.mc_streams.proofs.sink.put_all.Given as goal

abbrev pub invariant-loop-done : goal.invariant-loop-done
invariant-loop-done g l =
    let taken = g.T.Sink.taken in
    let faults = g.T.Sink.faults in
    record {
      within : l.done ≤ length l.piece;
      grew : Grew (taken l.fn.sink) (taken l.sink) (take l.done l.piece);
      counted : faults l.fn.sink ≤ faults l.sink;
      quiet : faults l.sink ≡ faults l.fn.sink;
      calls : g.T.Sink.calls l.sink ≤ g.T.Sink.calls l.fn.sink + l.done;
      none : l.done ≡ 0 → l.sink ≡ l.fn.sink;
      one : g.T.Sink.is_whole l.sink ≡ true → 0 < l.done → (g.T.Sink.calls l.sink ≡ one_more (g.T.Sink.calls l.fn.sink)) × (l.done ≡ length l.piece);
      flushed : 0 < l.done → g.T.Sink.is_flushed l.sink ≡ true;
    }

abbrev pub decreases-loop-done : goal.decreases-loop-done
decreases-loop-done g l = length l.piece - l.done
