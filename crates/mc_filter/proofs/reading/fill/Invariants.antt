use Rattle.std.proofs.Common.{◌≡◌, ◌+◌, ◌-◌, ◌≤◌, vec_len, vec_capacity}
use Rattle.mc_streams.specs.Streams.{Took}
use Rattle.mc_filter.proofs.reading.fill.Given as goal

-- what was read so far came from the source, and there is room for the rest
abbrev pub invariant-loop-count : goal.invariant-loop-count
invariant-loop-count g l =
    let left = g.S.Source.left in
    let faults = g.S.Source.faults in
    record {
      fits : vec_len l.bytes ≤ 1048576;
      room : 1048576 ≤ vec_capacity l.bytes;
      took : Took (left l.fn.input) (left l.input) l.bytes.items;
      quiet : faults l.input ≡ faults l.fn.input;
      calls : g.S.Source.calls l.input ≤ g.S.Source.calls l.fn.input + vec_len l.bytes;
    }

abbrev pub decreases-loop-count : goal.decreases-loop-count
decreases-loop-count g l = 1048576 - vec_len l.bytes
