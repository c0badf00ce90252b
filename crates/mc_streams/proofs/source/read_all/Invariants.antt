use Rattle.std.proofs.Common.{◌≡◌, ◌+◌, ◌≤◌, vec_len}
use Rattle.mc_streams.specs.Streams.{Took}
use Rattle.mc_streams.proofs.source.read_all.Given as goal

abbrev pub invariant-loop-turn : goal.invariant-loop-turn
invariant-loop-turn g l =
    let left = g.S.Source.left in
    let faults = g.S.Source.faults in
    record {
      fits : vec_len l.bytes ≤ l.limit;
      took : Took (left l.fn.source) (left l.source) l.bytes.items;
      quiet : faults l.source ≡ faults l.fn.source;
      calls : g.S.Source.calls l.source ≤ g.S.Source.calls l.fn.source + vec_len l.bytes;
      counted : faults l.fn.source ≤ faults l.source;
    }
