use Rattle.std.proofs.Common.{length-take, arith}
use Rattle.mc_streams.proofs.StreamsLemmas.{took_over, took_within}
use Rattle.mc_filter.proofs.reading.fill.Goals as goal

pub returns-then-count-len-clause-long : goal.returns-then-count-len-clause-long
returns-then-count-len-clause-long g c =
    let left = g.S.Source.left in
    λ is. took_over (left c.args.input.now) (left c.loop-count.input) (left c.take.new.self) c.loop-count.bytes.items c.take.new.into c.in-Ok.count 1048576 c.in-Ok.ensures.bound (omega (arith, c.loop-count.bytes.ok.0)) c.loop-count.invariant.took c.in-Ok.ensures.bytes

pub returns-then-count-len-clause-ends : goal.returns-then-count-len-clause-ends
returns-then-count-len-clause-ends g c =
    let left = g.S.Source.left in
    took_within (left c.args.input.now) (left c.loop-count.input) (left c.take.new.self) c.loop-count.bytes.items c.take.new.into c.in-Ok.count 1048576 (omega (arith, c.loop-count.bytes.ok.0)) (omega (arith, c.loop-count.bytes.ok.0, c.len.ensures, c.min-wanted.ensures, simp length-take at c.take.auto.into)) c.loop-count.invariant.took c.in-Ok.ensures.bytes
