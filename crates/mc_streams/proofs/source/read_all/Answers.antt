use Rattle.std.proofs.Common.{◌≡◌, ◌-◌, ◌<◌, ◌≤◌, ◌+◌, length, length-take, arith}
use Rattle.mc_streams.proofs.StreamsLemmas.{took_over, took_within}
use Rattle.mc_streams.proofs.source.read_all.Goals as goal

pub returns-then-count-limit-clause-long : goal.returns-then-count-limit-clause-long
returns-then-count-limit-clause-long g c =
    let left = g.S.Source.left in
    λ is. took_over (left c.args.source.now) (left c.loop-turn.source) (left c.take.new.self) c.loop-turn.bytes.items c.take.new.into c.in_ok-count.count c.args.limit c.in_ok-count.ensures.bound (omega (arith, c.loop-turn.bytes.ok.0)) c.loop-turn.invariant.took c.in_ok-count.ensures.bytes

pub returns-then-count-limit-clause-ends : goal.returns-then-count-limit-clause-ends
returns-then-count-limit-clause-ends g c =
    let left = g.S.Source.left in
    took_within (left c.args.source.now) (left c.loop-turn.source) (left c.take.new.self) c.loop-turn.bytes.items c.take.new.into c.in_ok-count.count c.args.limit (omega (arith, c.loop-turn.bytes.ok.0)) (omega (arith, c.loop-turn.bytes.ok.0, c.len.ensures, c.min-wanted.ensures, simp length-take at c.take.auto.into)) c.loop-turn.invariant.took c.in_ok-count.ensures.bytes

pub returns-in_err-extend_from_slice-clause-ends : goal.returns-in_err-extend_from_slice-clause-ends
returns-in_err-extend_from_slice-clause-ends g c =
    let left = g.S.Source.left in
    took_within (left c.args.source.now) (left c.loop-turn.source) (left c.take.new.self) c.loop-turn.bytes.items c.take.new.into c.in_ok-count.count c.args.limit (omega (arith, c.loop-turn.bytes.ok.0)) (omega (arith, c.loop-turn.bytes.ok.0, c.len.ensures, c.min-wanted.ensures, simp length-take at c.take.auto.into)) c.loop-turn.invariant.took c.in_ok-count.ensures.bytes
