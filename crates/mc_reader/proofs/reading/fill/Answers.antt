use Rattle.std.proofs.Common.{◌-◌, length, take, List, ℕ, sym, subst, arith}
use Rattle.mc_streams.specs.Streams.{Took}
use Rattle.mc_streams.proofs.StreamsLemmas.{took_append}
use Rattle.mc_reader.proofs.ReadingLemmas.{filled}
use Rattle.mc_reader.proofs.reading.fill.Goals as goal

pub loop-done-preserved : goal.loop-done-preserved
loop-done-preserved g c =
    let left = g.S.Source.left in
    let at = c.loop-done.done in
    let room = length c.loop-done.into - at in
    record {
      within = omega (arith, c.loop-done.invariant.within, c.in_ok-count.ensures.bound);
      took =
          subst (λ (t : List ℕ). Took (left c.args.source.now) (left c.take.new.self) t) (sym (filled at room c.in_ok-count.count c.loop-done.into c.take.new.into c.loop-done.invariant.within c.in_ok-count.ensures.bound))
          (took_append (left c.args.source.now) (left c.loop-done.source) (left c.take.new.self) (take at c.loop-done.into) (take c.in_ok-count.count c.take.new.into) c.loop-done.invariant.took c.in_ok-count.ensures.bytes);
      counted = omega (arith, c.loop-done.invariant.counted, c.take.ensures.counted);
    }
