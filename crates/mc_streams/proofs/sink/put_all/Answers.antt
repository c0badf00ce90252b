use Rattle.std.proofs.Common.{◌≡◌, ◌-◌, ◌<◌, length, true, arith, length-drop, ◌∙◌}
use Rattle.std.proofs.lemmas.List.{take_rest}
use Rattle.mc_streams.proofs.StreamsLemmas.{counted_call, put_more, whole_call}
use Rattle.mc_streams.proofs.sink.put_all.Goals as goal

pub loop-done-preserved : goal.loop-done-preserved
loop-done-preserved g c =
    let taken = g.T.Sink.taken in
    let calls = g.T.Sink.calls in
    let done = c.loop-done.done in
    let n = c.in_ok-done.field-0 in
    let size = length c.args.piece.now in
    let before = c.loop-done.invariant in
    let bound = simp (take_rest, length-drop) at c.in_ok-done.ensures.bound in
    let rest = simp (take_rest, length-drop) at c.in_ok-done.ensures.some in
    let some : 0 < n = rest (omega (arith, c.loop-done-test.true)) in
    record {
      within = omega (arith, bound, c.loop-done-test.true);
      grew = put_more (taken c.args.sink.now) (taken c.loop-done.sink) (taken c.put.new.self) c.args.piece.now c.loop-done.done c.in_ok-done.field-0 c.loop-done.invariant.grew c.in_ok-done.ensures.bytes;
      counted = omega (arith, c.loop-done.invariant.counted, c.put.ensures.counted);
      quiet = c.in_ok-done.ensures.quiet ∙ c.loop-done.invariant.quiet;
      calls = counted_call (calls c.args.sink.now) (calls c.loop-done.sink) (calls c.put.new.self) done n before.calls c.put.ensures.calls some;
      none = λ e. absurd (omega (arith, some, e));
      one = λ whole _. whole_call calls (λ s. g.T.Sink.is_whole s ≡ true) c.args.sink.now c.loop-done.sink c.put.new.self size done n c.loop-done-test.true before.none before.one c.put.ensures.calls (λ w. let p = c.in_ok-done.ensures.whole.0 w in (p.0, simp (take_rest, length-drop) at p.1)) whole;
      flushed = λ _. c.in_ok-done.ensures.flushed some;
    }
