use Rattle.std.proofs.Common.{◌≡◌, ◌<◌, ◌≤◌, arith, drop, length, false, true}
use Rattle.mc_text.specs.Texts.{Sunk, sunk_in}
use Rattle.mc_lab.specs.Judged.{done_of}
use Rattle.mc_lab.specs.Remarked.{remark_values}
use Rattle.mc_lab.proofs.ExpectLemmas.{fails_done}
use Rattle.mc_lab.proofs.SweepRows.{mark_below, mark_fails, mark_goes, marks_end}
use Rattle.mc_lab.proofs.sweep_marks.put_above.Goals as goal

pub returns-then-not-is_above-clause-reported : goal.returns-then-not-is_above-clause-reported
returns-then-not-is_above-clause-reported g c =
    let found = c.args.marks.now in
    let all = drop c.args.from (remark_values found) in
    let a : Sunk = sunk_in g.T.Sink.taken g.T.Sink.faults c.args.out.now in
    let b : Sunk = sunk_in g.T.Sink.taken g.T.Sink.faults c.loop-next.out in
    let lt : c.loop-next.next < length found = omega arith in
    let missed : c.is_above.result ≡ false = grind (arith, c.if-not-is_above.true) in
    (mark_below c.args.number c.args.last found all c.loop-next.next c.loop-next.whole a b c.loop-next.invariant _ lt c.is_above.result c.is_above.ensures missed).reported

pub returns-then-not-is_above-clause-left : goal.returns-then-not-is_above-clause-left
returns-then-not-is_above-clause-left g c =
    let found = c.args.marks.now in
    let all = drop c.args.from (remark_values found) in
    let a : Sunk = sunk_in g.T.Sink.taken g.T.Sink.faults c.args.out.now in
    let b : Sunk = sunk_in g.T.Sink.taken g.T.Sink.faults c.loop-next.out in
    let lt : c.loop-next.next < length found = omega arith in
    let missed : c.is_above.result ≡ false = grind (arith, c.if-not-is_above.true) in
    (mark_below c.args.number c.args.last found all c.loop-next.next c.loop-next.whole a b c.loop-next.invariant _ lt c.is_above.result c.is_above.ensures missed).left

pub returns-then-not-is_above-clause-whole : goal.returns-then-not-is_above-clause-whole
returns-then-not-is_above-clause-whole g c =
    let found = c.args.marks.now in
    let all = drop c.args.from (remark_values found) in
    let a : Sunk = sunk_in g.T.Sink.taken g.T.Sink.faults c.args.out.now in
    let b : Sunk = sunk_in g.T.Sink.taken g.T.Sink.faults c.loop-next.out in
    let lt : c.loop-next.next < length found = omega arith in
    let missed : c.is_above.result ≡ false = grind (arith, c.if-not-is_above.true) in
    (mark_below c.args.number c.args.last found all c.loop-next.next c.loop-next.whole a b c.loop-next.invariant _ lt c.is_above.result c.is_above.ensures missed).fine

pub returns-in_err-put_unless-clause-reported : goal.returns-in_err-put_unless-clause-reported
returns-in_err-put_unless-clause-reported g c =
    let found = c.args.marks.now in
    let all = drop c.args.from (remark_values found) in
    let a : Sunk = sunk_in g.T.Sink.taken g.T.Sink.faults c.args.out.now in
    let b : Sunk = sunk_in g.T.Sink.taken g.T.Sink.faults c.loop-next.out in
    let d : Sunk = sunk_in g.T.Sink.taken g.T.Sink.faults c.put_unless.new.out in
    let lt : c.loop-next.next < length found = omega arith in
    let met : c.is_above.result ≡ true = grind (arith, c.if-not-is_above.false) in
    let r = c.from_residual in
    mark_fails c.args.number c.args.last found all c.loop-next.next c.loop-next.whole a b c.loop-next.invariant _ lt c.is_above.result c.is_above.ensures met c.is_guarded-guarded.result c.is_guarded-guarded.ensures d c.in_err-put_unless.ensures (done_of r.result) (λ t f. fails_done r.result r.ensures.0 f)

pub loop-next-preserved : goal.loop-next-preserved
loop-next-preserved g c =
    let found = c.args.marks.now in
    let all = drop c.args.from (remark_values found) in
    let a : Sunk = sunk_in g.T.Sink.taken g.T.Sink.faults c.args.out.now in
    let b : Sunk = sunk_in g.T.Sink.taken g.T.Sink.faults c.loop-next.out in
    let d : Sunk = sunk_in g.T.Sink.taken g.T.Sink.faults c.put_unless.new.out in
    let lt : c.loop-next.next < length found = omega arith in
    let met : c.is_above.result ≡ true = grind (arith, c.if-not-is_above.false) in
    mark_goes c.args.number c.args.last found all c.loop-next.next c.loop-next.whole a b c.loop-next.invariant _ lt c.is_above.result c.is_above.ensures met c.is_guarded-guarded.result c.is_guarded-guarded.ensures d c.both-whole.result c.both-whole.ensures c.in_ok-put_unless.ensures

pub returns-clause-reported : goal.returns-clause-reported
returns-clause-reported g c =
    let found = c.args.marks.now in
    let all = drop c.args.from (remark_values found) in
    let a : Sunk = sunk_in g.T.Sink.taken g.T.Sink.faults c.args.out.now in
    let b : Sunk = sunk_in g.T.Sink.taken g.T.Sink.faults c.loop-next.out in
    let end : length found ≤ c.loop-next.next = omega arith in
    (marks_end c.args.number c.args.last found all c.loop-next.next c.loop-next.whole a b c.loop-next.invariant end).reported
