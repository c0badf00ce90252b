use Rattle.std.proofs.Common.{◌≡◌, ◌<◌, length, length-take, arith}
use Rattle.std.proofs.lemmas.Result.{err_from_is_err_and}
use Rattle.mc_streams.proofs.StreamsLemmas.{rose_later}
use Rattle.mc_reader.proofs.ReadingLemmas.{size_in, took_part, short_head, short_body}
use Rattle.mc_reader.proofs.reading.read_frame.Goals as goal

pub returns-then-came-eq1-clause-reads : goal.returns-then-came-eq1-clause-reads
returns-then-came-eq1-clause-reads g c =
    let left = g.S.Source.left in
    let end : c.in_ok-came.came < length c.fill.new.into = omega (arith, c.fill.auto.into) in
    short_head (left c.args.source.now) (left c.fill.new.source) c.fill.new.into c.in_ok-came.came c.fill.auto.into c.if-came-eq1.true c.in_ok-came.ensures.bytes (c.in_ok-came.ensures.end end)

pub returns-in_err-fill-clause-reads : goal.returns-in_err-fill-clause-reads
returns-in_err-fill-clause-reads g c =
    let left = g.S.Source.left in
    let faults = g.S.Source.faults in
    let p = err_from_is_err_and c.from_residual-in_err-fill.result c.from_residual-in_err-fill.ensures.1 in
    let full : c.in_ok-came.came ≡ 2 = omega (arith, c.fill.auto.into, c.in_ok-came.ensures.bound) in
    let part = c.in_err-fill.ensures.less in
    let less : length part.part < size_in c.fill.new.into = omega (arith, simp length-take at part.less) in
    rw (p.1, p.2) (
      took_part (left c.args.source.now) (left c.fill.new.source) (left c.fill-2.new.source) c.fill.new.into part.part c.in_ok-came.came c.fill.auto.into full c.in_ok-came.ensures.bytes part.took less,
      rose_later (faults c.args.source.now) (faults c.fill.new.source) (faults c.fill-2.new.source) c.fill.ensures.counted c.in_err-fill.ensures.failed,
    )

pub returns-then-branch-count-clause-reads : goal.returns-then-branch-count-clause-reads
returns-then-branch-count-clause-reads g c =
    let left = g.S.Source.left in
    let full : c.in_ok-came.came ≡ 2 = omega (arith, c.fill.auto.into, c.in_ok-came.ensures.bound) in
    let less : c.in_ok-fill.field-0 < size_in c.fill.new.into = c.if-branch-count.true in
    let end : c.in_ok-fill.field-0 < length c.fill-2.new.into = omega (arith, less, simp length-take at c.fill-2.auto.into, c.requires) in
    short_body (left c.args.source.now) (left c.fill.new.source) (left c.fill-2.new.source) c.fill.new.into c.fill-2.new.into c.in_ok-came.came c.in_ok-fill.field-0 c.fill.auto.into full c.in_ok-came.ensures.bytes c.in_ok-fill.ensures.bytes less (c.in_ok-fill.ensures.end end)
