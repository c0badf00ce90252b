use Rattle.std.proofs.Common.{arith}
use Rattle.mc_deck.specs.Lines.{line_of}
use Rattle.mc_lab.specs.Expectations.{line_number}
use Rattle.mc_lab.proofs.BelowLemmas.{count_most, count_step, count_stop}
use Rattle.mc_lab.proofs.expected_deck.count_above.Goals as goal

pub returns-then-line-number-clause-count : goal.returns-then-line-number-clause-count
returns-then-line-number-clause-count c =
    let line = c.line-line.result in
    count_stop line_number c.args.number c.args.deck.now c.loop-count.count (line.0, line_of line.1) c.line-line.ensures.line (omega (arith, c.if-line-number.true)) c.loop-count.invariant

pub loop-count-preserved : goal.loop-count-preserved
loop-count-preserved c =
    let line = c.line-line.result in
    count_step line_number c.args.number c.args.deck.now c.loop-count.count (line.0, line_of line.1) c.line-line.ensures.line (omega (arith, c.if-line-number.false)) c.loop-count.invariant

pub returns-clause-most : goal.returns-clause-most
returns-clause-most c = omega (arith, c.loop-count.invariant, count_most line_number c.args.number c.args.deck.now)
