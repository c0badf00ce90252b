use Rattle.std.proofs.Common.{◌<◌, ◌≡◌, arith}
use Rattle.mc_deck.specs.Lines.{line_of}
use Rattle.prove_rules.proofs.LoadLemmas.{at_place, line_before, line_past}
use Rattle.prove_rules.proofs.load.load_at.Goals as goal

pub returns-then-there-number : goal.returns-then-there-number
returns-then-there-number c =
    let same : c.line-there.result.0 ≡ c.args.number = c.if-there-number.true in
    at_place c.args.number c.args.deck.now c.loop-i.i c.line-there.result.0 (line_of c.line-there.result.1) c.load_in.result c.line-there.ensures.line same c.loop-i.invariant c.load_in.ensures

pub returns-then-there-number-2 : goal.returns-then-there-number-2
returns-then-there-number-2 c =
    line_past c.args.number c.args.deck.now c.loop-i.i c.line-there.result.0 (line_of c.line-there.result.1) c.line-there.ensures.line c.if-there-number-2.true c.loop-i.invariant

pub loop-i-preserved : goal.loop-i-preserved
loop-i-preserved c =
    let lower : c.line-there.result.0 < c.args.number = omega (arith, c.if-there-number.false, c.if-there-number-2.false) in
    line_before c.args.number c.args.deck.now c.loop-i.i c.line-there.result.0 (line_of c.line-there.result.1) c.line-there.ensures.line lower c.loop-i.invariant
