use Rattle.std.proofs.Common.{length, ◌≤◌, arith}
use Rattle.mc_deck.specs.Lines.{line_of}
use Rattle.melcard.proofs.CheckingLemmas.{leads_next, leads_last}
use Rattle.melcard.proofs.checking.verdicts_of.Goals as goal

pub loop-i-preserved : goal.loop-i-preserved
loop-i-preserved c =
    let next = c.line-number.result in
    leads_next c.args.deck.now c.loop-i.i next.0 (line_of next.1) c.loop-i.text.items c.push_line.new.text.items c.line-number.ensures.line c.in_ok-push_line.ensures c.loop-i.invariant

pub returns : goal.returns
returns c =
    let end : length c.args.deck.now ≤ c.loop-i.i = omega arith in
    leads_last c.args.deck.now c.loop-i.i c.loop-i.text.items end c.loop-i.invariant
