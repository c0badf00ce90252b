use Rattle.std.proofs.Common.{◌≡◌, ◌≤◌, [], length, arith, rules}
use Rattle.mc_deck.specs.Lines.{line_of}
use Rattle.meldesk.proofs.CheckLemmas.{leads_last, leads_next, leads_none}
use Rattle.meldesk.proofs.checking.verdicts_of.Goals as goal

pub loop-i-init : goal.loop-i-init
loop-i-init c = λ d h.
    let none : c.new.result.items ≡ [] = search rules in
    leads_none d c.args.deck.now c.new.result.items none

pub loop-i-preserved : goal.loop-i-preserved
loop-i-preserved c = λ d h.
    let next = c.line-number.result in
    leads_next d c.args.deck.now c.loop-i.i next.0 (line_of next.1) c.loop-i.made.passes c.push_line.new.made.passes c.loop-i.made.text.items c.push_line.new.made.text.items c.line-number.ensures.line (c.in_ok-push_line.ensures d h) (c.loop-i.invariant d h)

pub returns : goal.returns
returns c = λ d h.
    let end : length c.args.deck.now ≤ c.loop-i.i = omega arith in
    leads_last d c.args.deck.now c.loop-i.i c.loop-i.made.passes c.loop-i.made.text.items end (c.loop-i.invariant d h)
