use Rattle.std.proofs.Common.{◌≡◌, ◌+◌, ◌-◌, ◌∙◌, arith, sym, ap}
use Rattle.mc_deck.specs.Lines.{line_of}
use Rattle.mc_lab.proofs.SweepDecks.{free_start, free_same, free_decided, is_free_at}
use Rattle.mc_lab.proofs.sweeping.is_free.Goals as goal

pub returns-in-Some : goal.returns-in-Some
returns-in-Some c =
    let line = c.line-number.result in
    let left = c.loop-left.left in
    let next : left ≡ left - 1 + 1 = omega arith in
    sym (c.loop-left.invariant.same ∙ free_decided c.args.deck.now (left - 1) left line.0 (line_of line.1) c.in-Some.free next c.line-number.ensures.line c.in-Some.ensures)

pub loop-left-preserved : goal.loop-left-preserved
loop-left-preserved c =
    let line = c.line-number.result in
    let left = c.loop-left.left in
    let next : left ≡ left - 1 + 1 = omega arith in
    record {
      within = omega arith;
      same = c.loop-left.invariant.same ∙ free_same c.args.deck.now (left - 1) left line.0 (line_of line.1) next c.line-number.ensures.line c.in_default.ensures;
    }

pub returns : goal.returns
returns c =
    let none : c.loop-left.left ≡ 0 = omega arith in
    sym (c.loop-left.invariant.same ∙ ap (is_free_at c.args.deck.now) none ∙ sym (free_start c.args.deck.now))
