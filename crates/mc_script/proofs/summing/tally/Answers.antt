use Rattle.std.proofs.Common.{ℕ, ◌+◌, List, ◌≤◌, drop, length, subst, rules}
use Rattle.model_play.specs.DeckGrammar.{DeckLine}
use Rattle.mc_deck.specs.Lines.{line_of}
use Rattle.mc_script.specs.Lines.{bench_of}
use Rattle.mc_script.proofs.DeckLemmas.{next_line, no_line}
use Rattle.mc_script.proofs.SumLemmas.{Counting, counting_on, counting_end}
use Rattle.mc_script.proofs.summing.tally.Goals as goal

pub loop-i-preserved : goal.loop-i-preserved
loop-i-preserved g c =
    let state = g.N.Nvm.state in
    let bench = g.N.Bench.bench in
    let a = bench_of state bench c.args.player.now in
    let deck = c.args.deck.now in
    let line = c.line-number.result in
    let here = next_line deck c.loop-i.i line.0 (line_of line.1) c.line-number.ensures.line in
    record {
      counting =
          λ s at.
          let h = subst (λ (left : List (ℕ × DeckLine)). Counting state bench s deck a c.args.steps.now left c.loop-i.player c.loop-i.counts c.loop-i.i c.loop-i.steps) here (c.loop-i.invariant.counting s at) in
          counting_on state bench _ s deck a (drop (c.loop-i.i + 1) deck) line.0 (line_of line.1) c.loop-i.player c.line-answer.new.self c.loop-i.counts c.counted-counts.result c.loop-i.i _ _ c.line-answer.result c.args.steps.now c.loop-i.steps c.line-answer.new.steps h c.line-answer.ensures.done c.line-answer.ensures.steps
          (c.counted-counts.ensures h.done h.counted);
      keeps_device = g.met.N.Nvm.onward _ _ _ c.loop-i.invariant.keeps_device c.line-answer.ensures.keeps_device;
    }

pub returns-clause-tallied : goal.returns-clause-tallied
returns-clause-tallied g c s at =
    let state = g.N.Nvm.state in
    let bench = g.N.Bench.bench in
    let a = bench_of state bench c.args.player.now in
    let deck = c.args.deck.now in
    let all : length deck ≤ c.loop-i.i = search rules in
    counting_end state bench s deck a c.loop-i.player c.loop-i.counts c.loop-i.i c.args.steps.now c.loop-i.steps
    (subst (λ (left : List (ℕ × DeckLine)). Counting state bench s deck a c.args.steps.now left c.loop-i.player c.loop-i.counts c.loop-i.i c.loop-i.steps) (no_line deck c.loop-i.i all) (c.loop-i.invariant.counting s at))

pub line-answer-requires-clause-playing : goal.line-answer-requires-clause-playing
line-answer-requires-clause-playing g c = let h = c.loop-i.invariant.counting c.requires.0 c.requires.1 in (h.here, h.at)
