use Rattle.std.proofs.Common.{ℕ, ◌+◌, List, ◌≤◌, drop, length, subst, rules}
use Rattle.model_play.specs.DeckGrammar.{DeckLine}
use Rattle.mc_deck.specs.Lines.{line_of}
use Rattle.mc_script.specs.Lines.{bench_of}
use Rattle.mc_script.proofs.DeckLemmas.{next_line, no_line}
use Rattle.mc_script.proofs.Composing.{Between, between_start, between_on, between_end}
use Rattle.mc_script.proofs.player.Player.deck.Goals as goal

pub loop-i-init : goal.loop-i-init
loop-i-init g c =
    record {
      between = λ s at. between_start g.N.Nvm.state g.N.Bench.bench s c.args.deck.now c.args.self.now at;
      keeps_device = g.met.N.Nvm.itself _;
    }

pub loop-i-preserved : goal.loop-i-preserved
loop-i-preserved g c =
    let state = g.N.Nvm.state in
    let bench = g.N.Bench.bench in
    let a = bench_of state bench c.args.self.now in
    let deck = c.args.deck.now in
    let line = c.line-number.result in
    let here = next_line deck c.loop-i.i line.0 (line_of line.1) c.line-number.ensures.line in
    record {
      between =
          λ s at.
          between_on state bench _ s deck a (drop (c.loop-i.i + 1) deck) line.0 (line_of line.1) c.loop-i.self c.line-answer.new.self _ _ c.line-answer.result
          (subst (λ (left : List (ℕ × DeckLine)). Between state bench s deck a left c.loop-i.self) here (c.loop-i.invariant.between s at)) c.line-answer.ensures.done;
      keeps_device = g.met.N.Nvm.onward _ _ _ c.loop-i.invariant.keeps_device c.line-answer.ensures.keeps_device;
    }

pub returns-clause-done : goal.returns-clause-done
returns-clause-done g c s at =
    let state = g.N.Nvm.state in
    let bench = g.N.Bench.bench in
    let deck = c.args.deck.now in
    let all : length deck ≤ c.loop-i.i = search rules in
    between_end state bench s deck c.args.self.now c.loop-i.self
    (subst (λ (left : List (ℕ × DeckLine)). Between state bench s deck (bench_of state bench c.args.self.now) left c.loop-i.self) (no_line deck c.loop-i.i all) (c.loop-i.invariant.between s at))

pub line-answer-requires-clause-playing : goal.line-answer-requires-clause-playing
line-answer-requires-clause-playing g c = let h = c.loop-i.invariant.between c.requires.playing.0 c.requires.playing.1 in (h.here, h.at)
