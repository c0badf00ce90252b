use Rattle.std.proofs.Common.{ℕ, ◌+◌, List, ◌≤◌, drop, length, sym, subst, rules}
use Rattle.mc_deck.specs.model_play.specs.DeckGrammar.{DeckLine}
use Rattle.mc_deck.specs.model_play.specs.Play.{start}
use Rattle.mc_deck.specs.Lines.{line_of}
use Rattle.mc_script.specs.Plays.{Bench}
use Rattle.mc_script.proofs.DeckLemmas.{next_line, no_line}
use Rattle.desk_cover.specs.Plays.{CountsPlay}
use Rattle.desk_cover.proofs.PlayLemmas.{Counting, counting_start, counting_on, counting_end}
use Rattle.desk_cover.proofs.covering.count_lines.Goals as goal

pub loop-i-init : goal.loop-i-init
loop-i-init g c =
    let state = g.N.Nvm.state in
    let bench = g.N.Bench.bench in
    let first = start (state c.args.device).words in
    let counting = counting_start state bench first c.args.deck.now c.new-player.result c.args.counter.now c.new-player.ensures.at in
    record {
      counting =
          subst (λ d. Counting state bench first c.args.deck.now (record { device = state d; bench = bench d }) c.args.counter.now c.args.deck.now c.new-player.result c.args.counter.now) c.new-player.ensures.device counting;
      keeps_device = subst (λ d. g.N.Nvm.same c.args.device d) (sym c.new-player.ensures.device) (g.met.N.Nvm.itself c.args.device);
    }

pub loop-i-preserved : goal.loop-i-preserved
loop-i-preserved g c =
    let state = g.N.Nvm.state in
    let bench = g.N.Bench.bench in
    let a : Bench = record { device = state c.args.device; bench = bench c.args.device } in
    let deck = c.args.deck.now in
    let line = c.line-number.result in
    let first = start (state c.args.device).words in
    let here = next_line deck c.loop-i.i line.0 (line_of line.1) c.line-number.ensures.line in
    let h = subst (λ (left : List (ℕ × DeckLine)). Counting state bench first deck a c.args.counter.now left c.loop-i.player c.loop-i.counter) here c.loop-i.invariant.counting in
    record {
      counting =
          counting_on state bench first deck a c.args.counter.now (drop (c.loop-i.i + 1) deck) line.0 (line_of line.1) c.loop-i.player c.line-answer.new.self c.loop-i.counter c.line-answer.new.runner c.line-answer.result h c.line-answer.ensures.done;
      keeps_device = g.met.N.Nvm.onward _ _ _ c.loop-i.invariant.keeps_device c.line-answer.ensures.keeps_device;
    }

pub returns-clause-counts : goal.returns-clause-counts
returns-clause-counts g c =
    let state = g.N.Nvm.state in
    let bench = g.N.Bench.bench in
    let a : Bench = record { device = state c.args.device; bench = bench c.args.device } in
    let deck = c.args.deck.now in
    let first = start (state c.args.device).words in
    let all : length deck ≤ c.loop-i.i = search rules in
    let counts =
    counting_end state bench first deck a c.args.counter.now c.loop-i.player c.loop-i.counter
    (subst (λ (left : List (ℕ × DeckLine)). Counting state bench first deck a c.args.counter.now left c.loop-i.player c.loop-i.counter) (no_line deck c.loop-i.i all) c.loop-i.invariant.counting)
    in
    subst (λ d. CountsPlay first deck a (record { device = state d; bench = bench d }) c.args.counter.now c.loop-i.counter) (sym c.into_dev.ensures) counts

pub line-answer-requires-clause-playing : goal.line-answer-requires-clause-playing
line-answer-requires-clause-playing g c = (c.loop-i.invariant.counting.here, c.loop-i.invariant.counting.at)
