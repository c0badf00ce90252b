use Rattle.std.proofs.Common.{subst}
use Rattle.law_explore_text.specs.model_play.specs.DeckGrammar.{DeckLine}
use Rattle.mc_deck.specs.Lines.{line_of}
use Rattle.lab_search.specs.Playing.{PlaysAs, CountsAs}
use Rattle.lab_search.proofs.PlayerLemmas.{line_playing, plays_as, reports_as}
use Rattle.lab_search.proofs.making.play_move.Goals as goal

pub returns-clause-playing : goal.returns-clause-playing
returns-clause-playing g c =
    line_playing g.N.Nvm.state g.N.Bench.bench _ c.args.player.now c.play_counted.new.player (line_of c.line-line.result) _ _ c.play_counted.result c.play_counted.ensures.done c.requires

pub returns-clause-plays : goal.returns-clause-plays
returns-clause-plays g c l is =
    subst (λ (x : DeckLine). PlaysAs g.N.Nvm.state g.N.Bench.bench c.args.player.now x c.play_counted.result c.play_counted.new.player) (c.line-line.ensures.line l is)
    (plays_as g.N.Nvm.state g.N.Bench.bench _ c.args.player.now c.play_counted.new.player (line_of c.line-line.result) _ _ c.play_counted.result c.play_counted.ensures.done)

pub returns-clause-counts : goal.returns-clause-counts
returns-clause-counts g c l is =
    subst (λ (x : DeckLine). CountsAs g.N.Nvm.state g.N.Bench.bench c.args.candidate.now.ons.now c.args.candidate.now.applies.now c.args.player.now x c.args.counts.now c.play_counted.new.counts) (c.line-line.ensures.line l is)
    (λ s n at steady fails. reports_as g.N.Nvm.state g.N.Bench.bench _ c.args.player.now c.play_counted.new.player (line_of c.line-line.result) _ _ c.play_counted.result c.play_counted.ensures.done s n at steady fails)
