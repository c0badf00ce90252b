use Rattle.std.proofs.Common.{ℕ, ap, sym, ◌∙◌}
use Rattle.law_explore.specs.model_device.specs.Bytes.{zeros}
use Rattle.law_explore.specs.model_play.specs.DeckGrammar.{DeckLine}
use Rattle.law_explore.specs.model_play.specs.DeckGrammar as line
use Rattle.mc_deck.specs.Lines.{line_of}
use Rattle.mc_lab.specs.Sweeps.{state_on_blank}
use Rattle.mc_lab.specs.SweepBodies.{front_of, hits}
use Rattle.mc_lab.specs.declared.sweep_trial.TrialLines.TheVariants as trial
use Rattle.mc_lab.proofs.SweepPlayers.{got_or}
use Rattle.mc_lab.proofs.sweep_play.play_reach.Goals as goal

pub play_cut-hit-requires-clause-playing : goal.play_cut-hit-requires-clause-playing
play_cut-hit-requires-clause-playing g c = (_, c.play_front-player.ensures.at.at)

pub returns-clause-hit : goal.returns-clause-hit
returns-clause-hit g c =
    let p = c.args.place.now in
    let l = c.line-number.result in
    let on = c.play_cut-hit.ensures.on (state_on_blank (front_of p)) l.0 l.0 c.play_front-player.ensures.at in
    on.says ∙ ap (λ (x : ℕ × DeckLine). hits (front_of p) x (trial.Cut c.args.k (zeros 8))) (sym (got_or p.deck.now p.at (0, line.Named) (l.0, line_of l.1) c.line-number.ensures.line))
