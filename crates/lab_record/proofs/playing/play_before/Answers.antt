use Rattle.std.specs.Prelude.{take}
use Rattle.std.proofs.Common.{sym, subst}
use Rattle.law_events.specs.law_promise.specs.model_play.specs.Play.{State}
use Rattle.mc_deck.specs.Lines.{line_of}
use Rattle.lab_record.specs.Steady.{state_after, IsSteadyAt}
use Rattle.lab_record.proofs.SteadyLemmas.{after_first, after_next}
use Rattle.lab_record.proofs.playing.play_before.Goals as goal

pub loop-j-init : goal.loop-j-init
loop-j-init g c =
    record {
      playing = c.requires;
      at = λ s at. subst (λ (t : State). IsSteadyAt g.N.Nvm.state g.N.Bench.bench c.args.player.now t) (sym (after_first s c.args.deck.now)) at;
    }

pub loop-j-preserved : goal.loop-j-preserved
loop-j-preserved g c =
    let i = c.loop-j.invariant in
    let line = c.line.result in
    let l = c.play_line in
    let ls = c.args.deck.now in
    record {
      playing = l.ensures.playing;
      at = λ s at. subst (λ (t : State). IsSteadyAt g.N.Nvm.state g.N.Bench.bench l.new.player t) (sym (after_next s ls c.loop-j.j (line.0, line_of line.1) c.line.ensures.line)) (l.ensures.at (state_after s (take c.loop-j.j ls)) line.0 (i.at s at));
    }
