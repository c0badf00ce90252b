use Rattle.std.specs.Prelude.{take}
use Rattle.law_events.specs.law_promise.specs.model_play.specs.Play.{State}
use Rattle.mc_script.specs.Players.{IsPlaying}
use Rattle.lab_record.specs.Steady.{state_after, IsSteadyAt}
use Rattle.lab_record.proofs.playing.play_before.Given as goal

-- the lines up to here were played
abbrev pub invariant-loop-j : goal.invariant-loop-j
invariant-loop-j g l =
    record {
      playing : IsPlaying g.N.Nvm.state g.N.Bench.bench l.player;
      at : (s : State) → IsSteadyAt g.N.Nvm.state g.N.Bench.bench l.fn.player s → IsSteadyAt g.N.Nvm.state g.N.Bench.bench l.player (state_after s (take l.j l.deck));
    }
