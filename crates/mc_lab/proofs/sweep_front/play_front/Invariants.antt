use Rattle.std.proofs.Common.{take}
use Rattle.mc_script.specs.Players.{device_of}
use Rattle.mc_lab.specs.Sweeps.{state_on_blank}
use Rattle.mc_lab.specs.SweepPlayers.{IsSteadyAt}
use Rattle.mc_lab.proofs.sweep_front.play_front.Given as goal

-- the lines up to here were played
abbrev pub invariant-loop-i : goal.invariant-loop-i
invariant-loop-i g l =
    record {
      at : IsSteadyAt g.N.Nvm.state g.N.Bench.bench l.player (state_on_blank (take l.i l.deck));
      keeps_device : g.N.Nvm.same l.fn.device (device_of l.player);
    }
