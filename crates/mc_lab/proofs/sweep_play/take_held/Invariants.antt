use Rattle.std.proofs.Common.{◌≡◌, length, map, take}
use Rattle.mc_script.specs.Players.{statics_in}
use Rattle.mc_lab.specs.SweepBodies.{held_value}
use Rattle.mc_lab.proofs.sweep_play.take_held.Given as goal

-- the static bytes under the names up to here
abbrev pub invariant-loop-i : goal.invariant-loop-i
invariant-loop-i g l =
    record {
      size : length l.held ≡ length l.names;
      held : map held_value (take l.i l.held) ≡ map (statics_in g.N.Nvm.state l.player) (take l.i l.names);
    }
