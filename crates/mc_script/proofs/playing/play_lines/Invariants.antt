use Rattle.std.proofs.Common.{◌≡◌, None, drop}
use Rattle.model_play.specs.Play.{start}
use Rattle.mc_script.specs.Players.{device_of}
use Rattle.mc_script.proofs.DeckLemmas.{PlayReached}
use Rattle.mc_script.proofs.playing.play_lines.Given as goal

-- a play of the lines that are left from here makes the play of the whole deck from the start
abbrev pub invariant-loop-i : goal.invariant-loop-i
invariant-loop-i g l =
    record {
      reached : PlayReached g.N.Nvm.state g.N.Bench.bench (g.R.Reporter.text l.fn.reporter) (start (g.N.Nvm.state l.fn.device).words) l.deck (record { device = g.N.Nvm.state l.fn.device; bench = g.N.Bench.bench l.fn.device }) (g.R.Reporter.log l.fn.reporter).out l.fn.steps (drop l.i l.deck) l.player (g.R.Reporter.log l.reporter).out l.steps;
      fault : (g.R.Reporter.log l.reporter).fault ≡ None;
      keeps_device : g.N.Nvm.same l.fn.device (device_of l.player);
      same : g.R.Reporter.same l.fn.reporter l.reporter;
    }
