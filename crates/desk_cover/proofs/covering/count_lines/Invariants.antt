use Rattle.std.proofs.Common.{drop}
use Rattle.mc_deck.specs.model_play.specs.Play.{start}
use Rattle.mc_script.specs.Players.{device_of}
use Rattle.desk_cover.proofs.PlayLemmas.{Counting}
use Rattle.desk_cover.proofs.covering.count_lines.Given as goal

-- a play of the lines that are left from here makes the play of the whole deck from the start
abbrev pub invariant-loop-i : goal.invariant-loop-i
invariant-loop-i g l =
    record {
      counting : Counting g.N.Nvm.state g.N.Bench.bench (start (g.N.Nvm.state l.fn.device).words) l.deck (record { device = g.N.Nvm.state l.fn.device; bench = g.N.Bench.bench l.fn.device }) l.fn.counter (drop l.i l.deck) l.player l.counter;
      keeps_device : g.N.Nvm.same l.fn.device (device_of l.player);
    }
