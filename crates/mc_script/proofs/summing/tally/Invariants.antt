use Rattle.std.proofs.Common.{drop}
use Rattle.model_play.specs.Play.{State}
use Rattle.mc_script.specs.Players.{device_of, IsPlayerAt}
use Rattle.mc_script.specs.Lines.{bench_of}
use Rattle.mc_script.proofs.SumLemmas.{Counting}
use Rattle.mc_script.proofs.summing.tally.Given as goal

-- a play of the lines that are left from here makes the play of the whole deck from the start
abbrev pub invariant-loop-i : goal.invariant-loop-i
invariant-loop-i g l =
    let state = g.N.Nvm.state in
    let bench = g.N.Bench.bench in
    record {
      counting : (s : State) → IsPlayerAt state bench l.fn.player s → Counting state bench s l.deck (bench_of state bench l.fn.player) l.fn.steps (drop l.i l.deck) l.player l.counts l.i l.steps;
      keeps_device : g.N.Nvm.same (device_of l.fn.player) (device_of l.player);
    }
