use Rattle.std.proofs.Common.{drop}
use Rattle.model_play.specs.Play.{State}
use Rattle.mc_script.specs.Players.{device_of, IsPlayerAt}
use Rattle.mc_script.specs.Lines.{bench_of}
use Rattle.mc_script.proofs.Composing.{Between}
use Rattle.mc_script.proofs.player.Player.deck.Given as goal

-- the lines before this one were played
abbrev pub invariant-loop-i : goal.invariant-loop-i
invariant-loop-i g l =
    let state = g.N.Nvm.state in
    let bench = g.N.Bench.bench in
    record {
      between : (s : State) → IsPlayerAt state bench l.fn.self s → Between state bench s l.deck (bench_of state bench l.fn.self) (drop l.i l.deck) l.self;
      keeps_device : g.N.Nvm.same (device_of l.fn.self) (device_of l.self);
    }
