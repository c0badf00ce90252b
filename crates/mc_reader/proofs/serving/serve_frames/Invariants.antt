use Rattle.std.proofs.Common.{◌≡◌, ℕ, length}
use Rattle.mc_deck.specs.model_play.specs.Play.{State}
use Rattle.mc_text.specs.Texts.{sunk_in}
use Rattle.mc_script.specs.Players.{device_of, IsPlayerAt}
use Rattle.mc_script.specs.Lines.{bench_of}
use Rattle.mc_reader.proofs.LoopLemmas.{SessionReached}
use Rattle.mc_reader.proofs.serving.serve_frames.Given as goal

-- whatever the frames that follow do, all frames from the start do
abbrev pub invariant-loop-before : goal.invariant-loop-before
invariant-loop-before g l =
    let host = g.H.Host in
    let state = g.N.Nvm.state in
    let bench = g.N.Bench.bench in
    let out = sunk_in g.T.Sink.taken g.T.Sink.faults in
    record {
      reached :
          (s : State) (n : ℕ) → IsPlayerAt state bench l.fn.player s
          → SessionReached state bench s n (record { left = host.left l.fn.input; reads = host.faults l.fn.input; out = out l.fn.out; dev = bench_of state bench l.fn.player; asked = host.moments l.fn.input }) l.before l.player l.powered (record { left = host.left l.input; reads = host.faults l.input; asked = host.moments l.input }) (out l.out);
      room : length l.room ≡ 65535;
      keeps_device : g.N.Nvm.same (device_of l.fn.player) (device_of l.player);
    }
