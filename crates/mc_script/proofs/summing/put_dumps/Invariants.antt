use Rattle.std.proofs.Common.{drop, Result}
use Rattle.model_play.specs.Play.{State}
use Rattle.mc_streams.specs.declared.refusals.WriteFault.{WriteFault}
use Rattle.mc_text.specs.Texts.{Sunk, Puts, sunk_in}
use Rattle.mc_script.specs.Players.{IsPlayerAt}
use Rattle.mc_script.specs.Sums.{dumps_text}
use Rattle.mc_script.proofs.summing.put_dumps.Given as goal

-- writing the dump lines that are left from here writes all of them from the start
abbrev pub invariant-loop-i : goal.invariant-loop-i
invariant-loop-i g l =
    (s : State) → IsPlayerAt g.N.Nvm.state g.N.Bench.bench l.player s → (r : Result (Unit {0}) WriteFault) (b : Sunk) → Puts (sunk_in g.T.Sink.taken g.T.Sink.faults l.out) (dumps_text s (drop l.i l.deck)) r b
    → Puts (sunk_in g.T.Sink.taken g.T.Sink.faults l.fn.out) (dumps_text s l.deck) r b
