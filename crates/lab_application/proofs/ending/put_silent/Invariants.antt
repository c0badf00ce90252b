use Rattle.std.proofs.Common.{Result, drop}
use Rattle.mc_streams.specs.declared.refusals.WriteFault.{WriteFault}
use Rattle.mc_text.specs.Texts.{Puts, Sunk, sunk_in}
use Rattle.lab_application.specs.Texts.{silent_from}
use Rattle.lab_application.proofs.ending.put_silent.Given as goal

-- what the later lines put completes what all lines put
abbrev pub invariant-loop-i : goal.invariant-loop-i
invariant-loop-i g l =
    (r : Result (Unit {0}) WriteFault) (c : Sunk)
    → Puts (sunk_in g.T.Sink.taken g.T.Sink.faults l.out) (silent_from l.i (drop l.i l.ons) l.heard) r c
    → Puts (sunk_in g.T.Sink.taken g.T.Sink.faults l.fn.out) (silent_from 0 l.fn.ons l.fn.heard) r c
