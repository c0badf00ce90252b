use Rattle.std.proofs.Common.{drop, Result}
use Rattle.mc_streams.specs.declared.refusals.WriteFault.{WriteFault}
use Rattle.mc_text.specs.Texts.{Sunk, Puts, sunk_in}
use Rattle.desk_cover.specs.Records.{lines_text}
use Rattle.desk_cover.proofs.lcov.put_lines.Given as goal

-- writing what is left from here writes all from the start
abbrev pub invariant-loop-line : goal.invariant-loop-line
invariant-loop-line g l =
    (r : Result (Unit {0}) WriteFault) (b : Sunk) → Puts (sunk_in g.T.Sink.taken g.T.Sink.faults l.out) (lines_text (drop l.line-index l.lines)) r b
    → Puts (sunk_in g.T.Sink.taken g.T.Sink.faults l.fn.out) (lines_text l.lines) r b
