use Rattle.std.proofs.Common.{Result, length}
use Rattle.law_explore.specs.model_text.specs.Text.{is_blank, pieces}
use Rattle.mc_streams.specs.declared.refusals.WriteFault.{WriteFault}
use Rattle.mc_text.specs.Texts.{Sunk, Puts, sunk_in}
use Rattle.mc_lab.specs.Expectations.{laid_by}
use Rattle.mc_lab.proofs.laying.put_by_words.Given as goal

-- a writer of the rest, laid out by the rest of the words, writes all from the start
abbrev pub invariant-loop-behind : goal.invariant-loop-behind
invariant-loop-behind g l =
    record {
      reported : (r : Result (Unit {0}) WriteFault) (b : Sunk) → Puts (sunk_in g.T.Sink.taken g.T.Sink.faults l.out) (laid_by (pieces is_blank l.signs) l.rest) r b
          → Puts (sunk_in g.T.Sink.taken g.T.Sink.faults l.fn.out) (laid_by (pieces is_blank l.fn.pattern) l.fn.text) r b;
    }

abbrev pub decreases-loop-behind : goal.decreases-loop-behind
decreases-loop-behind g l = length l.signs
