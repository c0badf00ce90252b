use Rattle.std.proofs.Common.{◌-◌, drop, length}
use Rattle.mc_text.specs.Texts.{sunk_in}
use Rattle.mc_lab.specs.Remarked.{remark_values}
use Rattle.mc_lab.proofs.SweepRows.{AboveLeft}
use Rattle.mc_lab.proofs.sweep_marks.put_above.Given as goal

-- what is left to do of the later marks leads where all of them lead
abbrev pub invariant-loop-next : goal.invariant-loop-next
invariant-loop-next g l =
    AboveLeft l.number l.last (drop l.from (remark_values l.marks)) (drop l.next (remark_values l.marks)) l.whole (sunk_in g.T.Sink.taken g.T.Sink.faults l.fn.out) (sunk_in g.T.Sink.taken g.T.Sink.faults l.out)

abbrev pub decreases-loop-next : goal.decreases-loop-next
decreases-loop-next g l = length l.marks - l.next
