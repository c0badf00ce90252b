use Rattle.std.proofs.Common.{◌≡◌, drop}
use Rattle.mc_lab.specs.Sweeps.{has_mark}
use Rattle.mc_lab.specs.Remarked.{remark_values}
use Rattle.mc_lab.proofs.sweep_marks.has_mark.Given as goal

-- it is among the rest, or nowhere
abbrev pub invariant-loop-mark : goal.invariant-loop-mark
invariant-loop-mark l = has_mark l.number (remark_values (drop l.mark-index l.marks)) ≡ has_mark l.number (remark_values l.marks)
