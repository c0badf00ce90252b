-- the lines so far, and those of the `on` lines that are left, are all
use Rattle.std.proofs.Common.{◌≡◌, ◌++◌, drop}
use Rattle.lab_record.specs.Fitting.{fitting_from}
use Rattle.lab_record.proofs.fitting.fitting.Given as goal

abbrev pub invariant-loop-i : goal.invariant-loop-i
invariant-loop-i l = l.lines.items ++ fitting_from l.i l.event l.text (drop l.i l.ons) ≡ fitting_from 0 l.fn.event l.fn.text l.fn.ons
