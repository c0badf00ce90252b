-- the lines so far, and those of the `on` lines that are left, are all
use Rattle.std.proofs.Common.{◌≡◌, ◌++◌, drop}
use Rattle.lab_record.specs.Courses.{answered_from}
use Rattle.lab_record.proofs.recording.answered.Given as goal

abbrev pub invariant-loop-i : goal.invariant-loop-i
invariant-loop-i l = l.lines.items ++ answered_from l.i l.command l.text (drop l.i l.ons) ≡ answered_from 0 l.fn.command l.fn.text l.fn.ons
