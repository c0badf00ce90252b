-- no line so far is about a sum
use Rattle.std.proofs.Common.{◌≡◌, drop}
use Rattle.lab_record.specs.Fitting.{are_sums}
use Rattle.lab_record.proofs.fitting.move_sums.Given as goal

abbrev pub invariant-loop-i : goal.invariant-loop-i
invariant-loop-i l = are_sums l.ons (drop l.i-index l.lines) ≡ are_sums l.fn.ons l.fn.lines
