-- the lines that are left do to the amounts what all do to the first ones
use Rattle.std.proofs.Common.{◌≡◌, drop}
use Rattle.lab_history.specs.Applying.{lines_effect}
use Rattle.lab_history.proofs.applying.apply_lines.Given as goal

abbrev pub invariant-loop-i : goal.invariant-loop-i
invariant-loop-i l = lines_effect l.ons (drop l.i-index l.lines) l.amounts ≡ lines_effect l.fn.ons l.fn.lines l.fn.amounts
