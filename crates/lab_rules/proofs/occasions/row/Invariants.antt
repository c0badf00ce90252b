use Rattle.std.proofs.Common.{◌≡◌, ◌++◌, drop}
use Rattle.lab_rules.specs.Occasions.{row_of}
use Rattle.lab_rules.proofs.occasions.row.Given as goal

-- the row so far, and that of the lines that are left, are the whole
abbrev pub invariant-loop-on : goal.invariant-loop-on
invariant-loop-on l = l.row.items ++ row_of (drop l.on-index l.ons) l.plain ≡ row_of l.fn.ons l.fn.plain
