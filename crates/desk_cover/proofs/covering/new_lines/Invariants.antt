use Rattle.std.proofs.Common.{◌≡◌, ◌++◌, drop}
use Rattle.desk_cover.specs.Counting.{new_lines}
use Rattle.desk_cover.proofs.covering.new_lines.Given as goal

-- the lines of the sections that are left, added from here, are those of all sections
abbrev pub invariant-loop-i : goal.invariant-loop-i
invariant-loop-i l = l.lines.items ++ new_lines l.i (drop l.i l.sections) ≡ new_lines 0 l.sections
