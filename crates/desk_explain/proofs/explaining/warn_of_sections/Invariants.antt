use Rattle.std.proofs.Common.{◌≡◌}
use Rattle.desk_explain.specs.Explained.{causes}
use Rattle.desk_explain.proofs.explaining.warn_of_sections.Given as goal

-- only warnings were added
abbrev pub invariant-loop-i : goal.invariant-loop-i
invariant-loop-i l = causes l.entries.items ≡ causes l.fn.entries.items
