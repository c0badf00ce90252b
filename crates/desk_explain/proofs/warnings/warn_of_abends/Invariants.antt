use Rattle.std.proofs.Common.{◌≡◌}
use Rattle.desk_explain.specs.Explained.{causes}
use Rattle.desk_explain.proofs.warnings.warn_of_abends.Given as goal

-- only warnings were added
abbrev pub invariant-loop-line : goal.invariant-loop-line
invariant-loop-line l = causes l.entries.items ≡ causes l.fn.entries.items
