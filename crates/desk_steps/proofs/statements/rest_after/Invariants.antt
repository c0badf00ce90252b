use Rattle.std.proofs.Common.{◌≡◌, ◌-◌}
use Rattle.desk_steps.specs.Statements.{rest_after}
use Rattle.desk_steps.proofs.statements.rest_after.Given as goal

-- what is left after the lines from here on is left after all of them
abbrev pub invariant-loop-line : goal.invariant-loop-line
invariant-loop-line l = record { rest : rest_after (l.count - l._line) l.rest ≡ rest_after l.count l.text }
