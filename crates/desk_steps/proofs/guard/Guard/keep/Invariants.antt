use Rattle.std.proofs.Common.{◌≡◌, ◌+◌, ◌-◌}
use Rattle.law_steps.specs.Writes.{with_waits}
use Rattle.desk_steps.proofs.guard.Guard.keep.Given as goal

-- the words that are left, kept from here, are all of them, kept from the start
abbrev pub invariant-loop-number : goal.invariant-loop-number
invariant-loop-number l = record { rest : with_waits l.number (l.first + l.count - l.number) l.self ≡ with_waits l.first l.count l.fn.self }
